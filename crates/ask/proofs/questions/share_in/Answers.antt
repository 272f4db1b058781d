-- `share_in` meets its contract: the kept total in millionths of the box.
use mathlib.Core.Path.{◌≡◌, ap, ◌∙◌}
use native.Mathlib.Omega.{arith}
use Rattle.hypervolume.specs.Cells.{box}
use Rattle.words.proofs.Passed.{reference_small}
use Rattle.words.specs.Layout.{read}
use Rattle.calls.specs.Calls.{box_of}
use Rattle.calls.proofs.Known.{known}
use Rattle.ask.proofs.questions.Asking.{share_asks, share_value}
use Rattle.ask.proofs.questions.share_in.Goals.{After-box_of}
use Rattle.ask.proofs.questions.share_in.Goals as goal

boxed : (c : After-box_of) → c.box_of.result ≡ box_of (read c.args.w.now)
unfolding read
boxed c = c.box_of.ensures ∙ ap box c.reference_of.ensures

pub bounds-w-5 : goal.bounds-w-5
bounds-w-5 c = omega (arith, known c.args.w.now c.requires)

pub box_of-requires : goal.box_of-requires
box_of-requires c = reference_small _ _ (known c.args.w.now c.requires).shaped c.reference_of.ensures

pub millionths-requires : goal.millionths-requires
millionths-requires c = share_asks c.args.w.now _ c.requires (boxed (goal.at.millionths-requires c).After-box_of)

pub returns : goal.returns
returns c = share_value c.args.w.now _ _ c.requires (boxed (goal.at.returns c).After-box_of) c.millionths.ensures
