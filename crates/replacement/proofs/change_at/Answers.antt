-- `change_at` meets its contract: the difference of the two gains.
use mathlib.Core.Path.{◌≡◌, sym, subst}
use native.Mathlib.Omega.{arith}
use borrow.Author.Rules.{rules}
use Rattle.hypervolume.specs.Sorted.{Small}
use Rattle.words.specs.Archive.{point}
use Rattle.words.specs.Places.{row_at}
use Rattle.words.proofs.Places.{held_small, point_at}
use Rattle.replacement.proofs.Places.{gain_few}
use Rattle.replacement.proofs.change_at.Goals.{After-record_at-own}
use Rattle.replacement.proofs.change_at.Goals as goal

read_point : (c : After-record_at-own) → c.record_at-own.result.point.at ≡ point (row_at c.args.w.now c.args.i).trial
read_point c = point_at c.args.w.now c.args.i c.record_at-own.result (search rules) c.record_at-own.ensures

pub gain_but-before-requires : goal.gain_but-before-requires
gain_but-before-requires c =
    (c.requires.0, c.requires.1, subst (λ q. Small q) (sym (read_point (goal.at.gain_but-before-requires c).After-record_at-own)) (held_small c.args.w.now _ c.requires.0 c.requires.1))

pub difference-requires : goal.difference-requires
difference-requires c =
    let new = gain_few c.args.w.now c.args.i c.args.p.at c.requires.0 in
    let own = gain_few c.args.w.now c.args.i c.record_at-own.result.point.at c.requires.0 in
    (omega (arith, new, own, c.gain_but-after.ensures, c.gain_but-before.ensures), omega (arith, new, own, c.gain_but-after.ensures, c.gain_but-before.ensures))
