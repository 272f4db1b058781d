-- `answer_of` meets its contract: each field from the totals.
use mathlib.Core.Path.{◌≡◌, sym, ap, ◌∙◌}
use native.Mathlib.Omega.{arith}
use lib.ListN.{length}
use Rattle.rounding.specs.Nearest.{nearest}
use Rattle.hypervolume.specs.Cells.{holds, box}
use Rattle.words.specs.Layout.{read}
use Rattle.words.proofs.Passed.{reference_small}
use Rattle.calls.specs.Calls.{box_of}
use Rattle.calls.proofs.Known.{known}
use Rattle.figures.specs.Figures.{ascending}
use Rattle.figures.proofs.Loading.{first_passes, runs_totals, sorted_long, share_asks}
use Rattle.figures.proofs.Sorting.{sum_added}
use Rattle.figures.proofs.Theorem.{sum_small}
use Rattle.figures.proofs.Answering.{answer_is}
use Rattle.figures.proofs.runs.answer_of.Goals.{Start, After-box_of}
use Rattle.figures.proofs.runs.answer_of.Goals as goal

boxed : (c : After-box_of) → c.box_of.result ≡ box_of (read c.args.w.now)
unfolding read
boxed c = c.box_of.ensures ∙ ap box c.reference_of.ensures

-- A number for each archive stands in ascending order.
long : (c : Start) → length c.args.sorted.now ≡ length c.args.starts.now
long c = sorted_long c.requires.0 c.requires.1 c.requires.2

pub bounds-sorted-0 : goal.bounds-sorted-0
bounds-sorted-0 c = omega (arith, long (goal.at.bounds-sorted-0 c).Start, c.requires.0.some)

pub bounds-sorted-n : goal.bounds-sorted-n
bounds-sorted-n c = omega (arith, long (goal.at.bounds-sorted-n c).Start, c.requires.0.some)

pub bounds-sorted-n-2 : goal.bounds-sorted-n-2
bounds-sorted-n-2 c = omega (arith, long (goal.at.bounds-sorted-n-2 c).Start, c.requires.0.some)

pub sum-requires : goal.sum-requires
sum-requires c =
    omega (arith, sum_small _ (runs_totals c.requires.0 c.requires.1), sum_added c.args.numbers.now)

pub reference_of-requires : goal.reference_of-requires
reference_of-requires c = first_passes c.requires.0

pub box_of-requires : goal.box_of-requires
box_of-requires c =
    reference_small _ _ (known _ (first_passes c.requires.0)).shaped c.reference_of.ensures

pub millionths-requires : goal.millionths-requires
millionths-requires c =
    let asked = c.requires in
    share_asks asked.0 _ (boxed (goal.at.millionths-requires c).After-box_of) (asked.2 ∙ ap ascending asked.1) (omega (arith, asked.0.some))

pub returns : goal.returns
returns c =
    let asked = c.requires in
    answer_is asked.0 asked.1 asked.2 (c.sum.ensures ∙ sym (sum_added _)) (c.millionths.ensures ∙ ap (nearest _) (boxed (goal.at.returns c).After-box_of)) (ap holds c.all_audited.ensures)
