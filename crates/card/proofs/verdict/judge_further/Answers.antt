-- `card::verdict::judge_further` meets its contract. The loop's invariant: the verdict is what it is from the line next due
-- on, with the archive so far (Judged). The measure is the number of lines left.
use Prim.Native.Nat.{◌+◌, ◌≤◌}
use mathlib.Core.Path.{◌≡◌, refl, sym, ◌∙◌}
use mathlib.Core.Option.{some}
use native.Mathlib.Omega.{arith}
use lib.ListN.{length}
use Rattle.std.specs.Prelude.{Some}
use Rattle.std.proofs.lemmas.Result.{err_from_is_err_and}
use Rattle.refusals.proofs.Table.{number_positive}
use Rattle.text.specs.Lines.{numbers_of}
use Rattle.card.specs.Card.{due}
use Rattle.card.specs.Further.{number_due, further_rows}
use Rattle.card.proofs.CardLines.{inside, few_lines}
use Rattle.card.proofs.Refusing.{none_as, refused_at, passed_at}
use Rattle.card.proofs.verdict.FurtherLines.{judged_none, judged_unmet, judged_more, judged_stop, judged_end}
use Rattle.card.proofs.verdict.judge_further.Goals.{At-loop-l, In_ok-l}
use Rattle.card.proofs.verdict.judge_further.Goals as goal

-- There are no more lines than bytes.
few : (c : At-loop-l) → c.loop-l.count ≤ length c.args.card.now
few c = omega (arith, c.loop-l.invariant.inside, few_lines c.args.card.now)

-- The line due, where it is of the form.
here : (c : In_ok-l) → some (numbers_of (Some c.in_ok-l.l)) ≡ due c.args.card.now (c.loop-l.count + 2)
here c = rw c.in_ok-l.ensures.ok_part at c.in-Some.ensures

pub loop-l-init : goal.loop-l-init
loop-l-init c = judged_none _ _ _ refl

pub overflow_add-count : goal.overflow_add-count
overflow_add-count c = omega (arith, few (goal.at.overflow_add-count c).At-loop-l)

pub overflow_add-line : goal.overflow_add-line
overflow_add-line c = omega (arith, few (goal.at.overflow_add-line c).At-loop-l)

pub returns-in_err-l : goal.returns-in_err-l
unfolding further_rows
returns-in_err-l c =
    let p = err_from_is_err_and c.from_residual.result c.from_residual.ensures.1 in
    rw (p.1, p.2, none_as _ _ _ c.in_err-l.ensures.value c.in_err-l.ensures.ok_part)
    (judged_stop c.loop-l.invariant (rw c.in_err-l.ensures.ok_part at c.in-Some.ensures) refl (λ z. omega arith) refl)

pub slice_bounds-mark-end : goal.slice_bounds-mark-end
slice_bounds-mark-end c = sym c.loop-l.invariant.sized

pub mark-met-requires : goal.mark-met-requires
mark-met-requires c = c.loop-l.invariant.sized

pub further_row-requires : goal.further_row-requires
further_row-requires c =
    (few (goal.at.further_row-requires c).At-loop-l, judged_unmet c.loop-l.invariant refl c.mark-met.ensures.value)

pub returns-in_err-at_line : goal.returns-in_err-at_line
unfolding number_due
returns-in_err-at_line c =
    let p = err_from_is_err_and c.from_residual-in_err-at_line.result c.from_residual-in_err-at_line.ensures.1 in
    let line = refused_at _ _ _ c.in_err-at_line.ensures in
    rw (p.1, p.2)
    (judged_stop c.loop-l.invariant (here (goal.at.returns-in_err-at_line c).In_ok-l) (line.0 ∙ c.further_row.ensures) (number_positive _) (rw line.1))

pub overflow_add-count-in-Some : goal.overflow_add-count-in-Some
overflow_add-count-in-Some c = omega (arith, few (goal.at.overflow_add-count-in-Some c).At-loop-l)

pub loop-l-smaller : goal.loop-l-smaller
loop-l-smaller c = omega (arith, inside _ c.in-Some.ensures)

pub loop-l-preserved : goal.loop-l-preserved
unfolding number_due
loop-l-preserved c =
    judged_more c.loop-l.invariant (here (goal.at.loop-l-preserved c).In_ok-l) c.further_row.ensures (passed_at _ _ _ c.in_ok-at_line.ensures)
    refl c.mark-met.ensures.marking c.mark-met.auto.table

pub returns : goal.returns
returns c = judged_end c.loop-l.invariant c.in_default.ensures
