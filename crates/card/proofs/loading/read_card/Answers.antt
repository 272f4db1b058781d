-- `card::loading::read_card` meets its contract. The loop's invariant: loading comes to what it comes to from the line
-- next due on, with the words so far (Reading). The measure is the number of lines left.
use Prim.Native.Nat.{◌-◌}
use mathlib.Core.Path.{◌≡◌, refl, sym, ap, ◌∙◌}
use native.Mathlib.Omega.{arith}
use Rattle.std.proofs.lemmas.Result.{err_from_is_err_and}
use Rattle.refusals.proofs.Table.{number_positive}
use Rattle.text.specs.Lines.{numbers_of}
use Rattle.ask.proofs.Arrays.{room, arrays_kept}
use Rattle.card.proofs.CardLines.{Inside, inside}
use Rattle.card.proofs.Refusing.{none_as, refused_at, passed_at}
use Rattle.card.proofs.loading.ReadCard.{card_missing, Started, first_refused, first_done, started_comes_to, reading_none, reading_passes, reading_more, reading_stop, reading_end}
use Rattle.card.proofs.loading.read_card.Goals.{In_ok-first, In_ok-at_line, In-Some}
use Rattle.card.proofs.loading.read_card.Goals as goal

-- Line 1, the words that it started, and the line next due.
first_line : (c : In_ok-first) → Inside c.args.card.now 1 (numbers_of c.in_ok-first.first)
first_line c = inside _ (rw (c.in_ok-first.ensures.ok_part, c.new-reader.ensures.0, c.new-reader.ensures.1) at c.next.ensures.due)

begun : (c : In_ok-at_line) → Inside c.args.card.now 1 (numbers_of c.in_ok-first.first) → Started c.args.w.now c.args.card.now c.first_line.new.w
begun c i = first_done _ _ i c.first_line.ensures.0 (passed_at _ _ _ c.in_ok-at_line.ensures) c.first_line.ensures.1

next_line : (c : In-Some) → Inside c.args.card.now c.loop-l.reader.line (numbers_of c.in-Some.l)
next_line c = inside _ (rw c.loop-l.invariant.2 at c.in-Some.ensures.due)

pub returns-in_err-first : goal.returns-in_err-first
returns-in_err-first c =
    let p = err_from_is_err_and c.from_residual.result c.from_residual.ensures.1 in
    rw (p.1, p.2, none_as _ _ _ c.in_err-first.ensures.value c.in_err-first.ensures.ok_part)
    (card_missing _ _ (rw (c.in_err-first.ensures.ok_part, c.new-reader.ensures.0, c.new-reader.ensures.1) at c.next.ensures.due) refl)

pub returns-in_err-at_line : goal.returns-in_err-at_line
returns-in_err-at_line c =
    let p = err_from_is_err_and c.from_residual-in_err-at_line.result c.from_residual-in_err-at_line.ensures.1 in
    let line = refused_at _ _ _ c.in_err-at_line.ensures in
    rw (p.1, p.2)
    (first_refused _ _ (first_line (goal.at.returns-in_err-at_line c).In_ok-first) (line.0 ∙ c.first_line.ensures.0) (number_positive _) (rw line.1))

pub loop-l-init : goal.loop-l-init
loop-l-init c =
    let at = goal.at.loop-l-init c in
    let first = first_line at.In_ok-first in
    let second : c.next.new.self.line ≡ 2 = rw (c.in_ok-first.ensures.ok_part, c.new-reader.ensures.1) at c.next.ensures.line in (
      rw second (reading_none first (begun at.In_ok-at_line first)),
      record { points_long = refl; corners_long = refl; places_long = refl; line_long = refl; counts_long = refl },
      ap (λ card. card.now) (c.next.ensures.card ∙ c.new-reader.ensures.0),
    )

pub slice_bounds-further_line-end : goal.slice_bounds-further_line-end
slice_bounds-further_line-end c = sym c.loop-l.invariant.1.points_long

pub slice_bounds-further_line-end-in-Some : goal.slice_bounds-further_line-end-in-Some
slice_bounds-further_line-end-in-Some c = sym c.loop-l.invariant.1.corners_long

pub slice_bounds-further_line-end-in-Some-2 : goal.slice_bounds-further_line-end-in-Some-2
slice_bounds-further_line-end-in-Some-2 c = sym c.loop-l.invariant.1.places_long

pub slice_bounds-further_line-end-in-Some-3 : goal.slice_bounds-further_line-end-in-Some-3
slice_bounds-further_line-end-in-Some-3 c = sym c.loop-l.invariant.1.line_long

pub slice_bounds-further_line-end-in-Some-4 : goal.slice_bounds-further_line-end-in-Some-4
slice_bounds-further_line-end-in-Some-4 c = sym c.loop-l.invariant.1.counts_long

pub further_line-entered-requires : goal.further_line-entered-requires
further_line-entered-requires c = (reading_passes c.loop-l.invariant.0, room c.loop-l.invariant.1)

pub returns-in_err-at_line-2 : goal.returns-in_err-at_line-2
returns-in_err-at_line-2 c =
    let at = goal.at.returns-in_err-at_line-2 c in
    let p = err_from_is_err_and c.from_residual-in_err-at_line-2.result c.from_residual-in_err-at_line-2.ensures.1 in
    let line = refused_at _ _ _ c.in_err-at_line-2.ensures in
    let here : c.next-in-loop-l.new.self.line - 1 ≡ c.loop-l.reader.line = omega (arith, c.in-Some.ensures.line) in
    rw (p.1, p.2)
    (reading_stop c.loop-l.invariant.0 (next_line at.In-Some) (rw (← line.0) at c.further_line-entered.ensures) _
    (started_comes_to (begun at.In_ok-at_line (first_line at.In_ok-first))) (number_positive _) (rw (line.1, here)))

pub overflow_sub-reader : goal.overflow_sub-reader
overflow_sub-reader c = omega (arith, c.in-Some.ensures.line)

pub loop-l-smaller : goal.loop-l-smaller
loop-l-smaller c = omega (arith, c.in-Some.ensures.line, next_line (goal.at.loop-l-smaller c).In-Some)

pub loop-l-preserved : goal.loop-l-preserved
loop-l-preserved c = (
  rw c.in-Some.ensures.line
      (reading_more c.loop-l.invariant.0 (next_line (goal.at.loop-l-preserved c).In-Some) c.further_line-entered.ensures (passed_at _ _ _ c.in_ok-at_line-2.ensures) c.further_line-entered.auto.w),
  arrays_kept c.loop-l.invariant.1 c.further_line-entered.auto.points c.further_line-entered.auto.corners c.further_line-entered.auto.places c.further_line-entered.auto.column c.further_line-entered.auto.counts,
  ap (λ card. card.now) c.in-Some.ensures.card ∙ c.loop-l.invariant.2,
)

pub renew-requires : goal.renew-requires
renew-requires c = reading_passes c.loop-l.invariant.0

pub overflow_sub-result : goal.overflow_sub-result
overflow_sub-result c = omega (arith, c.in_default.ensures.line, c.loop-l.invariant.0.second)

pub shape_of-w : goal.shape_of-w
shape_of-w c = c.renew.auto.w ∙ c.loop-l.invariant.0.same ∙ c.first_line.auto.w

pub returns : goal.returns
returns c =
    let at = goal.at.returns c in
    rw c.in_default.ensures.line
    (reading_end c.loop-l.invariant.0 (begun at.In_ok-at_line (first_line at.In_ok-first)) (rw c.loop-l.invariant.2 at c.in_default.ensures.due) c.renew.ensures)
