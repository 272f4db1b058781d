-- `rearrange_rows` meets its contract: each way out in turn.
use mathlib.Core.Path.{sym}
use native.Mathlib.Omega.{arith}
use Rattle.std.proofs.lemmas.Result.{err_from_is_err_and}
use Rattle.refusals.proofs.Table.{number_positive}
use Rattle.calls.proofs.Known.{known}
use Rattle.axes.proofs.Rows.{archive_row, row_22, row_13, row_1, no_row}
use Rattle.axes.proofs.rearranging.rearrange_rows.Goals as goal

pub returns-in_err-refusal : goal.returns-in_err-refusal
returns-in_err-refusal c =
    let p = err_from_is_err_and c.from_residual.result c.from_residual.ensures.1 in
    rw (p.1, p.2) (archive_row _ _ _ c.in_err-refusal.ensures (number_positive _))

pub returns-then-order-gt5 : goal.returns-then-order-gt5
returns-then-order-gt5 c = row_22 _ _ _ (sym c.in_ok-refusal.ensures) c.if-order-gt5.true

pub returns-then-not-audited : goal.returns-then-not-audited
returns-then-not-audited c = row_13 _ _ _ (sym c.in_ok-refusal.ensures) c.if-order-gt5.false _ c.audited.ensures c.if-not-audited.true

pub bounds-w-1 : goal.bounds-w-1
bounds-w-1 c = omega (arith, known _ (sym c.in_ok-refusal.ensures))

pub overflow_mul-w : goal.overflow_mul-w
overflow_mul-w c = omega (arith, known _ (sym c.in_ok-refusal.ensures))

pub overflow_add-w : goal.overflow_add-w
overflow_add-w c = omega (arith, known _ (sym c.in_ok-refusal.ensures))

pub returns-then-room-w : goal.returns-then-room-w
returns-then-room-w c = row_1 _ _ _ (sym c.in_ok-refusal.ensures) c.if-order-gt5.false _ c.audited.ensures c.if-not-audited.false c.if-room-w.true

pub returns : goal.returns
returns c = no_row _ _ _ (sym c.in_ok-refusal.ensures) c.if-order-gt5.false _ c.audited.ensures c.if-not-audited.false c.if-room-w.false
