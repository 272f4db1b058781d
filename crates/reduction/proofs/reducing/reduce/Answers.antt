-- `reduce` meets its contract: refused, turned down, or all the drops.
use mathlib.Core.Path.{refl, sym}
use native.Mathlib.Omega.{arith}
use Rattle.std.proofs.lemmas.Result.{err_from_is_err_and}
use Rattle.refusals.proofs.Table.{number_positive}
use Rattle.calls.proofs.Known.{known}
use Rattle.reduction.proofs.reducing.Rows.{reducible}
use Rattle.reduction.proofs.reducing.Outcomes.{reduce_refused, reduce_turned, reduce_dropped}
use Rattle.reduction.proofs.reducing.reduce.Goals as goal

pub returns-in_err-refusal : goal.returns-in_err-refusal
returns-in_err-refusal c =
    let p = err_from_is_err_and c.from_residual.result c.from_residual.ensures.1 in
    rw (p.1, p.2) (reduce_refused c.args.w.now _ _ _ _ _ c.in_err-refusal.ensures (number_positive _) refl)

pub returns-in_err-reduce_rows : goal.returns-in_err-reduce_rows
returns-in_err-reduce_rows c =
    let p = err_from_is_err_and c.from_residual-in_err-reduce_rows.result c.from_residual-in_err-reduce_rows.ensures.1 in
    rw (p.1, p.2) (reduce_turned c.args.w.now _ _ _ _ _ (sym c.in_ok-refusal.ensures) c.in_err-reduce_rows.ensures (number_positive _) refl)

pub bounds-w-0 : goal.bounds-w-0
bounds-w-0 c = omega (arith, known c.args.w.now (sym c.in_ok-refusal.ensures))

pub overflow_sub-drops : goal.overflow_sub-drops
overflow_sub-drops c = (reducible c.args.w.now _ _ _ (sym c.in_ok-reduce_rows.ensures)).above

pub reduce_by-requires : goal.reduce_by-requires
reduce_by-requires c =
    let able = reducible c.args.w.now _ _ _ (sym c.in_ok-reduce_rows.ensures) in
    (sym c.in_ok-refusal.ensures, able.counted, omega (arith, able.above), able.room)

pub returns : goal.returns
returns c =
    reduce_dropped c.args.w.now _ _ _ _ _ _ _ (sym c.in_ok-refusal.ensures)
    (sym c.in_ok-reduce_rows.ensures) refl c.reduce_by.ensures refl
