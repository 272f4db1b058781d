-- `start` meets its contract, by the rows that turn it down and by the words that it writes.
use Prim.Native.Nat.{◌+◌, ◌*◌, ◌≤◌}
use native.Mathlib.Omega.{arith}
use mathlib.Core.Path.{refl}
use lib.ListN.{length}
use Rattle.std.proofs.lemmas.Result.{err_from_is_err_and}
use Rattle.refusals.proofs.Table.{number_positive}
use Rattle.insertion.proofs.starting.Outcomes.{start_room, start_refused, start_done}
use Rattle.insertion.proofs.starting.start.Goals.{In_ok-start_row}
use Rattle.insertion.proofs.starting.start.Goals as goal

room : (c : In_ok-start_row) → 8 + 5 * c.args.capacity ≤ length c.args.w.now
room c = start_room _ _ c.in_ok-start_row.ensures refl

pub returns-in_err-start_row : goal.returns-in_err-start_row
returns-in_err-start_row c =
    let p = err_from_is_err_and c.from_residual.result c.from_residual.ensures.1 in
    rw (p.1, p.2) (start_refused _ _ c.in_err-start_row.ensures (number_positive _))

pub overflow_mul-capacity : goal.overflow_mul-capacity
overflow_mul-capacity c = omega (arith, room (goal.at.overflow_mul-capacity c).In_ok-start_row)

pub overflow_add-capacity : goal.overflow_add-capacity
overflow_add-capacity c = omega (arith, room (goal.at.overflow_add-capacity c).In_ok-start_row)

pub clear-requires : goal.clear-requires
clear-requires c = omega (arith, room (goal.at.clear-requires c).In_ok-start_row)

pub put_header-requires : goal.put_header-requires
put_header-requires c = omega (arith, room (goal.at.put_header-requires c).In_ok-start_row)

pub returns : goal.returns
returns c = start_done _ _ _ _ _ c.in_ok-start_row.ensures refl refl c.clear.ensures c.put_header.ensures
