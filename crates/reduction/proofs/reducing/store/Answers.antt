-- `store` meets its contract: the records, the zeros behind them, the count and the total.
use Prim.Native.Nat.{◌≤◌}
use mathlib.Core.Path.{refl}
use native.Mathlib.Omega.{arith}
use lib.ListN.{length, length-set}
use Rattle.reduction.proofs.reducing.Storing.{records_room, zeros_room, zeros_fit, header_room, stored}
use Rattle.reduction.proofs.reducing.store.Goals.{After-clear}
use Rattle.reduction.proofs.reducing.store.Goals as goal

header : (c : After-clear) → 8 ≤ length c.clear.new.w
header c = header_room c.requires c.put_records.new.w c.clear.new.w c.put_records.auto.w c.clear.auto.w

pub put_records-requires : goal.put_records-requires
put_records-requires c = (records_room c.requires, c.requires.numbers_room, c.requires.points_room, c.requires.kept_room)

pub overflow_mul-n : goal.overflow_mul-n
overflow_mul-n c = omega (arith, zeros_fit c.requires)

pub clear-requires : goal.clear-requires
clear-requires c = zeros_room c.requires c.put_records.new.w c.put_records.auto.w

pub bounds-w-0 : goal.bounds-w-0
bounds-w-0 c = omega (arith, header (goal.at.bounds-w-0 c).After-clear)

pub bounds-w-5 : goal.bounds-w-5
bounds-w-5 c = omega (arith, header (goal.at.bounds-w-5 c).After-clear, length-set c.clear.new.w 0 c.args.m)

pub bounds-w-6 : goal.bounds-w-6
bounds-w-6 c = simp length-set (omega (arith, header (goal.at.bounds-w-6 c).After-clear))

pub returns : goal.returns
returns c = stored c.put_records.new.w c.clear.new.w _ _ _ c.requires c.put_records.ensures c.clear.ensures refl
