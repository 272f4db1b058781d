-- `write_by` meets its contract: records, zeros behind them, and the header.
use native.Mathlib.Omega.{arith}
use Rattle.words.specs.Layout.{extent}
use Rattle.calls.proofs.Known.{known}
use Rattle.axes.proofs.rearranging.Storing.{archive_stored}
use Rattle.axes.proofs.rearranging.write_by.Goals as goal

pub bounds-w-0 : goal.bounds-w-0
bounds-w-0 c = omega (arith, known _ c.requires.0)

pub bounds-w-1 : goal.bounds-w-1
bounds-w-1 c = omega (arith, known _ c.requires.0)

pub put_records-requires : goal.put_records-requires
unfolding extent
put_records-requires c =
    (c.requires.0, c.requires.1, c.arrange.ensures.named, omega (arith, c.requires.4, known _ c.requires.0))

pub overflow_sub-capacity : goal.overflow_sub-capacity
overflow_sub-capacity c = (known _ c.requires.0).held_within

pub overflow_mul-capacity : goal.overflow_mul-capacity
unfolding extent
overflow_mul-capacity c = omega (arith, c.requires.4)

pub clear-requires : goal.clear-requires
unfolding extent
clear-requires c = omega (arith, c.put_records.auto.second, c.requires.4, known _ c.requires.0)

pub bounds-w-0-2 : goal.bounds-w-0-2
bounds-w-0-2 c = omega (arith, known _ c.requires.0)

pub bounds-w-5 : goal.bounds-w-5
bounds-w-5 c = omega (arith, known _ c.requires.0)

pub bounds-w-6 : goal.bounds-w-6
bounds-w-6 c = omega (arith, known _ c.requires.0)

pub put_header-requires : goal.put_header-requires
unfolding extent
put_header-requires c = omega (arith, c.clear.auto.w, c.put_records.auto.second, c.requires.4)

pub returns : goal.returns
returns c =
    archive_stored _ _ _ _ _ _ _ _ c.requires.0 c.requires.4 c.arrange.ensures c.put_records.ensures c.clear.ensures c.shape_in.ensures c.put_header.ensures
