-- `Point::axes_within` meets its contract. The invariant: the axes counted so far, and those left.
use native.Mathlib.Omega.{arith}
use Rattle.hypervolume.proofs.Points.{counted_more, counted_end}
use Rattle.hypervolume.proofs.Point.axes_within.Goals as goal

pub overflow_add-axes : goal.overflow_add-axes
overflow_add-axes c =
    let l = c.loop-axis in
    let next = counted_more l.invariant c.loop-axis-test.true c.at_most-axes.ensures in
    record { fits = omega (arith, next.most, next.along.within) }

pub loop-axis-preserved : goal.loop-axis-preserved
loop-axis-preserved c = counted_more c.loop-axis.invariant c.loop-axis-test.true c.at_most-axes.ensures

pub returns : goal.returns
returns c = counted_end c.loop-axis.invariant c.loop-axis-test.false
