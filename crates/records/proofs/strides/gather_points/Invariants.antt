-- `gather_points` meets its contract: after i turns the first i points are copied.
use Rattle.records.proofs.strides.LoadedPoints.{Copied}
use Rattle.records.proofs.strides.gather_points.Given as goal

abbrev pub invariant-loop-i : goal.invariant-loop-i
invariant-loop-i l = Copied l.w l.first l.n l.initial.to l.at l.to l.i
