-- `Point::join` meets its contract. The invariant: the axes passed are those of the upper corner.
use Rattle.hypervolume.proofs.Points.{Joined}
use Rattle.hypervolume.proofs.Point.join.Given as goal

abbrev pub invariant-loop-axis : goal.invariant-loop-axis
invariant-loop-axis l = Joined 3 l.initial.corner.at l.other.at l.corner.at l.axis
