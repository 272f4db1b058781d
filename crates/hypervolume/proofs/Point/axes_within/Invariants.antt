-- `Point::axes_within` meets its contract. The invariant: the axes counted so far, and those left.
use Rattle.hypervolume.proofs.Points.{AxesCounted}
use Rattle.hypervolume.proofs.Point.axes_within.Given as goal

abbrev pub invariant-loop-axis : goal.invariant-loop-axis
invariant-loop-axis l = AxesCounted 3 l.self.at l.other.at l.axes l.axis
