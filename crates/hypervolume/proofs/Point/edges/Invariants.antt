-- `Point::edges` meets its contract. The invariant: the product so far times the edge product on the axes left is
-- the edge product.
use Rattle.hypervolume.proofs.Points.{Multiplied}
use Rattle.hypervolume.proofs.Point.edges.Given as goal

abbrev pub invariant-loop-axis : goal.invariant-loop-axis
invariant-loop-axis l = Multiplied 3 l.reference.at l.self.at l.product l.axis
