-- `Offers::with` meets its contract. The invariant: the axes passed have the two least of the offers.
use Rattle.corners.proofs.limits.LimitsLaws.{Offering}
use Rattle.corners.proofs.limits.Offers.with.Given as goal

abbrev pub invariant-loop-axis : goal.invariant-loop-axis
invariant-loop-axis l = Offering l.self.least l.self.second l.t.at l.u.at l.least l.second l.axis
