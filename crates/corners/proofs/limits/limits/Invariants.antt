-- `limits` meets its contract. The invariant: on each axis the two least offers of the first i points, and their limits.
use Prim.Native.Nat.{◌-◌}
use lib.ListN.{length}
use Rattle.corners.proofs.limits.LimitsLaws.{Bounding}
use Rattle.corners.proofs.limits.limits.Given as goal

abbrev pub invariant-loop-i : goal.invariant-loop-i
invariant-loop-i l = Bounding l.points l.u.at l.offers.least l.offers.second l.limit.at l.i

abbrev pub decreases-loop-i : goal.decreases-loop-i
decreases-loop-i l = length l.points - l.i
