-- `least_in` meets its contract: of the records passed, the best one goes first.
use Prim.Native.Nat.{◌-◌}
use lib.ListN.{length}
use Rattle.reduction.proofs.columns.Ranking.{RankedSoFar}
use Rattle.reduction.proofs.columns.least_in.Given as goal

abbrev pub invariant-loop-i : goal.invariant-loop-i
invariant-loop-i l = RankedSoFar l.rule l.numbers l.kept l.place l.number l.least l.i

abbrev pub decreases-loop-i : goal.decreases-loop-i
decreases-loop-i l = length l.numbers - l.i
