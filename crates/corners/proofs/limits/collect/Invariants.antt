-- `collect` meets its contract. The invariant: of the first i points, the corners within the limit.
use Rattle.corners.proofs.limits.CollectLaws.{Gathering}
use Rattle.corners.proofs.limits.collect.Given as goal

abbrev pub invariant-loop-i : goal.invariant-loop-i
invariant-loop-i l = Gathering l.points l.u.at l.limit.at l.initial.corners l.initial.places l.corners l.places l.m l.i
