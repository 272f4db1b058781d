-- `thin` meets its contract. The invariant: the walk so far.
use Prim.Native.Nat.{◌-◌}
use Rattle.line.proofs.ThinLaws.{Walking}
use Rattle.line.proofs.thin.Given as goal

abbrev pub invariant-loop-from : goal.invariant-loop-from
invariant-loop-from l = Walking l.initial.line l.m l.at l.next l.line l.to l.from

abbrev pub decreases-loop-from : goal.decreases-loop-from
decreases-loop-from l = l.m - l.from
