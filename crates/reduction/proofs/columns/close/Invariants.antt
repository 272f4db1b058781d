-- `close` meets its contract: an element is read before another is written over it.
use Rattle.reduction.proofs.columns.Closing.{ClosedSoFar}
use Rattle.reduction.proofs.columns.close.Given as goal

abbrev pub invariant-loop-i : goal.invariant-loop-i
invariant-loop-i g l = ClosedSoFar l.initial.l l.k l.n l.i l.l
