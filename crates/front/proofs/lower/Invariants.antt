-- `lower` meets its contract: after k turns k of the eight places are done.
use Rattle.front.proofs.Levels.{Lowering}
use Rattle.front.proofs.lower.Given as goal

abbrev pub invariant-loop-k : goal.invariant-loop-k
invariant-loop-k l = Lowering l.initial.level l.at l.y l.k l.level
