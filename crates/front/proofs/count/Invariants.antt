-- `count` meets its contract: after i turns i keys are entered.
use Rattle.front.proofs.Levels.{Counting}
use Rattle.front.proofs.count.Given as goal

abbrev pub invariant-loop-key : goal.invariant-loop-key
invariant-loop-key l = Counting l.points l.keys l.key-index l.high l.middle l.low l.unbeaten
