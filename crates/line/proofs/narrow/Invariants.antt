-- `narrow` meets its contract. The invariant: the place lies among the `size` entries from `low` on, or right behind them.
use Rattle.line.specs.Line.{Between}
use Rattle.line.proofs.narrow.Given as goal

abbrev pub invariant-loop-size : goal.invariant-loop-size
invariant-loop-size l = Between l.line l.x l.low l.size

abbrev pub decreases-loop-size : goal.decreases-loop-size
decreases-loop-size l = l.size
