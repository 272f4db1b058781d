-- `card::verdict::judge_further` meets its contract. The loop's invariant: the verdict is what it is from the line next due
-- on, with the archive so far (Judged). The measure is the number of lines left.
use Prim.Native.Nat.{◌-◌}
use Rattle.words.specs.Places.{as_shape}
use Rattle.card.specs.Card.{line_count}
use Rattle.card.proofs.verdict.FurtherLines.{Judged}
use Rattle.card.proofs.verdict.judge_further.Given as goal

abbrev pub invariant-loop-l : goal.invariant-loop-l
invariant-loop-l l = Judged l.card (as_shape l.s) l.count l.table

abbrev pub decreases-loop-l : goal.decreases-loop-l
decreases-loop-l l = line_count l.card - l.count
