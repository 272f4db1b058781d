-- `each_within` meets its contract. The loop's invariant: the numbers left decide, once those before are judged.
use Rattle.words.specs.Format.{within}
use Rattle.words.proofs.check.EachLaws.{Judged}
use Rattle.words.proofs.check.each_within.Given as goal

abbrev pub invariant-loop-n : goal.invariant-loop-n
invariant-loop-n l = Judged (within l.low l.high) l.numbers l.all l.n-index
