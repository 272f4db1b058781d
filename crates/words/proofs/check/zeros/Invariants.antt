-- `zeros` meets its contract. The loop's invariant: what is gathered and the words left decide.
use Rattle.words.proofs.check.ZerosLaws.{Blended}
use Rattle.words.proofs.check.zeros.Given as goal

abbrev pub invariant-loop-word : goal.invariant-loop-word
invariant-loop-word l = Blended l.words l.any l.word-index
