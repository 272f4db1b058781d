-- `ascends` meets its contract. The invariant: the numbers passed are equal, so those left decide.
use Rattle.words.proofs.check.AscendsLaws.{Level}
use Rattle.words.proofs.check.ascends.Given as goal

abbrev pub invariant-loop-i : goal.invariant-loop-i
invariant-loop-i l = Level 4 l.a l.b l.i
