-- `look_back` meets its contract. The invariant: the column of the entries from k on.
use Rattle.strips.proofs.LookBackLaws.{Looked}
use Rattle.strips.proofs.look_back.Given as goal

abbrev pub invariant-loop-k : goal.invariant-loop-k
invariant-loop-k l = Looked l.ry l.line l.column l.k
