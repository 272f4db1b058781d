-- `search` meets its contract. The loop's invariant: no record before place i has the number.
use Rattle.words.proofs.rows.SearchLaws.{Unfound}
use Rattle.words.proofs.rows.search.Given as goal

abbrev pub invariant-loop-i : goal.invariant-loop-i
invariant-loop-i l = Unfound l.w l.n l.number l.i
