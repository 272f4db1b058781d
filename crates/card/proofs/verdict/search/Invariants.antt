-- `card::verdict::search` meets its contract. The loop's invariant: the number is taken if one of the first i lines has
-- it.
use Rattle.card.proofs.verdict.FurtherLines.{Searched}
use Rattle.card.proofs.verdict.search.Given as goal

abbrev pub invariant-loop-i : goal.invariant-loop-i
invariant-loop-i l = Searched l.card l.count l.number l.i
