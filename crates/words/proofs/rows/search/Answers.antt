-- `search` meets its contract. The loop's invariant: no record before place i has the number.
use Rattle.words.proofs.rows.SearchLaws.{search_more, search_stop, search_end}
use Rattle.words.proofs.rows.search.Goals as goal

pub returns-then-w-i-clause-found : goal.returns-then-w-i-clause-found
returns-then-w-i-clause-found c = search_stop _ _ _ _ c.loop-i.invariant c.loop-i-test.true c.if-w-i.true

pub loop-i-preserved : goal.loop-i-preserved
loop-i-preserved c = search_more _ _ _ _ c.loop-i.invariant c.loop-i-test.true c.if-w-i.false

pub returns-clause-found : goal.returns-clause-found
returns-clause-found c = search_end _ _ _ _ c.loop-i.invariant c.loop-i-test.false
