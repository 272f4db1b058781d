-- `look_back` meets its contract. The invariant: the column of the entries from k on.
use mathlib.Core.Path.{sym, ◌∙◌}
use Rattle.strips.proofs.LookBackLaws.{looked_none, looked_more, looked_stop}
use Rattle.strips.proofs.look_back.Goals as goal

pub loop-k-init : goal.loop-k-init
loop-k-init c = looked_none _ _ c.requires

pub returns-then-decides : goal.returns-then-decides
returns-then-decides c =
    looked_stop c.loop-k.invariant c.loop-k-test.true c.y_of.ensures c.index_of.ensures c.with-column.ensures
    (sym c.decides.ensures ∙ c.if-decides.true)

pub loop-k-preserved : goal.loop-k-preserved
loop-k-preserved c =
    looked_more c.loop-k.invariant c.loop-k-test.true c.y_of.ensures c.index_of.ensures c.with-column.ensures
