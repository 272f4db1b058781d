-- `least_in` meets its contract: of the records passed, the best one goes first.
use mathlib.Core.Path.{sym, ◌∙◌}
use Rattle.reduction.proofs.columns.Ranking.{ranked_none, ranked_stay, ranked_skip, ranked_first, ranked_end}
use Rattle.reduction.proofs.columns.least_in.Goals as goal

pub loop-i-init : goal.loop-i-init
loop-i-init c = ranked_none _ _ _ c.requires.1

pub loop-i-preserved-then-least-next : goal.loop-i-preserved-then-least-next
loop-i-preserved-then-least-next c = ranked_skip c.loop-i.invariant c.loop-i-test.true c.if-least-next.true

pub loop-i-preserved-then-goes_first : goal.loop-i-preserved-then-goes_first
loop-i-preserved-then-goes_first c = ranked_first c.loop-i.invariant c.loop-i-test.true (sym c.goes_first.ensures ∙ c.if-goes_first.true)

pub loop-i-preserved : goal.loop-i-preserved
loop-i-preserved c = ranked_stay c.loop-i.invariant c.loop-i-test.true (sym c.goes_first.ensures ∙ c.if-goes_first.false)

pub returns : goal.returns
returns c = ranked_end c.loop-i.invariant c.loop-i-test.false
