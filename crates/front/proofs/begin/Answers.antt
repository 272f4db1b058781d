-- `begin` meets its contract, by the branch taken.
use borrow.Author.Tests.{eq-eqb, ne_eqb}
use Rattle.slices.specs.Choices.{pick}
use Rattle.front.proofs.begin.Goals as goal

pub returns-then-before-now : goal.returns-then-before-now
unfolding pick
returns-then-before-now c = rw (eq-eqb _ _ c.if-before-now.true)

pub returns-else-before-now : goal.returns-else-before-now
unfolding pick
returns-else-before-now c = rw (ne_eqb _ _ c.if-before-now.false)
