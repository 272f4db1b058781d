-- `rounded` meets its contract: twice the rest is below, above or at the divisor.
use borrow.Author.Tests.{lt-ltb, le-ltb, eq-eqb, ne_eqb}
use Rattle.slices.specs.Choices.{pick}
use Rattle.rounding.specs.Nearest.{even_of, rounded}
use Rattle.rounding.proofs.rounded.Goals as goal

pub returns-then-rest-whole : goal.returns-then-rest-whole
unfolding rounded pick
returns-then-rest-whole c = rw (lt-ltb _ _ c.if-rest-whole.true)

pub returns-then-whole-rest : goal.returns-then-whole-rest
unfolding rounded pick
returns-then-whole-rest c = rw (le-ltb _ _ c.if-rest-whole.false, lt-ltb _ _ c.if-whole-rest.true)

pub returns-then-quotient-eq0 : goal.returns-then-quotient-eq0
unfolding rounded even_of pick
returns-then-quotient-eq0 c = rw (le-ltb _ _ c.if-rest-whole.false, le-ltb _ _ c.if-whole-rest.false, eq-eqb _ _ c.if-quotient-eq0.true)

pub returns : goal.returns
unfolding rounded even_of pick
returns c = rw (le-ltb _ _ c.if-rest-whole.false, le-ltb _ _ c.if-whole-rest.false, ne_eqb _ _ c.if-quotient-eq0.false)
