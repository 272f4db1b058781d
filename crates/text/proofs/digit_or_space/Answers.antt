-- `text::digit_or_space` meets its contract, by whether anything is left of the number.
use borrow.Author.Tests.{eq-eqb, ne_eqb}
use Rattle.slices.specs.Choices.{pick}
use Rattle.text.proofs.digit_or_space.Goals as goal

pub returns-then-rest-eq0 : goal.returns-then-rest-eq0
unfolding pick
returns-then-rest-eq0 c = simp (eq-eqb _ _ c.if-rest-eq0.true)

pub returns-else-rest-eq0 : goal.returns-else-rest-eq0
unfolding pick
returns-else-rest-eq0 c = simp (ne_eqb _ _ c.if-rest-eq0.false) c.last_digit.ensures
