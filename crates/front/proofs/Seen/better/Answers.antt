-- `Seen::better` meets its contract, by the branch taken.
use borrow.Author.Tests.{lt-ltb, le-ltb}
use Rattle.slices.specs.Choices.{pick}
use Rattle.front.proofs.Seen.better.Goals as goal

pub returns-then-other-self : goal.returns-then-other-self
unfolding pick
returns-then-other-self c = rw (lt-ltb _ _ c.if-other-self.true)

pub returns-else-other-self : goal.returns-else-other-self
unfolding pick
returns-else-other-self c = rw (le-ltb _ _ c.if-other-self.false)
