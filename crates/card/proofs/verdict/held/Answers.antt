-- `card::verdict::held` meets its contract: a number whose bit was clear is not taken.
use mathlib.Core.Path.{sym}
use Rattle.card.proofs.verdict.held.Goals as goal

pub returns-then-not-met : goal.returns-then-not-met
returns-then-not-met c = sym (c.requires.2 (c.if-not-met.true))
