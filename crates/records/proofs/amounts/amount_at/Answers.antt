-- `amount_at` meets its contract: the place is none of the first k.
use mathlib.Core.Path.{refl}
use Rattle.slices.proofs.PlacedLoops.{missed_found, missed_end}
use Rattle.records.proofs.amounts.amount_at.Goals as goal

pub returns-then-p-place : goal.returns-then-p-place
returns-then-p-place c n = missed_found c.loop-k-test.true c.if-p-place.true refl

pub returns : goal.returns
returns c n = missed_end c.loop-k.invariant c.loop-k-test.false
