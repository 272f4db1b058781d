-- `amount_at` meets its contract: the place is none of the first k.
use Rattle.slices.proofs.PlacedLoops.{Missed}
use Rattle.records.proofs.amounts.amount_at.Given as goal

abbrev pub invariant-loop-k : goal.invariant-loop-k
invariant-loop-k l = Missed l.places l.place l.k
