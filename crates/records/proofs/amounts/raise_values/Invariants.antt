-- `raise_values` meets its contract: after k turns the values at the first k places are raised.
use Prim.Native.Nat.{◌+◌}
use lib.ListN.{length}
use Rattle.slices.proofs.PlacedLoops.{Placing}
use Rattle.records.proofs.amounts.raise_values.Given as goal

abbrev pub invariant-loop-k : goal.invariant-loop-k
invariant-loop-k l = Placing (λ v m. v + m) l.initial.values (length l.initial.values) l.places l.counts l.k l.values
