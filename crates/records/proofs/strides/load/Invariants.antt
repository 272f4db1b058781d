-- `load` meets its contract: so many words are copied, and they are the column.
use Prim.Native.Nat.{◌+◌}
use Rattle.records.proofs.strides.Gathered.{Gathered}
use Rattle.records.proofs.strides.load.Given as goal

abbrev pub invariant-loop-i : goal.invariant-loop-i
invariant-loop-i l = Gathered l.w (8 + l.field) l.n l.initial.to l.to l.i
