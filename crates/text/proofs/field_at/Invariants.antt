-- `text::field_at` meets its contract: each turn skips one space (proofs/FieldAt, Skipped).
use Rattle.text.proofs.FieldAt.{Skipped}
use Rattle.text.proofs.field_at.Given as goal

abbrev pub invariant-loop-i : goal.invariant-loop-i
invariant-loop-i l = Skipped l.s l.at l.i
