-- `rows_allowed` meets its contract. The loop's invariant: the records before place i stand, and the table has their
-- numbers.
use Rattle.words.proofs.check.RowsAllowed.{Checked}
use Rattle.words.proofs.check.rows_allowed.Given as goal

abbrev pub invariant-loop-i : goal.invariant-loop-i
invariant-loop-i l = Checked l.w l.cells l.table l.i
