-- `card::verdict::number_at` meets its contract: the number on the line due.
use mathlib.Core.Path.{ap}
use Rattle.card.specs.Further.{number_due}
use Rattle.card.proofs.verdict.number_at.Goals as goal

pub returns-in_err-read_line : goal.returns-in_err-read_line
unfolding number_due
returns-in_err-read_line c = rw c.from_residual.ensures (ap number_due c.in_err-read_line.ensures)

pub returns-in_err-l : goal.returns-in_err-l
unfolding number_due
returns-in_err-l c = rw c.from_residual-in_err-l.ensures (ap number_due (rw c.in_err-l.was at c.in_ok-read_line.ensures))

pub returns : goal.returns
unfolding number_due
returns c = ap number_due (rw c.in_ok-l.was at c.in_ok-read_line.ensures)
