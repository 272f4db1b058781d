-- `card::lines::line_due` meets its contract: whether a line is due, and the reading of it.
use native.Mathlib.Omega.{arith}
use Rattle.card.proofs.lines.LineDue.{due_before, due_next, due_behind}
use Rattle.card.proofs.lines.line_due.Goals as goal

pub returns-in_err-i : goal.returns-in_err-i
returns-in_err-i c = rw c.from_residual.ensures (due_before _ (omega (arith, c.in_err-i.ensures)))

pub returns-then-i-card : goal.returns-then-i-card
returns-then-i-card c = due_next _ c.in_ok-i.ensures.0 c.in_ok-i.ensures.1 c.if-i-card.true c.line_at.ensures

pub returns : goal.returns
returns c = due_behind _ c.in_ok-i.ensures.0 c.in_ok-i.ensures.1 c.if-i-card.false
