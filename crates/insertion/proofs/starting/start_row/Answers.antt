-- `start_row` meets its contract: rows 4 and 1 in turn.
use mathlib.Core.Path.{sym, ◌∙◌}
use native.Mathlib.Omega.{arith}
use Rattle.words.proofs.Passed.{shape_bounds}
use Rattle.insertion.proofs.starting.Outcomes.{row_4, row_1, no_row}
use Rattle.insertion.proofs.starting.start_row.Goals as goal

pub returns-then-not-shape_allowed : goal.returns-then-not-shape_allowed
returns-then-not-shape_allowed c = row_4 _ _ _ c.shape_allowed.ensures (c.if-not-shape_allowed.true)

pub overflow_mul-s : goal.overflow_mul-s
overflow_mul-s c = omega (arith, shape_bounds _ (sym c.shape_allowed.ensures ∙ c.if-not-shape_allowed.false))

pub overflow_add-s : goal.overflow_add-s
overflow_add-s c = omega (arith, shape_bounds _ (sym c.shape_allowed.ensures ∙ c.if-not-shape_allowed.false))

pub returns-then-room-s : goal.returns-then-room-s
returns-then-room-s c = row_1 _ _ _ c.shape_allowed.ensures (c.if-not-shape_allowed.false) c.if-room-s.true

pub returns : goal.returns
returns c = no_row _ _ _ c.shape_allowed.ensures (c.if-not-shape_allowed.false) c.if-room-s.false
