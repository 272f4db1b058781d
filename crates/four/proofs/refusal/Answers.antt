-- `refusal` meets its contract: each way out in turn.
use mathlib.Core.Path.{sym}
use Rattle.four.proofs.Rows.{row_4, row_17, row_20, row_6, row_16, no_row}
use Rattle.four.proofs.refusal.Goals as goal

pub returns-then-not-each_within : goal.returns-then-not-each_within
returns-then-not-each_within c = row_4 _ _ _ (sym c.if-not-each_within.ensures)

pub returns-then-coords-ne0 : goal.returns-then-coords-ne0
returns-then-coords-ne0 c = row_17 _ _ _ (sym c.if-not-each_within.ensures) c.if-coords-ne0.true

pub returns-then-coords-gt512 : goal.returns-then-coords-gt512
returns-then-coords-gt512 c =
    row_20 _ _ _ (sym c.if-not-each_within.ensures) c.if-coords-ne0.false c.if-coords-gt512.true

pub returns-then-not-coordinates_allowed : goal.returns-then-not-coordinates_allowed
returns-then-not-coordinates_allowed c =
    row_6 _ _ _ (sym c.if-not-each_within.ensures) c.if-coords-ne0.false c.if-coords-gt512.false (sym c.if-not-coordinates_allowed.ensures)

pub returns-then-room-coords : goal.returns-then-room-coords
returns-then-room-coords c =
    row_16 _ _ _ (sym c.if-not-each_within.ensures) c.if-coords-ne0.false c.if-coords-gt512.false (sym c.if-not-coordinates_allowed.ensures) c.if-room-coords.true

pub returns : goal.returns
returns c =
    no_row _ _ _ (sym c.if-not-each_within.ensures) c.if-coords-ne0.false c.if-coords-gt512.false (sym c.if-not-coordinates_allowed.ensures) c.if-room-coords.false
