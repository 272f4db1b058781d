-- `enter` meets its contract.
use mathlib.Core.Path.{refl}
use Rattle.line.proofs.EnterLaws.{entered_not, entered_more, entered_room}
use Rattle.line.proofs.enter.Goals as goal

pub returns-then-column-y : goal.returns-then-column-y
returns-then-column-y c = λ ry state. entered_not c.requires state c.y_of-y.ensures c.if-column-y.true

pub returns-then-to-from : goal.returns-then-to-from
returns-then-to-from c =
    λ ry state.
    entered_more c.requires state c.y_of-y.ensures c.if-column-y.false c.thin-gap.ensures refl c.if-to-from.true
    (rw c.flag_where-entry.ensures at c.place.ensures)

pub returns : goal.returns
returns c =
    λ ry state.
    entered_room c.requires state c.y_of-y.ensures c.if-column-y.false c.thin-gap.ensures refl c.if-to-from.false
    (rw c.flag_where-entry.ensures at c.place-2.ensures)
    c.close.ensures
