-- `text::number` meets its contract, by the number of its bytes and the first of them (proofs/FieldAt).
use mathlib.Core.Path.{◌∙◌}
use Rattle.text.proofs.FieldAt.{number_one, number_zero, number_more}
use Rattle.text.proofs.number.Goals as goal

pub returns-then-at-end : goal.returns-then-at-end
returns-then-at-end c = c.decimal.ensures ∙ number_one c.requires c.if-at-end.true

pub returns-then-s-at-eq48 : goal.returns-then-s-at-eq48
returns-then-s-at-eq48 c = number_zero c.requires c.if-at-end.false c.if-s-at-eq48.true

pub returns : goal.returns
returns c =
    c.decimal-2.ensures
    ∙ number_more c.requires c.if-at-end.false c.if-s-at-eq48.false
