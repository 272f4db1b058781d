-- `text::line_at` meets its contract: the tests of the length and of byte 10, then the four fields (proofs/Lines).
use mathlib.Core.Path.{refl}
use native.Mathlib.Omega.{arith}
use Rattle.text.specs.Lines.{four}
use Rattle.text.proofs.Lines.{line_short, line_unended, line_fields}
use Rattle.text.proofs.line_at.Goals as goal

pub returns-then-s-lt33 : goal.returns-then-s-lt33
returns-then-s-lt33 c = line_short _ _ (omega arith)

pub returns-then-s-at : goal.returns-then-s-at
returns-then-s-at c = line_short _ _ (omega arith)

pub returns-then-s-at-ne10 : goal.returns-then-s-at-ne10
returns-then-s-at-ne10 c = line_unended _ _ c.if-s-at-ne10.true

pub returns-in_err-field_at : goal.returns-in_err-field_at
unfolding four
returns-in_err-field_at c =
    rw c.from_residual.ensures (line_fields _ _ c.if-s-at-ne10.false c.in_err-field_at.ensures refl refl refl)

pub returns-in_err-field_at-2 : goal.returns-in_err-field_at-2
unfolding four
returns-in_err-field_at-2 c =
    rw c.from_residual-in_err-field_at-2.ensures
    (line_fields _ _ c.if-s-at-ne10.false c.in_ok-field_at.ensures c.in_err-field_at-2.ensures refl refl)

pub returns-in_err-field_at-3 : goal.returns-in_err-field_at-3
unfolding four
returns-in_err-field_at-3 c =
    rw c.from_residual-in_err-field_at-3.ensures
    (line_fields _ _ c.if-s-at-ne10.false c.in_ok-field_at.ensures c.in_ok-field_at-2.ensures c.in_err-field_at-3.ensures refl)

pub returns-in_err-field_at-4 : goal.returns-in_err-field_at-4
unfolding four
returns-in_err-field_at-4 c =
    rw c.from_residual-in_err-field_at-4.ensures
    (line_fields _ _ c.if-s-at-ne10.false c.in_ok-field_at.ensures c.in_ok-field_at-2.ensures c.in_ok-field_at-3.ensures c.in_err-field_at-4.ensures)

pub returns : goal.returns
unfolding four
returns c =
    line_fields _ _ c.if-s-at-ne10.false c.in_ok-field_at.ensures c.in_ok-field_at-2.ensures c.in_ok-field_at-3.ensures c.in_ok-field_at-4.ensures
