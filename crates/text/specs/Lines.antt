-- A line (document 01, "Card and report"): which bytes are of its form, and its four values; none stands for
-- bytes that are not.
use Rattle.std.specs.Prelude.{ℕ, List, eqb, drop, get_or, Option as StdOption, None, Some}
use Rattle.std.proofs.Math.Option.{Option, none, some}
use Rattle.slices.specs.Choices.{pick}
use Rattle.text.specs.Fields.{field_from}
use Rattle.text.specs.declared.Line.{Line}

-- The values of a line's fields, in their order.
pub record Numbers : Type 0 where
  pub first : ℕ
  pub second : ℕ
  pub third : ℕ
  pub fourth : ℕ

-- The byte that ends a line.
abbrev pub newline : ℕ
newline = 10

-- The values where all four fields have one.
unfoldable pub four : Option ℕ → Option ℕ → Option ℕ → Option ℕ → Option Numbers
four none b c d = none
four (some a) none c d = none
four (some a) (some b) none d = none
four (some a) (some b) (some c) none = none
four (some a) (some b) (some c) (some d) = some (record { first = a; second = b; third = c; fourth = d })

-- "Each line has four fields of eight bytes, then byte 10": the line that these bytes begin with. Where there
-- are fewer than 33 bytes, byte 10 is missing and the line is not of the form.
unfoldable pub line : List ℕ → Option Numbers
line bytes =
    pick (eqb (get_or bytes 32 0) newline)
    (four (field_from 0 bytes) (field_from 8 bytes) (field_from 16 bytes) (field_from 24 bytes))
    none

-- The line that starts at a byte of a card.
unfoldable pub line_from : ℕ → List ℕ → Option Numbers
line_from at card = line (drop at card)

-- What the reading of a line answers: its four values, or that it is not of the form (on a card, row 15).
abbrev pub numbers_of : StdOption Line → Option Numbers
numbers_of (Some l) = some (record { first = l.first; second = l.second; third = l.third; fourth = l.fourth })
numbers_of None = none
