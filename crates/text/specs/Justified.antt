-- Columns (document 01, "Card and report"): "its numbers are justified as on a card". The column of a number that
-- fits is the one field of its width with the number's value (proofs/Justified: field-justified, justified-field).
use Rattle.std.specs.Prelude.{ℕ, zero, suc, ◌+◌, ◌-◌, ◌/◌, ◌%◌, ◌≤◌, List, ◌∷◌, ◌++◌, [], ltb, length, replicate}
use Rattle.slices.specs.Choices.{pick}
use Rattle.text.specs.Fields.{space, digit}
use Rattle.text.specs.Lines.{Numbers, newline}

-- The decimal digits of n; the last `most` of them where it has more.
unfoldable pub digits : ℕ → ℕ → List ℕ
digits zero n = []
digits (suc most) n = pick (ltb n 10) (digit n ∷ []) (digits most (n / 10) ++ (digit (n % 10) ∷ []))

-- The digits of n right-justified behind spaces, `width` bytes in all. A number below 10 ^ width has all its
-- digits there; of a larger one the last digits fill the column.
unfoldable pub justified : ℕ → ℕ → List ℕ
justified width n = replicate (width - length (digits width n)) space ++ digits width n

-- "Four fields of eight bytes, then byte 10": the line of these numbers.
unfoldable pub line_of : Numbers → List ℕ
line_of v =
    justified 8 v.first
    ++ (justified 8 v.second ++ (justified 8 v.third ++ (justified 8 v.fourth ++ (newline ∷ []))))

-- What writing a column asks: it has room for a digit, and lies within the output.
pub record ColumnRoom (out : List ℕ) (at width : ℕ) : Type 0 where
  pub wide : 1 ≤ width
  pub within : at + width ≤ length out
