-- A field (document 01, "Card and report"): which bytes are of its form, and its value; none stands for bytes
-- that are not. A byte is a number below 256. The form is the same at every width; a card's fields have eight
-- bytes.
use Rattle.std.specs.Prelude.{ℕ, ◌+◌, ◌-◌, ◌*◌, ◌≤◌, ◌<◌, Bool, ◌&&◌, List, ◌∷◌, [], leb, eqb, length, take, drop, Option as StdOption, None, Some}
use Rattle.std.proofs.Math.Option.{Option, none, some}
use Rattle.slices.specs.Choices.{pick}

-- The byte that fills a field in front of its number.
abbrev pub space : ℕ
space = 32

-- The byte of a decimal digit, 0 to 9.
abbrev pub digit : ℕ → ℕ
digit d = 48 + d

unfoldable pub is_digit : ℕ → Bool
is_digit b = leb (digit 0) b && leb b (digit 9)

-- The value of digits up to the last byte, behind digits whose value is v; none where a byte is no digit.
unfoldable pub decimal : ℕ → List ℕ → Option ℕ
decimal v [] = some v
decimal v (b ∷ bytes) = pick (is_digit b) (decimal (v * 10 + (b - digit 0)) bytes) none

-- "A decimal number .. with at least one digit and no leading zero except in 0 itself."
unfoldable pub number : List ℕ → Option ℕ
number [] = none
number (b ∷ []) = decimal 0 (b ∷ [])
number (b ∷ c ∷ bytes) = pick (eqb b (digit 0)) none (decimal 0 (b ∷ c ∷ bytes))

-- "A field is a decimal number right-justified behind spaces": the number runs up to the last byte.
unfoldable pub field : List ℕ → Option ℕ
field [] = none
field (b ∷ bytes) = pick (eqb b space) (field bytes) (number (b ∷ bytes))

-- The field of eight bytes that starts at a byte of a card, or of a line.
unfoldable pub field_from : ℕ → List ℕ → Option ℕ
field_from at bytes = field (take 8 (drop at bytes))

-- What the reading of a field answers: its value, or that it is not of the form (on a card, row 15).
abbrev pub value_of : StdOption ℕ → Option ℕ
value_of (Some v) = some v
value_of None = none

-- What reading a number from `at` up to `end` asks: at least one byte, within the card, no more than a field has.
pub record Part (card : List ℕ) (at end : ℕ) : Type 0 where
  pub filled : at < end
  pub within : end ≤ length card
  pub short : end ≤ at + 8
