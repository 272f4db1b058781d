-- A card and its loading (document 01, "Card and report"). Loading runs the definitions of start and insert, line by
-- line.
use Rattle.std.specs.Prelude.{ℕ, zero, suc, ◌+◌, ◌*◌, ◌/◌, ◌≡◌, List, ◌∷◌, [], ltb, length, drop, Option as StdOption, None, Some}
use Rattle.std.proofs.Math.Option.{Option, none, some}
use Rattle.slices.specs.Choices.{pick}
use Rattle.text.specs.declared.Line.{Line}
use Rattle.text.specs.Lines.{Numbers, line, line_from, numbers_of}
use Rattle.words.specs.Archive.{Trial, Shape}
use Rattle.calls.specs.Lent.{Outcome, start, insert}
use Rattle.card.specs.declared.Loaded.{Loaded}

-- "Line 1: capacity, rx, ry, rz."
unfoldable pub shape_on : Numbers → Shape
shape_on v = record { capacity = v.first; rx = v.second; ry = v.third; rz = v.fourth }

-- "Each further line: trial number, x, y, z."
unfoldable pub trial_on : Numbers → Trial
trial_on v = record { number = v.first; x = v.second; y = v.third; z = v.fourth }

-- A line has four fields of eight bytes and byte 10. Bytes after the last line's end are a further line.
unfoldable pub line_count : List ℕ → ℕ
line_count card = (length card + 32) / 33

-- The first n lines; none stands for a line that is not of the form.
unfoldable pub lines_from : ℕ → List ℕ → List (Option Numbers)
lines_from zero bytes = []
lines_from (suc n) bytes = line bytes ∷ lines_from n (drop 33 bytes)

unfoldable pub lines : List ℕ → List (Option Numbers)
lines card = lines_from (line_count card) card

-- "A reading in progress is the lent card together with the line next due", counted from 1: that line, or none behind
-- the last one.
unfoldable pub due : List ℕ → ℕ → Option (Option Numbers)
due card zero = none
due card (suc i) = pick (ltb i (line_count card)) (some (line_from (33 * i) card)) none

-- What the reading of the line due answers.
abbrev pub due_of : StdOption (StdOption Line) → Option (Option Numbers)
due_of (Some l) = some (numbers_of l)
due_of None = none

-- Row 15: "a line not of the form".
unfoldable pub malformed : List ℕ → Outcome
malformed w = record { refusal = 15; value = 0; words = w; log = [] }

-- Each line is judged by its form first; a line of the form makes its call.
unfoldable pub by_form : List ℕ → Option Numbers → (Numbers → Outcome) → Outcome
by_form w none call = malformed w
by_form w (some v) call = call v

-- Line 1: "form (15), then rows 4 and 1 (slice length only)", which are those of start.
unfoldable pub first_line : List ℕ → Option Numbers → Outcome
first_line w l = by_form w l (λ v. start w (shape_on v))

-- A further line: form (15), then the rows of insert, of which only 5 to 8 can come (Theorems).
unfoldable pub further_line : List ℕ → Option Numbers → Outcome
further_line w l = by_form w l (λ v. insert w (trial_on v))

-- What loading answers, and what the archive slice then holds.
pub record Loading : Type 0 where
  pub answer : Loaded
  pub words : List ℕ

-- "A refusal answers its number, the card reader also the line (from 1), and zeros for all else"; "a card refused at
-- any line leaves the archive slice as before the call".
unfoldable pub refused : List ℕ → ℕ → ℕ → Loading
refused before number line = record { answer = record { refusal = number; line = line; count = 0 }; words = before }

-- "The reader answers the count of trials loaded."
unfoldable pub accepted : ℕ → List ℕ → Loading
accepted count w = record { answer = record { refusal = 0; line = 0; count = count }; words = w }

-- "A card's lines are judged in turn": the rest of the card, unless this line is refused.
unfoldable pub judged : List ℕ → ℕ → ℕ → Loading → Loading
judged before zero line rest = rest
judged before (suc n) line rest = refused before (suc n) line

-- The further lines, inserted in turn. So far w are the words and count is the number of trials; the line next due is
-- count + 2.
unfoldable pub further : List ℕ → List ℕ → ℕ → List (Option Numbers) → Loading
further before w count [] = accepted count w
further before w count (l ∷ ls) =
    judged before (further_line w l).refusal (count + 2) (further before (further_line w l).words (count + 1) ls)

-- The whole card. "An empty card is line 1" of row 15.
unfoldable pub from_first : List ℕ → List (Option Numbers) → Loading
from_first w [] = refused w 15 1
from_first w (l ∷ ls) = judged w (first_line w l).refusal 1 (further w (first_line w l).words 0 ls)

unfoldable pub load : List ℕ → List ℕ → Loading
load w card = from_first w (lines card)

-- What the reading of a card into words comes to: the answer of loading and, where the card is accepted, the words too.
-- Where it is refused, what they hold does not matter: nobody but the reader sees them.
pub record ReadInto (l : Loading) (r : Loaded) (after : List ℕ) : Type 0 where
  pub answer : r ≡ l.answer
  pub words : r.refusal ≡ 0 → after ≡ l.words
