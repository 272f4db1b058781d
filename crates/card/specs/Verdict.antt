-- What a card comes to, said of archives and not of words (document 01, "Where each call is turned down"): "A card's
-- lines are judged in turn: form (15), then on line 1 rows 4 and 1 (slice length only), on others 5 to 8." A card is
-- judged so before it is loaded, and Theorems says that loading comes to just this.
use Rattle.std.specs.Prelude.{ℕ, zero, suc, ◌+◌, List, ◌∷◌, ◌++◌, [], length, drop}
use Rattle.std.proofs.Math.Option.{Option, none, some}
use Rattle.text.specs.Lines.{Numbers}
use Rattle.words.specs.Archive.{Archive}
use Rattle.words.specs.Layout.{extent, layout}
use Rattle.calls.specs.Calls.{empty, inserted, admission_rows}
use Rattle.calls.specs.Lent.{start_rows}
use Rattle.card.specs.declared.Loaded.{Loaded}
use Rattle.card.specs.Card.{shape_on, trial_on, Loading}

-- The card is refused, with this number at this line; or the archive that it describes.
pub data Verdict : Type 0 where
  refusal : (number line : ℕ) → Verdict
  archive : Archive → Verdict

-- The verdict on the rest of the card, unless a row turns this line down.
unfoldable pub in_turn : ℕ → ℕ → Verdict → Verdict
in_turn zero line rest = rest
in_turn (suc n) line rest = refusal (suc n) line

-- The further lines, on an archive that holds the trials of those before.
unfoldable pub judge_further : Archive → List (Option Numbers) → Verdict
judge_further a [] = archive a
judge_further a (none ∷ ls) = refusal 15 (length a.rows + 2)
judge_further a (some v ∷ ls) =
    in_turn (admission_rows a (trial_on v) 0) (length a.rows + 2) (judge_further (inserted a (trial_on v)) ls)

-- The lines of a card, for a slice of this length. The rows of line 1 are those of start.
unfoldable pub judge : ℕ → List (Option Numbers) → Verdict
judge long [] = refusal 15 1
judge long (none ∷ ls) = refusal 15 1
judge long (some v ∷ ls) = in_turn (start_rows long (shape_on v)) 1 (judge_further (empty (shape_on v)) ls)

-- The verdict as an answer, and as words: the slice as before, or the archive and the words behind it.
unfoldable pub answer_of : Verdict → Loaded
answer_of (refusal number line) = record { refusal = number; line = line; count = 0 }
answer_of (archive a) = record { refusal = 0; line = 0; count = length a.rows }

unfoldable pub words_of : List ℕ → Verdict → List ℕ
words_of before (refusal number line) = before
words_of before (archive a) = layout a ++ drop (extent a.shape.capacity) before

unfoldable pub carried_out : List ℕ → Verdict → Loading
carried_out before v = record { answer = answer_of v; words = words_of before v }
