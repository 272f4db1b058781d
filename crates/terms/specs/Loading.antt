-- Terms 2 and 3 of document 00 after a loading. "An archive that only the library writes is one whose words, since the
-- start or the loading that wrote it whole, nothing has written but calls on that archive itself" (document 01). Term2
-- and Term3 of history/specs/Terms say it of a start; here it is said of a loading, with the same Agrees, HoldsJust and
-- KeepsCounts.
use Rattle.std.specs.Prelude.{ℕ, ◌≤◌, ◌≡◌, List, ◌∷◌, map, [], length, get_or, drop}
use Rattle.std.proofs.Math.Option.{Option, none, some}
use Rattle.text.specs.Lines.{Numbers}
use Rattle.words.specs.Archive.{Trial, Shape}
use Rattle.calls.specs.Lent.{Outcome, start}
use Rattle.card.specs.Card.{shape_on, trial_on, lines, load}
use Rattle.history.specs.Book.{Book, entered}
use Rattle.history.specs.History.{Call, Answered, run_words, run_answers, run_book, Agrees}
use Rattle.history.specs.Kept.{HoldsJust, KeepsCounts}
use Rattle.history.specs.Terms.{opened_by}

-- The numbers on a line. Zeros stand for a line that is not of the form, or is not there; an accepted card has no such
-- line (AsCalls).
unfoldable pub no_numbers : Numbers
no_numbers = record { first = 0; second = 0; third = 0; fourth = 0 }

unfoldable pub numbers_on : Option Numbers → Numbers
numbers_on none = no_numbers
numbers_on (some v) = v

abbrev pub card_numbers : List ℕ → List Numbers
card_numbers card = map numbers_on (lines card)

-- "Line 1: capacity, rx, ry, rz."
unfoldable pub card_shape : List ℕ → Shape
card_shape card = shape_on (get_or (card_numbers card) 0 no_numbers)

-- "Each further line: trial number, x, y, z", in the card's order.
unfoldable pub card_trials : List ℕ → List Trial
card_trials card = map trial_on (drop 1 (card_numbers card))

-- The book that a card opens: the reference and the capacity of line 1, and the trials of the further lines, entered in
-- turn.
unfoldable pub all_entered : List Trial → Book → Book
all_entered [] b = b
all_entered (t ∷ ts) b = all_entered ts (entered t b)

unfoldable pub card_book : List ℕ → Book
card_book card = all_entered (card_trials card) (opened_by (card_shape card))

-- The calls that a card stands for: the start of line 1, and an insertion for each further line, lent the whole slice.
abbrev pub card_start : (before card : List ℕ) → Outcome
card_start before card = start before (card_shape card)

unfoldable pub card_insertions : (before card : List ℕ) → List Call
card_insertions before card = map (Call.insert (length before)) (card_trials card)

-- What an insertion that is done answers.
unfoldable pub done : Answered
done = record { refusal = 0; value = 0; log = [] }

-- "An accepted card leaves the words that its start and insertions would", and the reader "answers the count of trials
-- loaded": there is a line 1, every line is of the form, the start and all insertions are done, and loading leaves and
-- answers the same as these calls one after the other.
pub record AsCalls (before card : List ℕ) : Type 0 where
  pub line_1 : 1 ≤ length (lines card)
  pub form : lines card ≡ map some (card_numbers card)
  pub start_done : (card_start before card).refusal ≡ 0
  pub insertions_done :
      run_answers (card_insertions before card) (card_start before card).words ≡ map (λ t. done) (card_trials card)
  pub words : (load before card).words ≡ run_words (card_insertions before card) (card_start before card).words
  pub count : (load before card).answer.count ≡ length (card_trials card)

-- The words and the book after a loading and a list of calls.
abbrev pub words_after_loading : (before card : List ℕ) → List Call → List ℕ
words_after_loading before card calls = run_words calls (load before card).words

abbrev pub book_after_loading : (before card : List ℕ) → List Call → Book
book_after_loading before card calls = run_book (length before) calls (card_book card)

-- Terms 2 and 3 after a loading and a list of calls: the words before 8 + 5 × capacity are those of a fresh archive of
-- the book's survivors, the words behind are as before the loading, and every answer and every log is the book's
-- (Agrees); the words hold just the survivors, and keep counts on them.
pub record AfterLoading (before card : List ℕ) (calls : List Call) : Type 0 where
  pub agrees : Agrees before (load before card).words (card_book card) calls
  pub holds : HoldsJust (words_after_loading before card calls) (card_shape card) (book_after_loading before card calls).trials
  pub counts : KeepsCounts (words_after_loading before card calls) (card_shape card) (book_after_loading before card calls).trials

-- For every accepted card, whatever the slice held, and every list of calls, the empty one too.
pub record TermsAfterLoading : Type 0 where
  pub as_calls : (before card : List ℕ) → (load before card).answer.refusal ≡ 0 → AsCalls before card
  pub after : (before card : List ℕ) (calls : List Call) → (load before card).answer.refusal ≡ 0 → AfterLoading before card calls
