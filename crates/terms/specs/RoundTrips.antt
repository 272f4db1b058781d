-- Cards written and read back (document 02, W-205): what loading makes of a card that was written, and writing of a card that
-- was loaded. Loading and writing are the definitions that the contracts cite, on any slices.
use Rattle.std.specs.Prelude.{ℕ, ◌≤◌, ◌≡◌, Bool, true, ◌↔◌, List, length, take, drop}
use Rattle.words.specs.Archive.{trials}
use Rattle.words.specs.Layout.{word, extent, layout, read}
use Rattle.words.specs.Format.{ordered, archive_rows}
use Rattle.calls.specs.Counted.{counted}
use Rattle.calls.specs.Lent.{audit}
use Rattle.card.specs.Card.{load}
use Rattle.card.specs.Check.{check}
use Rattle.writing.specs.Written.{card_text, write, written}
use Rattle.terms.specs.Loading.{card_trials}

-- The card that writing leaves: as many bytes at the front of the output as it answers.
abbrev pub card_left : (w out : List ℕ) → List ℕ
card_left w out = take (write w out).value (written w out)

-- Loading the card into the slice is done: so many trials, these words before 8 + 5 × capacity, and the words behind as the
-- slice had them.
pub record LoadsAs (slice card : List ℕ) (count capacity : ℕ) (words : List ℕ) : Type 0 where
  pub answer : (load slice card).answer ≡ record { refusal = 0; line = 0; count = count }
  pub words_before : take (extent capacity) (load slice card).words ≡ words
  pub words_behind : drop (extent capacity) (load slice card).words ≡ drop (extent capacity) slice

-- "Its trials stood in archive order": each before the next, as row 3 asks of records.
unfoldable pub in_archive_order : (card : List ℕ) → Bool
in_archive_order card = ordered (card_trials card)

-- What two archives have in common whose cards are equal.
pub record CarriedAlike (v w : List ℕ) : Type 0 where
  pub shape : (read v).shape ≡ (read w).shape
  pub trials : trials (read v).rows ≡ trials (read w).rows

pub record RoundTrips : Type 0 where
  -- "For an archive whose audit says yes, loading the written card restores its words through the last record": into any slice
  -- that is long enough, all words before 8 + 5 × capacity.
  pub restores : (w out slice : List ℕ) → (write w out).refusal ≡ 0 → audit w ≡ record { refusal = 0; value = 1 } → extent (word w 1) ≤ length slice
      → LoadsAs slice (card_left w out) (word w 0) (word w 1) (take (extent (word w 1)) w)
  -- Whatever the audit says: the same capacity, reference and trials, with total, front and contributions counted on them.
  pub recounts : (w out slice : List ℕ) → (write w out).refusal ≡ 0 → extent (word w 1) ≤ length slice
      → LoadsAs slice (card_left w out) (word w 0) (word w 1) (layout (counted (read w).shape (trials (read w).rows)))
  -- A written card passes the card check.
  pub checks : (w out : List ℕ) → (write w out).refusal ≡ 0 → check (card_left w out) ≡ 0
  -- "For an accepted card, loading and writing returns the same bytes exactly when its trials stood in archive order."
  pub same_bytes : (card slice out : List ℕ) → (load slice card).answer.refusal ≡ 0 → (write (load slice card).words out).refusal ≡ 0
      → (card_left (load slice card).words out ≡ card) ↔ (in_archive_order card ≡ true)
  -- A written card is in archive order, so by the last line it comes back as it was: putting a card in order twice is putting it in
  -- order once.
  pub in_order : (w out : List ℕ) → (write w out).refusal ≡ 0 → in_archive_order (card_left w out) ≡ true
  -- A card tells all that it can hold: equal cards are cards of equal capacity, reference and trials.
  pub tells_all : (v w : List ℕ) → archive_rows v 0 ≡ 0 → archive_rows w 0 ≡ 0 → card_text (read v) ≡ card_text (read w) → CarriedAlike v w
