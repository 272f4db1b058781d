-- A program's card: loaded into words that the program goes on with, or refused and its line written. For the contracts of inner
-- functions; no exported contract cites it.
use Rattle.std.specs.Prelude.{ℕ, ◌*◌, ◌≤◌, ◌≡◌, List, length, take}
use Rattle.words.specs.Archive.{Archive}
use Rattle.words.specs.Layout.{read}
use Rattle.words.specs.Format.{archive_rows}
use Rattle.printing.specs.Printed.{printed, PrintsRead}

-- So many bytes of a card stand at the front of the input, as PrintRoom has them. The words are enough for every capacity, and the
-- output has room for the line of a refusal.
pub record LoadRoom (input : List ℕ) (bytes : ℕ) (words out : List ℕ) : Type 0 where
  pub lines : 33 * 514 ≤ length input
  pub filled : bytes ≤ length input
  pub enough : length words ≡ 2568
  pub line : 17 ≤ length out

-- The words pass rows 1 to 3, and whatever card has the bytes read, as PrintsRead has it, what a program prints of it is the program's
-- text of the archive in the words.
pub record Holds (input : List ℕ) (bytes : ℕ) (words : List ℕ) : Type 0 where
  pub passes : archive_rows words 0 ≡ 0
  pub prints : (text : Archive → List ℕ) (card : List ℕ) → take (length input) card ≡ take bytes input → printed text card ≡ text (read words)

-- Where r is 0 the card is accepted, and nothing is written. Else r bytes are written, and they are all that a program prints, whatever
-- its text.
pub record LoadsRead (input : List ℕ) (bytes : ℕ) (out : List ℕ) (r : ℕ) (words after : List ℕ) : Type 0 where
  pub accepted : r ≡ 0 → Holds input bytes words × (after ≡ out)
  pub refused : (r ≡ 0 → ⊥) → (text : Archive → List ℕ) → PrintsRead text input bytes out r after
