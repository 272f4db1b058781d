-- What a program prints that reads a card from standard input (document 01, "Card and report"): a text of the archive
-- that the card describes, or one line for a refused card. The report program prints the report, write_card the card and
-- six_reports six reports (document 02, W-205 and W-212).
use Rattle.std.specs.Prelude.{ℕ, zero, suc, ◌*◌, ◌≤◌, ◌≡◌, List, ◌∷◌, ◌++◌, [], length, take, replicate}
use Rattle.slices.specs.Put.{put}
use Rattle.text.specs.Lines.{newline}
use Rattle.text.specs.Justified.{justified}
use Rattle.words.specs.Archive.{Archive}
use Rattle.words.specs.Layout.{extent, read}
use Rattle.card.specs.Card.{Loading, load}

-- "For a refused card it prints one line, refusal number and card line number in eight bytes each, and byte 10."
unfoldable pub refusal_line : ℕ → ℕ → List ℕ
refusal_line number line = justified 8 number ++ (justified 8 line ++ (newline ∷ []))

-- The text of an accepted card's archive (refusal 0), or the line of a refused one.
unfoldable pub shown : (text : Archive → List ℕ) → ℕ → Loading → List ℕ
shown text zero l = text (read l.words)
shown text (suc n) l = refusal_line (suc n) l.answer.line

-- "The report program reads a card from standard input": the card is loaded into a slice that is long enough for every
-- capacity.
unfoldable pub loaded : List ℕ → Loading
loaded card = load (replicate (extent 512) 0) card

unfoldable pub printed : (text : Archive → List ℕ) → List ℕ → List ℕ
printed text card = shown text (loaded card).answer.refusal (loaded card)

-- Where r bytes of the output are to be written out: they are what the program prints, at the output's front.
pub record Prints (text : Archive → List ℕ) (card out : List ℕ) (r : ℕ) (after : List ℕ) : Type 0 where
  pub text_put : after ≡ put out 0 (printed text card)
  pub long : r ≡ length (printed text card)
  pub within : r ≤ length after
  pub part : r ≡ length (take r after)

-- A program has read the first `read` bytes of a card to the front of its input. What printing asks of the memory lent:
pub record PrintRoom (bytes : ℕ) (input : List ℕ) (read : ℕ) (out : List ℕ) : Type 0 where
  -- room for 514 lines of a card, which are all that decide (`whole` of PrintsRead)
  pub lines : 33 * 514 ≤ length input
  pub filled : read ≤ length input
  -- room for the longest text, of 512 trials, with so many bytes a line
  pub text : bytes * 513 ≤ length out

-- What it then prints: whatever card has the bytes read, as far as the input has room for them, the output is what the
-- program prints of that whole card.
pub record PrintsRead (text : Archive → List ℕ) (input : List ℕ) (read : ℕ) (out : List ℕ) (r : ℕ) (after : List ℕ) : Type 0 where
  pub whole : (card : List ℕ) → take (length input) card ≡ take read input → Prints text card out r after
  pub within : r ≤ length after
  pub part : r ≡ length (take r after)

-- What is proved of it besides the contracts (proofs/Printouts).
pub record Printing : Type 0 where
  -- of a card only the first 514 lines matter here too: a program may cut it behind them
  pub enough_read : (text : Archive → List ℕ) (card : List ℕ) (k : ℕ) → 33 * 514 ≤ k → printed text (take k card) ≡ printed text card
