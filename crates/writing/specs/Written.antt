-- The card written back (document 02, W-205): an archive's card, of the lines that reading goes by. What comes back of cards
-- written and read is stated in terms/specs/RoundTrips.
use Rattle.std.specs.Prelude.{ℕ, List, ◌++◌, length}
use Rattle.text.specs.Justified.{line_of}
use Rattle.words.specs.Archive.{Trial, Row, Shape, Archive}
use Rattle.words.specs.Layout.{read}
use Rattle.calls.specs.declared.Answer.{Answer}
use Rattle.calls.specs.Lent.{answer}
use Rattle.printing.specs.Texts.{lines_of, text_rows, output}

-- "Line 1: capacity, rx, ry, rz", as `shape_on` reads it.
unfoldable pub shape_line : Shape → List ℕ
shape_line s = line_of (record { first = s.capacity; second = s.rx; third = s.ry; fourth = s.rz })

-- "Each further line: trial number, x, y, z", as `trial_on` reads it.
unfoldable pub trial_line : Trial → List ℕ
trial_line t = line_of (record { first = t.number; second = t.x; third = t.y; fourth = t.z })

-- Of a record the trial; its contribution does not stand on a card.
unfoldable pub row_line : Row → List ℕ
row_line r = trial_line r.trial

-- The card: "line 1, then trials in archive order, columns as read".
unfoldable pub card_text : Archive → List ℕ
card_text a = shape_line a.shape ++ lines_of row_line a.rows

-- "Rows 1 to 3, then 16 for an output below 33 × (count + 1) bytes."
unfoldable pub write_rows : List ℕ → List ℕ → ℕ
write_rows w out = text_rows 33 w out

-- "The kit must write one and answer its length in bytes."
unfoldable pub write : List ℕ → List ℕ → Answer
write w out = answer (write_rows w out) (length (card_text (read w)))

-- The output: the card at its front, the bytes behind it as they were.
unfoldable pub written : List ℕ → List ℕ → List ℕ
written w out = output (write_rows w out) (card_text (read w)) out
