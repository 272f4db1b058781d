-- A text of an archive: a first line, then a line for each trial, all of one length. The report (document 01, "Card and
-- report") and the card written back (document 02, W-205) are such texts; this is what they have in common.
use Rattle.std.specs.Prelude.{ℕ, zero, suc, ◌+◌, ◌*◌, List, ◌∷◌, ◌++◌, [], ltb, length}
use Rattle.slices.specs.Put.{put}
use Rattle.words.specs.Layout.{read}
use Rattle.words.specs.Format.{guard, archive_rows}

-- A line for each of a list, one behind the other: of the records "in archive order".
unfoldable pub lines_of : {A : Type 0} → (A → List ℕ) → List A → List ℕ
lines_of line [] = []
lines_of line (a ∷ l) = line a ++ lines_of line l

-- Rows 1 to 3, then row 16: an output shorter than so many bytes for each of count + 1 lines.
unfoldable pub text_rows : (bytes : ℕ) → List ℕ → List ℕ → ℕ
text_rows bytes w out = archive_rows w (guard (ltb (length out) (bytes * (length (read w).rows + 1))) 16 0)

-- The output where a refusal is given (not 0); and where none is, with this text at its front: "output bytes behind that
-- length stay unchanged".
unfoldable pub output : ℕ → List ℕ → List ℕ → List ℕ
output zero text out = put out 0 text
output (suc n) text out = out
