-- One form for both texts of an archive, which the code goes by: they differ in the header's word that the first line begins with,
-- and in the width of a last column. For the contracts of inner functions; no exported contract cites it.
use Rattle.std.specs.Prelude.{ℕ, ◌+◌, ◌*◌, ◌≤◌, ◌<◌, ◌≡◌, ◌⊎◌, List, ◌∷◌, ◌++◌, [], length}
use Rattle.text.specs.Lines.{newline}
use Rattle.text.specs.Justified.{justified}
use Rattle.words.specs.Archive.{Row, Archive}
use Rattle.words.specs.Layout.{header, word}
use Rattle.words.specs.Format.{archive_rows}
use Rattle.printing.specs.Texts.{lines_of}

-- A line of four columns of eight bytes, one of `wide` bytes, and byte 10; where `wide` is 0 there is no fifth column.
unfoldable pub text_line : (wide : ℕ) → ℕ → ℕ → ℕ → ℕ → ℕ → List ℕ
text_line wide a b c d e =
    justified 8 a ++ (justified 8 b ++ (justified 8 c ++ (justified 8 d ++ (justified wide e ++ (newline ∷ [])))))

unfoldable pub text_row : (wide : ℕ) → Row → List ℕ
text_row wide r = text_line wide r.trial.number r.trial.x r.trial.y r.trial.z r.kept

-- The text whose first line begins with this word of the header.
unfoldable pub text_of : (first wide : ℕ) → Archive → List ℕ
text_of first wide a =
    text_line wide (word (header a) first) a.shape.rx a.shape.ry a.shape.rz a.sum ++ lines_of (text_row wide) a.rows

-- A last column of twenty bytes, which has room for a total, or none.
pub record LastColumn (wide : ℕ) : Type 0 where
  pub narrow : wide ≤ 20
  pub either : (wide ≡ 0) ⊎ (wide ≡ 20)

-- A word of the header, and such a column.
pub record TextForm (first wide : ℕ) : Type 0 where
  pub header : first < 8
  pub column : LastColumn wide

-- What writing the lines of the records asks: rows 1 to 3 let the words pass, and the output has room for all lines.
pub record TextRoom (wide : ℕ) (w out : List ℕ) : Type 0 where
  pub passes : archive_rows w 0 ≡ 0
  pub column : LastColumn wide
  pub room : (33 + wide) * (word w 0 + 1) ≤ length out
