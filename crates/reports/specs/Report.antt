-- The report (document 01, "Card and report").
use Rattle.std.specs.Prelude.{ℕ, List, ◌∷◌, ◌++◌, [], length}
use Rattle.text.specs.Lines.{newline}
use Rattle.text.specs.Justified.{justified}
use Rattle.words.specs.Archive.{Row, Archive}
use Rattle.words.specs.Layout.{read}
use Rattle.calls.specs.declared.Answer.{Answer}
use Rattle.calls.specs.Lent.{answer}
use Rattle.printing.specs.Texts.{lines_of, text_rows, output}

-- Four numbers of eight bytes each, one of twenty, "every line ended by byte 10"; "its numbers are justified as on a
-- card".
unfoldable pub report_line : ℕ → ℕ → ℕ → ℕ → ℕ → List ℕ
report_line a b c d e =
    justified 8 a ++ (justified 8 b ++ (justified 8 c ++ (justified 8 d ++ (justified 20 e ++ (newline ∷ [])))))

-- "One line of count, rx, ry, rz (eight bytes each) and total (twenty bytes)."
unfoldable pub head_line : Archive → List ℕ
head_line a = report_line (length a.rows) a.shape.rx a.shape.ry a.shape.rz a.sum

-- "For each record number, x, y, z (eight each) and contribution (twenty)."
unfoldable pub record_line : Row → List ℕ
record_line r = report_line r.trial.number r.trial.x r.trial.y r.trial.z r.kept

-- The report: the first line, and the lines of the records "in archive order".
unfoldable pub report_text : Archive → List ℕ
report_text a = head_line a ++ lines_of record_line a.rows

-- Row 16: "output shorter than 53 × (count + 1) bytes".
unfoldable pub report_rows : List ℕ → List ℕ → ℕ
report_rows w out = text_rows 53 w out

-- "The report call answers its length in bytes."
unfoldable pub report : List ℕ → List ℕ → Answer
report w out = answer (report_rows w out) (length (report_text (read w)))

-- "Output bytes behind that length stay unchanged."
unfoldable pub reported : List ℕ → List ℕ → List ℕ
reported w out = output (report_rows w out) (report_text (read w)) out
