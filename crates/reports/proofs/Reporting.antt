-- The report is the text whose first line begins with the count, and whose last column has twenty bytes.
use Prim.Native.Nat.{ℕ, ◌+◌, ◌*◌, ◌≤◌}
use mathlib.Core.Path.{◌≡◌, sym}
use mathlib.Core.List.{List}
use lib.ListN.{length}
use Rattle.slices.specs.Put.{put}
use Rattle.words.specs.Archive.{Archive}
use Rattle.words.specs.Layout.{header, word, read}
use Rattle.words.specs.Format.{archive_rows}
use Rattle.calls.specs.declared.Answer.{Answer}
use Rattle.printing.specs.Printed.{PrintsRead}
use Rattle.printing.specs.Forms.{text_line, text_row, text_of}
use Rattle.printing.proofs.Texts.{Told, text_done, length_text}
use Rattle.reports.specs.Report.{report_line, head_line, record_line, report_text, report_rows, report, reported}

pub as_report : (w out : List ℕ) {r : Answer} {after : List ℕ} → Told 0 20 w out r after → (r ≡ report w out) × (after ≡ reported w out)
unfolding report reported report_rows report_text head_line record_line report_line text_of text_row text_line header
as_report w out told = told

pub prints_report : (input : List ℕ) (read : ℕ) (out : List ℕ) {r : ℕ} {after : List ℕ} → PrintsRead (text_of 0 20) input read out r after
    → PrintsRead report_text input read out r after
unfolding report_text head_line record_line report_line text_of text_row text_line header
prints_report input read out p = p

-- A report has 53 bytes a line.
pub length_report : (a : Archive) → length (report_text a) ≡ 53 * (length a.rows + 1)
unfolding report_text head_line record_line report_line text_of text_row text_line header
length_report a = length_text 0 20 a

-- The report of words that pass, where there is room for it.
pub report_done : (w out : List ℕ) → archive_rows w 0 ≡ 0 → 53 * (word w 0 + 1) ≤ length out
    → (report w out ≡ record { refusal = 0; value = length (report_text (read w)) }) × (reported w out ≡ put out 0 (report_text (read w)))
unfolding report_text head_line record_line report_line text_of text_row text_line header
report_done w out passes room =
    let done = as_report w out (text_done 0 20 w out passes room) in
    (sym done.0, sym done.1)
