-- What is proved of reports besides the contracts. The proofs are in proofs/Theorems.
use Rattle.std.specs.Prelude.{ℕ, ◌≡◌, List, length}
use Rattle.words.specs.Archive.{Archive, reference}
use Rattle.words.specs.Layout.{read}
use Rattle.words.specs.Format.{archive_rows}
use Rattle.printing.specs.Printed.{printed}
use Rattle.reports.specs.Report.{report_text}
use Rattle.reports.specs.Example.{example_card, example_report}

-- A report can be read back: archives of equal reports have these in common.
pub record ReportedAlike (a b : Archive) : Type 0 where
  pub count : length a.rows ≡ length b.rows
  pub reference : reference a.shape ≡ reference b.shape
  pub total : a.sum ≡ b.sum
  pub records : a.rows ≡ b.rows

-- All of it.
pub record Reports : Type 0 where
  pub read_back : (v w : List ℕ) → archive_rows v 0 ≡ 0 → archive_rows w 0 ≡ 0 → report_text (read v) ≡ report_text (read w)
      → ReportedAlike (read v) (read w)
  -- what the report program prints of document 01's card
  pub example : printed report_text example_card ≡ example_report
