-- The six reports of an archive, one in each order of the axes (document 02, W-212). The program six_reports prints this text of a card's
-- archive: its contract is `PrintsRead six_text` (printing/specs/Printed).
use Rattle.std.specs.Prelude.{ℕ, zero, suc, List, ◌++◌, []}
use Rattle.words.specs.Archive.{Archive}
use Rattle.reports.specs.Report.{report_text}
use Rattle.axes.specs.Rearranging.{rearranged_archive}

-- The report of the archive with its axes in this order.
unfoldable pub report_in : (order : ℕ) → Archive → List ℕ
report_in order a = report_text (rearranged_archive order a)

-- The reports in the orders below n, one behind the other, with nothing between.
unfoldable pub reports_below : (n : ℕ) → Archive → List ℕ
reports_below zero a = []
reports_below (suc n) a = reports_below n a ++ report_in n a

-- "A card's six reports in the orders 0 to 5."
unfoldable pub six_text : Archive → List ℕ
six_text a = reports_below 6 a
