-- Document 01's card and its report ("Card and report"), as lines of numbers.
use Rattle.std.specs.Prelude.{ℕ, List, ◌++◌}
use Rattle.text.specs.Justified.{line_of}
use Rattle.reports.specs.Report.{report_line}

unfoldable pub example_card : List ℕ
example_card =
    line_of (record { first = 8; second = 4; third = 4; fourth = 4 })
    ++ (line_of (record { first = 1; second = 1; third = 2; fourth = 2 })
    ++ (line_of (record { first = 2; second = 2; third = 1; fourth = 2 })
    ++ (line_of (record { first = 3; second = 2; third = 2; fourth = 1 })
    ++ line_of (record { first = 4; second = 1; third = 1; fourth = 3 }))))

unfoldable pub example_report : List ℕ
example_report =
    report_line 4 4 4 4 21
    ++ (report_line 3 2 2 1 4 ++ (report_line 2 2 1 2 2 ++ (report_line 1 1 2 2 2 ++ report_line 4 1 1 3 1)))
