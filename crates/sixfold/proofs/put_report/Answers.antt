-- `sixfold::put_report` meets its contract: the report of the archive rearranged, which passes again.
use Rattle.printing.proofs.Printouts.{done_of}
use Rattle.sixfold.proofs.Reports.{report_answered, report_put}
use Rattle.sixfold.proofs.put_report.Goals as goal

pub unwrap-requires : goal.unwrap-requires
unwrap-requires c =
    let asked = c.requires in
    done_of _ (report_answered _ _ asked.0 asked.1 _ c.write.ensures _ _ asked.3 c.report.ensures)

pub returns : goal.returns
returns c =
    let asked = c.requires in
    report_put _ _ asked.0 asked.1 _ c.write.ensures _ _ asked.3 (rw c.unwrap.ensures at c.report.ensures)
