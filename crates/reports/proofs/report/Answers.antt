-- `reports::report` meets its contract: the report is a text.
use lib.Dec.{lit<}
use Rattle.printing.proofs.Texts.{report_form}
use Rattle.reports.proofs.Reporting.{as_report}
use Rattle.reports.proofs.report.Goals as goal

pub write_text-requires : goal.write_text-requires
write_text-requires c = report_form _ (lit< tt)

pub returns : goal.returns
returns c = as_report _ _ c.write_text.ensures
