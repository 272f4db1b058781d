-- `reports::print` meets its contract: the report is a text.
use lib.Dec.{lit<}
use borrow.Author.Rules.{rules}
use Rattle.printing.proofs.Texts.{report_form}
use Rattle.reports.proofs.Reporting.{prints_report}
use Rattle.reports.proofs.print.Goals as goal

pub print-requires : goal.print-requires
print-requires c = (report_form _ (lit< tt), search rules)

pub returns : goal.returns
returns c = prints_report _ _ _ c.print.ensures
