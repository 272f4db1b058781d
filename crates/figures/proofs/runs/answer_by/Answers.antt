-- `answer_by` meets its contract: totals read and sorted, then the answer.
use mathlib.Core.Path.{sym, ap, ◌∙◌}
use lib.ListN.{length}
use Rattle.figures.proofs.Boxes.{length_totals}
use Rattle.figures.proofs.Loading.{runs_totals}
use Rattle.figures.proofs.runs.answer_by.Goals as goal

pub sort-requires : goal.sort-requires
sort-requires c =
    let asked = c.requires in
    let loaded = c.load_totals.ensures in
    (runs_totals asked.0 loaded, asked.2 ∙ sym (ap length loaded ∙ length_totals _ _))
