-- `figures_in` meets its contract: the row of an archive that is turned down, or what follows.
use mathlib.Core.Path.{refl, sym}
use Rattle.std.proofs.lemmas.Result.{err_from_is_err_and}
use Rattle.refusals.proofs.Table.{number_positive}
use Rattle.figures.proofs.Answering.{one_refused, all_passed}
use Rattle.figures.proofs.runs.figures_in.Goals as goal

pub returns-in_err-check : goal.returns-in_err-check
returns-in_err-check c =
    let p = err_from_is_err_and c.from_residual.result c.from_residual.ensures.1 in
    rw (p.1, p.2) (one_refused _ _ c.in_err-check.ensures.value (number_positive _) refl)

pub returns : goal.returns
returns c = all_passed _ _ c.check.auto.starts (sym c.in_ok-check.ensures.value) c.figures_from.ensures
