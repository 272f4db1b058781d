-- `card::loading::load` meets its contract: the judgement where it refuses the card, else the reading.
use mathlib.Core.Path.{refl}
use Rattle.std.proofs.lemmas.Result.{err_from_is_err_and}
use Rattle.refusals.proofs.Table.{number_positive}
use Rattle.card.proofs.loading.Judged.{load_refused, load_done}
use Rattle.card.proofs.loading.load.Goals as goal

pub returns-in_err-judge : goal.returns-in_err-judge
returns-in_err-judge c =
    let p = err_from_is_err_and c.from_residual.result c.from_residual.ensures.1 in
    rw (p.1, p.2) (load_refused _ _ c.in_err-judge.ensures (number_positive _))

pub returns : goal.returns
returns c = load_done _ _ c.in_ok-judge.ensures refl c.read_card.ensures
