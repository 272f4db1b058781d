-- `card::loading::first_line` meets its contract: row 15, or what start answers and leaves.
use mathlib.Core.Path.{refl}
use Rattle.std.proofs.lemmas.Result.{err_from_is_err_and}
use Rattle.card.specs.Card.{malformed}
use Rattle.card.proofs.Refusing.{none_as}
use Rattle.card.proofs.loading.ReadCard.{first_missing, first_called, same_outcome}
use Rattle.card.proofs.loading.first_line.Goals as goal

pub returns-in_err-l : goal.returns-in_err-l
unfolding malformed
returns-in_err-l c =
    let p = err_from_is_err_and c.from_residual.result c.from_residual.ensures.1 in
    rw (p.1, p.2, none_as _ _ _ c.in_err-l.ensures.value c.in_err-l.ensures.ok_part)
    (same_outcome (first_missing _ c.in_err-l.ensures.ok_part) (refl, refl))

pub returns : goal.returns
returns c = same_outcome (first_called _ c.in_ok-l.ensures.ok_part) c.start.ensures
