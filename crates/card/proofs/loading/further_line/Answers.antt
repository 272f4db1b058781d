-- `card::loading::further_line` meets its contract: row 15, or what entering the trial comes to.
use Rattle.std.proofs.lemmas.Result.{err_from_is_err_and}
use Rattle.card.proofs.Refusing.{none_as}
use Rattle.card.proofs.loading.ReadCard.{further_missing, further_entered}
use Rattle.card.proofs.loading.further_line.Goals as goal

pub returns-in_err-l : goal.returns-in_err-l
returns-in_err-l c =
    let p = err_from_is_err_and c.from_residual.result c.from_residual.ensures.1 in
    rw (p.1, p.2, none_as _ _ _ c.in_err-l.ensures.value c.in_err-l.ensures.ok_part) (further_missing _ c.in_err-l.ensures.ok_part)

pub enter-requires : goal.enter-requires
enter-requires c = c.requires

pub returns : goal.returns
returns c = further_entered c.in_ok-l.ensures.ok_part c.enter.ensures
