-- `insert_grid` meets its contract: refused by row 17 or by rows 1 to 3, or filled, and the front counted if a trial went in.
use mathlib.Core.Path.{refl, sym}
use Rattle.std.proofs.lemmas.Result.{err_from_is_err_and}
use Rattle.refusals.proofs.Table.{number_positive}
use Rattle.grid.proofs.Outcomes.{refused_17, refused_archive, done_none, left_passes, done_some}
use Rattle.grid.proofs.insert_grid.Goals as goal

pub returns-then-grid-ne0 : goal.returns-then-grid-ne0
returns-then-grid-ne0 c = refused_17 _ _ c.if-grid-ne0.true refl

pub returns-in_err-refusal : goal.returns-in_err-refusal
returns-in_err-refusal c =
    let p = err_from_is_err_and c.from_residual.result c.from_residual.ensures.1 in
    rw (p.1, p.2) (refused_archive _ _ _ c.if-grid-ne0.false c.in_err-refusal.ensures (number_positive _) refl)

pub returns-then-filled-eq0 : goal.returns-then-filled-eq0
returns-then-filled-eq0 c =
    done_none _ _ _ _ c.if-grid-ne0.false (sym c.in_ok-refusal.ensures) c.fill-filled.ensures c.if-filled-eq0.true

pub renew-requires : goal.renew-requires
renew-requires c = left_passes _ _ _ _ c.if-grid-ne0.false (sym c.in_ok-refusal.ensures) c.fill-filled.ensures

pub returns : goal.returns
returns c = done_some _ _ _ _ c.if-grid-ne0.false (sym c.in_ok-refusal.ensures) c.fill-filled.ensures c.if-filled-eq0.false c.renew.ensures
