-- `enter` meets its contract: turned down by rows 5 to 8, or put in.
use mathlib.Core.Path.{◌≡◌, sym, ap, ◌∙◌}
use native.Mathlib.Omega.{arith}
use Rattle.std.proofs.lemmas.Result.{err_from_is_err_and}
use Rattle.refusals.proofs.Table.{number_positive}
use Rattle.words.specs.Layout.{read}
use Rattle.words.specs.Places.{as_row, as_trial}
use Rattle.words.proofs.Passed.{coordinates_small}
use Rattle.calls.specs.Calls.{admission_rows}
use Rattle.insertion.proofs.inserting.Admitting.{admitted}
use Rattle.insertion.proofs.inserting.Outcomes.{enter_turned, enter_put, enter_same}
use Rattle.insertion.proofs.inserting.enter.Goals.{After-new-p}
use Rattle.insertion.proofs.inserting.enter.Goals as goal

-- The point made is the row's, and with it the trial passes the same rows.
module _ (c : After-new-p) where
  given : as_trial c.args.row.number c.new-p.result.at ≡ (as_row c.args.row).trial
  given = ap (as_trial c.args.row.number) c.new-p.ensures

  admits : admission_rows (read c.args.w.now) (as_trial c.args.row.number c.new-p.result.at) 0 ≡ 0
  admits = ap (λ t. admission_rows (read c.args.w.now) t 0) given ∙ sym c.in_ok-admission.ensures

pub returns-in_err-admission : goal.returns-in_err-admission
returns-in_err-admission c =
    let p = err_from_is_err_and c.from_residual.result c.from_residual.ensures.1 in
    rw (p.1, p.2) (enter_turned _ _ _ c.in_err-admission.ensures (number_positive _))

pub new-p-requires : goal.new-p-requires
new-p-requires c =
    let small = coordinates_small _ (admitted _ _ c.requires.0 (sym c.in_ok-admission.ensures)).coordinates in
    (omega (arith, small 0), omega (arith, small 1), omega (arith, small 2))

pub returns : goal.returns
returns c =
    let made = (goal.at.returns c).After-new-p in
    enter_same _ _ _ (given made) (enter_put _ _ _ _ c.requires.0 (admits made) c.put_in.ensures.answer c.put_in.ensures.words)
