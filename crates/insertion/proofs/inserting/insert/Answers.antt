-- `insert` meets its contract: refused, turned down, or entered and its front counted.
use mathlib.Core.Path.{◌≡◌, refl, sym}
use Rattle.std.proofs.lemmas.Result.{err_from_is_err_and}
use Rattle.refusals.proofs.Table.{number_positive}
use Rattle.words.specs.Layout.{read}
use Rattle.calls.specs.Calls.{insert_rows}
use Rattle.calls.specs.Lent.{trial_of}
use Rattle.insertion.specs.Inserting.{entered}
use Rattle.insertion.proofs.Entering.{entered_passes, entered_renewed}
use Rattle.insertion.proofs.inserting.Outcomes.{insert_refused, insert_turned, insert_done}
use Rattle.insertion.proofs.inserting.insert.Goals.{In_ok-enter_alone}
use Rattle.insertion.proofs.inserting.insert.Goals as goal

-- The trial passed the rows of insert, and was entered.
module _ (c : In_ok-enter_alone) where
  rows_pass : insert_rows (read c.args.w.now) (trial_of c.args.number c.args.x c.args.y c.args.z) ≡ 0
  rows_pass = sym c.in_ok-enter_alone.ensures.judged

  done : c.enter_alone.new.w ≡ entered c.args.w.now (trial_of c.args.number c.args.x c.args.y c.args.z)
  done = c.in_ok-enter_alone.ensures.done refl

pub returns-in_err-refusal : goal.returns-in_err-refusal
returns-in_err-refusal c =
    let p = err_from_is_err_and c.from_residual.result c.from_residual.ensures.1 in
    rw (p.1, p.2) (insert_refused _ _ _ c.in_err-refusal.ensures (number_positive _))

pub returns-in_err-enter_alone : goal.returns-in_err-enter_alone
returns-in_err-enter_alone c =
    let p = err_from_is_err_and c.from_residual-in_err-enter_alone.result c.from_residual-in_err-enter_alone.ensures.1 in
    rw (p.1, p.2) (insert_turned _ _ (sym c.in_ok-refusal.ensures) c.in_err-enter_alone.ensures (number_positive _))

pub renew-requires : goal.renew-requires
renew-requires c =
    let put = (goal.at.renew-requires c).In_ok-enter_alone in
    entered_passes _ _ _ (sym c.in_ok-refusal.ensures) (rows_pass put) (done put)

pub returns : goal.returns
returns c =
    let put = (goal.at.returns c).In_ok-enter_alone in
    let passes = sym c.in_ok-refusal.ensures in
    insert_done _ _ passes (rows_pass put) (entered_renewed _ _ _ passes (rows_pass put) (done put) _ c.renew.ensures)
