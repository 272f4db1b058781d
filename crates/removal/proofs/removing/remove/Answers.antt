-- `remove` meets its contract: refused, not held, or taken out.
use mathlib.Core.Path.{sym}
use native.Mathlib.Nat.{le_refl}
use Rattle.std.proofs.lemmas.Result.{err_from_is_err_and}
use Rattle.refusals.proofs.Table.{number_positive}
use Rattle.calls.proofs.Known.{known}
use Rattle.removal.proofs.removing.Outcomes.{remove_refused, remove_not_held, remove_out}
use Rattle.removal.proofs.removing.remove.Goals as goal

pub returns-in_err-refusal : goal.returns-in_err-refusal
returns-in_err-refusal c =
    let p = err_from_is_err_and c.from_residual.result c.from_residual.ensures.1 in
    rw (p.1, p.2) (remove_refused _ _ _ c.in_err-refusal.ensures (number_positive _))

pub find-requires : goal.find-requires
find-requires c = (known c.args.w.now (sym c.in_ok-refusal.ensures)).records_long

pub returns-in_default : goal.returns-in_default
returns-in_default c = remove_not_held c.args.w.now _ _ (sym c.in_ok-refusal.ensures) c.in_default.ensures.found (le_refl _)

pub returns : goal.returns
returns c = remove_out c.args.w.now _ _ _ _ (sym c.in_ok-refusal.ensures) c.in-Some.ensures.found c.in-Some.ensures.within c.take_out.ensures.answer c.take_out.ensures.words
