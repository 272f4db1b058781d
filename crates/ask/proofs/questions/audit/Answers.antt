-- `audit` meets its contract: rows 1 to 3 refuse, or the answer is yes or no.
use Prim.Native.Nat.{ℕ}
use mathlib.Core.Bool.{Bool, true, false}
use mathlib.Core.List.{List}
use mathlib.Core.Path.{◌≡◌, refl, sym, ap}
use Rattle.std.specs.Prelude.{Ok}
use Rattle.std.proofs.lemmas.Result.{err_from_is_err_and}
use Rattle.hypervolume.specs.Cells.{holds}
use Rattle.words.specs.Layout.{read}
use Rattle.words.specs.Format.{archive_rows}
use Rattle.calls.specs.Calls.{audited}
use Rattle.calls.specs.Lent.{audit}
use Rattle.calls.specs.Outcomes.{verdict_of}
use Rattle.refusals.proofs.Table.{number_positive}
use Rattle.ask.proofs.questions.Asking.{answer_turned, answer_value}
use Rattle.ask.proofs.questions.audit.Goals as goal

verdict : (w : List ℕ) (yes : Bool) → archive_rows w 0 ≡ 0 → yes ≡ audited (read w) → verdict_of (Ok yes) ≡ audit w
unfolding audit holds
verdict w true p e = answer_value w 0 1 _ p refl (ap holds e)
verdict w false p e = answer_value w 0 0 _ p refl (ap holds e)

pub returns-in_err-refusal : goal.returns-in_err-refusal
unfolding audit
returns-in_err-refusal c = let p = err_from_is_err_and c.from_residual.result c.from_residual.ensures.1 in rw (p.1, p.2) (answer_turned _ _ _ _ c.in_err-refusal.ensures (number_positive _))

pub returns : goal.returns
returns c = verdict _ _ (sym c.in_ok-refusal.ensures) c.audited.ensures
