-- `gain` meets its contract: rows 1 to 3 refuse, or the inner function answers.
use Rattle.std.proofs.lemmas.Result.{err_from_is_err_and}
use Rattle.refusals.proofs.Table.{number_positive}
use Rattle.ask.proofs.questions.Asking.{answer_turned}
use Rattle.calls.specs.Lent.{gain_answer}
use Rattle.ask.proofs.questions.gain.Goals as goal

pub returns-in_err-refusal : goal.returns-in_err-refusal
unfolding gain_answer
returns-in_err-refusal c = let p = err_from_is_err_and c.from_residual.result c.from_residual.ensures.1 in rw (p.1, p.2) (answer_turned _ _ _ _ c.in_err-refusal.ensures (number_positive _))
