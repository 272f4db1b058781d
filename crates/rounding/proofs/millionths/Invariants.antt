-- `millionths` meets its contract: after i turns the quotient has i digits more, and the rest behind the sixth rounds it.
use Rattle.rounding.proofs.Digits.{Dividing}
use Rattle.rounding.proofs.millionths.Given as goal

abbrev pub invariant-loop : goal.invariant-loop
invariant-loop l = Dividing l.total l.whole l.quotient l.rest l.counter
