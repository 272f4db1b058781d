-- `coordinates_allowed` meets its contract. The invariant: the coordinates passed are allowed.
use Rattle.four.proofs.Rows.{Judged}
use Rattle.four.proofs.coordinates_allowed.Given as goal

abbrev pub invariant-loop-n : goal.invariant-loop-n
invariant-loop-n l = Judged l.coords l.n-index
