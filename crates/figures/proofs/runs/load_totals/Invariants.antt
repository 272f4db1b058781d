-- `load_totals` meets its contract: the loop's invariant is Loading.
use Rattle.figures.proofs.Loading.{Loading}
use Rattle.figures.proofs.runs.load_totals.Given as goal

abbrev pub invariant-loop-i : goal.invariant-loop-i
invariant-loop-i l = Loading l.w l.starts l.i l.out
