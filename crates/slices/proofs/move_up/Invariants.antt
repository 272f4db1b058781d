-- `move_up` meets its contract: the last words are moved first, so none is lost.
use Rattle.slices.proofs.Moves.{Raising}
use Rattle.slices.proofs.move_up.Given as goal

abbrev pub invariant-loop-i : goal.invariant-loop-i
invariant-loop-i l = Raising l.initial.w l.at l.n l.by l.i l.w
