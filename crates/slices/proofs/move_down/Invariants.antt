-- `move_down` meets its contract: a word is read before another is written over it.
use Rattle.slices.proofs.Moves.{Lowering}
use Rattle.slices.proofs.move_down.Given as goal

abbrev pub invariant-loop-i : goal.invariant-loop-i
invariant-loop-i l = Lowering l.initial.w l.at l.n l.by l.i l.w
