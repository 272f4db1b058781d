-- `fill` meets its contract. The loop's invariant: so many trials went in, and what is left of the grid comes to what the whole
-- does (Entered).
use Rattle.ask.proofs.Arrays.{Arrays}
use Rattle.grid.proofs.Filling.{Entered}
use Rattle.grid.proofs.fill.Given as goal

abbrev pub invariant-loop-i : goal.invariant-loop-i
invariant-loop-i l =
    Entered l.initial.w l.grid l.i l.w × Arrays l.points l.corners l.places l.line l.counts
