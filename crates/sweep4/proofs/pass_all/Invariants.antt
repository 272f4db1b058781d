-- `pass_all` meets its contract. The invariant: after i points, their total and their contributions.
use Rattle.sweep4.proofs.Sweeping.{Sweeping}
use Rattle.sweep4.proofs.pass_all.Given as goal

abbrev pub invariant-loop-i : goal.invariant-loop-i
invariant-loop-i l =
    Sweeping l.coords l.keys l.reference.at l.rw l.points l.own l.whose l.corners l.places l.line l.counts l.total l.i
