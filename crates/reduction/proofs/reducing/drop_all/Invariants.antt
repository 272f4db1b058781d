-- `drop_all` meets its contract: after i turns i drops are made and noted.
use Rattle.reduction.proofs.reducing.Dropping.{DropsMade}
use Rattle.reduction.proofs.reducing.drop_all.Given as goal

abbrev pub invariant-loop-i : goal.invariant-loop-i
invariant-loop-i l =
    DropsMade l.rule l.reference.at l.n l.total l.initial.numbers l.initial.points l.initial.kept l.initial.log l.drops l.i l.left l.numbers l.points l.kept l.log l.corners l.places l.line l.counts
