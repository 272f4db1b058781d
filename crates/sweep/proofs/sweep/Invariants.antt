-- `sweep` meets its contract. The invariant: after i points, their total and their contributions.
use Rattle.sweep.proofs.SweepLaws.{Progress}
use Rattle.sweep.proofs.sweep.Given as goal

abbrev pub invariant-loop-i : goal.invariant-loop-i
invariant-loop-i l = Progress l.points l.initial.line l.initial.out l.rx l.ry l.rz l.i l.m l.volume l.line l.out
