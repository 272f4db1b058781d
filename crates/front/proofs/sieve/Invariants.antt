-- `sieve` meets its contract: after i turns the keys of i points are there, but for those left out.
use lib.ListN.{length}
use Rattle.front.proofs.Sieving.{Sieving}
use Rattle.front.proofs.sieve.Given as goal

abbrev pub invariant-loop-i : goal.invariant-loop-i
invariant-loop-i l = Sieving l.points (length l.initial.keys) l.best l.stood l.first l.m l.i l.keys
