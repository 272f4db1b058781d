-- `put_back` meets its contract: the total and the first i numbers are at their places.
use Rattle.sweep4.proofs.Finishing.{Putting}
use Rattle.sweep4.proofs.put_back.Given as goal

abbrev pub invariant-loop-i : goal.invariant-loop-i
invariant-loop-i l = Putting l.total l.own l.whose l.initial.out l.out l.i
