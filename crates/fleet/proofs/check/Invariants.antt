-- `fleet::check` meets its contract: the loop's invariant is Checking.
use lib.ListN.{length}
use Rattle.fleet.proofs.Loops.{Checking}
use Rattle.fleet.proofs.check.Given as goal

abbrev pub invariant-loop-start : goal.invariant-loop-start
invariant-loop-start l = Checking l.w (length l.initial.starts) l.at l.start-index l.starts
