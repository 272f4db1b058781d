-- `fleet::all_audited` meets its contract: the loop's invariant is Testing.
use lib.ListN.{length}
use Rattle.calls.specs.Calls.{audited}
use Rattle.fleet.specs.Fleet.{archives, every}
use Rattle.fleet.proofs.Loops.{Testing}
use Rattle.fleet.proofs.all_audited.Given as goal

abbrev pub invariant-loop-start : goal.invariant-loop-start
invariant-loop-start l = Testing audited (every audited (archives (length l.starts) l.w)) l.w (length l.starts) l.start-index
