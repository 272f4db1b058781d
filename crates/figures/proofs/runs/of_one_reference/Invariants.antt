-- `of_one_reference` meets its contract: the loop's invariant is Testing.
use lib.ListN.{length}
use Rattle.words.specs.Layout.{read}
use Rattle.fleet.specs.Fleet.{archives}
use Rattle.fleet.proofs.Loops.{Testing}
use Rattle.figures.specs.Figures.{same_reference, of_one_reference}
use Rattle.figures.proofs.runs.of_one_reference.Given as goal

abbrev pub invariant-loop-i : goal.invariant-loop-i
invariant-loop-i l = Testing (same_reference (read l.w)) (of_one_reference (archives (length l.starts) l.w)) l.w (length l.starts) l.i
