-- `read` meets its contract. The invariant: the first i points are read, judged and have their keys.
use Rattle.volume.proofs.Reading.{Reading}
use Rattle.volume.proofs.read.Given as goal

abbrev pub invariant-loop-i : goal.invariant-loop-i
invariant-loop-i l = Reading l.ds l.points l.keys l.i
