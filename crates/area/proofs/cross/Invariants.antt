-- `cross` meets its contract. The invariant: the columns before `from` are counted.
use Rattle.area.proofs.Crossing.{Walking}
use Rattle.area.proofs.cross.Given as goal

abbrev pub invariant-loop-k : goal.invariant-loop-k
invariant-loop-k l = Walking l.line l.at l.top l.x l.y l.rx l.ry l.column l.from l.gain l.k
