-- `strips` meets its contract. The invariant: the columns passed are settled, and the state is that of the entries
-- passed.
use Rattle.strips.proofs.StripsLaws.{Swept}
use Rattle.strips.proofs.strips.Given as goal

abbrev pub invariant-loop-k : goal.invariant-loop-k
invariant-loop-k l = Swept l.line l.px l.py l.rx l.ry l.height l.initial.out l.k l.at l.area l.column l.out
