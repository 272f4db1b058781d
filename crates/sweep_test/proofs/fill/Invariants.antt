-- The first i points are small and ascend up to z.
use Rattle.sweep_test.proofs.Lists.{Filled}
use Rattle.sweep_test.proofs.fill.Given as goal

abbrev pub invariant-loop-i : goal.invariant-loop-i
invariant-loop-i l = Filled l.initial.points l.points l.z l.i
