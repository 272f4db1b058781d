-- At most as many differ as there were.
use Rattle.std.proofs.Common.{◌≤◌}
use Rattle.sweep_test.proofs.edges_differ.Given as goal

abbrev pub invariant-loop-pair : goal.invariant-loop-pair
invariant-loop-pair l = l.differ ≤ l.pair
