-- The archive keeps its length.
use Rattle.std.proofs.Common.{◌≡◌, length}
use Rattle.archive_test.proofs.script.Given as goal

abbrev pub invariant-loop-line : goal.invariant-loop-line
invariant-loop-line l = length l.w ≡ 2568
