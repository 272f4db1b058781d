-- Each turn passes a line.
use Rattle.std.proofs.Common.{length, ◌-◌}
use Rattle.card_test.proofs.count.Given as goal

abbrev pub decreases-loop-place : goal.decreases-loop-place
decreases-loop-place l = length l.text - l.place
