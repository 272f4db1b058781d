-- What is read so far stands at the input's front. Each turn reads a byte or loses patience.
use Rattle.std.proofs.Common.{length, take, ◌+◌, ◌-◌, ◌≤◌}
use Rattle.std.specs.Io.KnownBytes.{Consumes}
use Rattle.streams.proofs.read_card.Given as goal

abbrev pub invariant-loop-read : goal.invariant-loop-read
invariant-loop-read g l =
    (l.read ≤ length l.input)
    × Consumes (g.R.Read.remaining l.fn.card) (g.R.Read.remaining l.card) (take l.read l.input)

abbrev pub decreases-loop-read : goal.decreases-loop-read
decreases-loop-read g l = (length l.initial.input - l.read) + l.patience
