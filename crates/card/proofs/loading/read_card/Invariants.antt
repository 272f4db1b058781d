-- `card::loading::read_card` meets its contract. The loop's invariant: loading comes to what it comes to from the line
-- next due on, with the words so far (Reading). The measure is the number of lines left.
use Prim.Native.Nat.{◌+◌, ◌-◌}
use mathlib.Core.Path.{◌≡◌}
use Rattle.ask.proofs.Arrays.{Arrays}
use Rattle.card.specs.Card.{line_count}
use Rattle.card.proofs.loading.ReadCard.{Reading}
use Rattle.card.proofs.loading.read_card.Given as goal

abbrev pub invariant-loop-l : goal.invariant-loop-l
invariant-loop-l l =
    Reading l.card l.initial.w l.reader.line l.w
    × Arrays l.points l.corners l.places l.column l.counts
    × (l.reader.card.now ≡ l.card)

abbrev pub decreases-loop-l : goal.decreases-loop-l
decreases-loop-l l = line_count l.card + 1 - l.reader.line
