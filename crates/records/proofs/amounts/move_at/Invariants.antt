-- `move_at` meets its contract: the contributions at the first k places are moved, whatever operation the step is, and the next is
-- one that the step takes.
use Prim.Native.Nat.{ℕ, ◌+◌, ◌*◌, ◌<◌}
use lib.ListN.{length, get_or}
use Rattle.words.specs.Places.{rows_before}
use Rattle.records.specs.Columns.{column}
use Rattle.records.specs.AtPlaces.{StepsBy}
use Rattle.records.proofs.amounts.KeptWords.{Storing}
use Rattle.records.proofs.amounts.move_at.Given as goal

abbrev pub invariant-loop-k : goal.invariant-loop-k
invariant-loop-k g l = record {
  stored : (op : ℕ → ℕ → ℕ) → StepsBy (goal.F-post g l.step) op (column 4 (rows_before l.initial.w l.n)) l.places l.counts → Storing op l.initial.w l.n l.places l.counts l.k l.w;
  next : l.k < length l.places → goal.F-pre g l.step (get_or l.w (12 + 5 * get_or l.places l.k 0) 0) (get_or l.counts l.k 0);
}
