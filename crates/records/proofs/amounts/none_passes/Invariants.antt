-- `none_passes` meets its contract: none of the places passed passes the test.
use Prim.Native.Nat.{ℕ, ◌<◌}
use mathlib.Core.Bool.{false}
use lib.ListN.{length, get_or}
use Rattle.records.proofs.amounts.none_passes.Given as goal

abbrev pub invariant-loop-place : goal.invariant-loop-place
invariant-loop-place g l = (k : ℕ) → k < length l.yielded → goal.F-post g l.test (get_or l.places k 0) (get_or l.counts k 0) false
