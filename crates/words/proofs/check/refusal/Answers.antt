-- `refusal` meets its contract: each way out in turn.
use Prim.Native.Nat.{ℕ, ◌+◌, ◌*◌, ◌≤◌}
use mathlib.Core.Path.{◌≡◌, ◌∙◌, sym, ap}
use mathlib.Core.Bool.{Bool, false, not}
use mathlib.Core.List.{List}
use native.Mathlib.Omega.{arith}
use lib.ListN.{length}
use borrow.Author.Tests.{lt-ltb, le-ltb, not-false}
use Rattle.slices.proofs.Choices.{both_true}
use Rattle.words.specs.Format.{guard, header_allowed, archive_rows}
use Rattle.words.specs.Layout.{extent, word, read_shape}
use Rattle.words.specs.Places.{Headed}
use Rattle.words.proofs.Passed.{shape_bounds, row_3_decides}
use Rattle.words.proofs.check.refusal.Goals as goal

-- What the code knows once header_allowed has answered.
headed : (w : List ℕ) (t : Bool) → t ≡ header_allowed w → not t ≡ false → 8 + 5 * word w 1 ≤ length w → Headed w
unfolding extent
headed w t e n l = record { allowed = sym e ∙ not-false t n; whole = l }

small_capacity : (w : List ℕ) (t : Bool) → t ≡ header_allowed w → not t ≡ false → word w 1 ≤ 512
unfolding header_allowed read_shape
small_capacity w t e n = (shape_bounds (read_shape w) (both_true _ _ (sym e ∙ not-false t n)).0).capacity_high

pub returns-then-w-lt8 : goal.returns-then-w-lt8
unfolding archive_rows guard
returns-then-w-lt8 c = rw (lt-ltb _ 8 c.if-w-lt8.true)

pub returns-then-not-header_allowed : goal.returns-then-not-header_allowed
unfolding archive_rows guard
returns-then-not-header_allowed c = rw (le-ltb _ 8 c.if-w-lt8.false, sym c.header_allowed.ensures ∙ c.if-not-header_allowed.true)

pub overflow_mul-w : goal.overflow_mul-w
overflow_mul-w c = let small = small_capacity _ _ c.header_allowed.ensures (ap not c.if-not-header_allowed.false) in omega arith

pub overflow_add-w : goal.overflow_add-w
overflow_add-w c = let small = small_capacity _ _ c.header_allowed.ensures (ap not c.if-not-header_allowed.false) in omega arith

pub returns-then-w : goal.returns-then-w
unfolding archive_rows guard extent
returns-then-w c =
    rw (le-ltb _ 8 c.if-w-lt8.false, sym c.header_allowed.ensures ∙ c.if-not-header_allowed.false, lt-ltb _ _ c.if-w.true)

pub records_allowed-requires : goal.records_allowed-requires
records_allowed-requires c = (headed _ _ c.header_allowed.ensures (ap not c.if-not-header_allowed.false) c.if-w.false)

pub returns-then-not-records_allowed : goal.returns-then-not-records_allowed
unfolding guard
returns-then-not-records_allowed c =
    rw (row_3_decides _ 0 (headed _ _ c.header_allowed.ensures (ap not c.if-not-header_allowed.false) c.if-w.false), sym c.records_allowed.ensures ∙ c.if-not-records_allowed.true)

pub returns : goal.returns
unfolding guard
returns c =
    rw (row_3_decides _ 0 (headed _ _ c.header_allowed.ensures (ap not c.if-not-header_allowed.false) c.if-w.false), sym c.records_allowed.ensures ∙ c.if-not-records_allowed.false)
