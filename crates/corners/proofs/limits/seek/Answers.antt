-- `seek` meets its contract. The invariant: it has come from `from` and is not past the end.
use Prim.Native.Nat.{◌≤◌}
use native.Mathlib.Omega.{arith}
use borrow.Author.Rules.{rules}
use Rattle.corners.proofs.limits.LimitsLaws.{axes_few}
use Rattle.corners.proofs.limits.seek.Goals as goal

pub overflow_add-axes_within : goal.overflow_add-axes_within
overflow_add-axes_within c =
    let a : c.axes_within.result ≤ 3 = axes_few _ _ (search rules) c.axes_within.ensures in
    let b : c.axes_within-in-loop-i.result ≤ 3 = axes_few _ _ (search rules) c.axes_within-in-loop-i.ensures in
    omega arith
