-- Contributions raised by the joint counts that an update left: what raising asks, and what it comes to.
use Prim.Native.Nat.{ℕ, zero, suc, ◌+◌, ◌≤◌, zero-le}
use mathlib.Core.Path.{◌≡◌, sym, subst, ◌∙◌}
use mathlib.Core.List.{List, ◌∷◌, ◌++◌, map, []}
use native.Mathlib.Nat.{le_trans}
use native.Mathlib.Omega.{arith}
use lib.ListN.{length, take}
use lib.Seq.{length-take-le, take_at}
use Rattle.slices.specs.Spread.{Sparse}
use Rattle.slices.specs.Amounts.{moved, Each, Placed, amounts_at}
use Rattle.slices.proofs.Placed.{counts_low, sparse_placed, moved_sparse}
use Rattle.hypervolume.specs.Cells.{box}
use Rattle.hypervolume.specs.Counts.{joint, joints}
use Rattle.hypervolume.proofs.Counting.{joint_le_box}
use Rattle.corners.proofs.Updates.{points_many, some_fit}
use Rattle.reduction.specs.Columns.{Recounting}

-- No joint count is above the box.
joints_part : (r : List ℕ) (all ts : List (List ℕ)) (u : List ℕ) → Each (map (λ t. joint r all u t) ts) (box r)
joints_part r all [] u i = zero-le
joints_part r all (t ∷ ts) u zero = joint_le_box r all u t
joints_part r all (t ∷ ts) u (suc i) = joints_part r all ts u i

joints_each : (r : List ℕ) (ts : List (List ℕ)) (u : List ℕ) → Each (joints r ts u) (box r)
unfolding joints
joints_each r ts u = joints_part r (u ∷ ts) ts u

-- What raising asks, and what it leaves.
module _ {points : List (List ℕ)} {kept : List ℕ} {m : ℕ} {u reference : List ℕ} (h : Recounting points kept m u reference) where
  kept_many : length (take m kept) ≡ length (take m points)
  kept_many = length-take-le m kept h.kept_room ∙ sym (points_many points m h.points_room)

  pub long_enough : (old now : List ℕ) → m ≤ length old → length now ≡ length old → m ≤ length now
  long_enough old now r e = omega arith

  module _ (places counts : List ℕ) (some : ℕ) where
    pub recount_raises : m ≤ length places → m ≤ length counts → Sparse (length (take m points)) (joints reference (take m points) u) places counts some
        → Placed (length (take m kept)) (take some places) (take some counts) × (Each (take m kept) 1152921504606846976 × Each (take some counts) 1152921504606846976)
    recount_raises p q s =
        let few : some ≤ m = some_fit points m h.points_room s in
        let placed : Placed (length (take m points)) (take some places) (take some counts) = sparse_placed s (omega arith) (omega arith) in (
          rw kept_many placed,
          (h.fits, counts_low 1152921504606846976 placed (subst (λ all. Each all 1152921504606846976) s.is_spread (λ i. le_trans (joints_each reference (take m points) u i) h.boxed))),
        )

    pub raised_front : (after behind : List ℕ) → length after ≡ length (take m kept) → Sparse (length (take m points)) (joints reference (take m points) u) places counts some
        → after ≡ moved (λ v s. v + s) (take m kept) (amounts_at (length (take m kept)) (take some places) (take some counts))
        → take m (after ++ behind) ≡ moved (λ v s. v + s) (take m kept) (joints reference (take m points) u)
    raised_front after behind long s e =
        take_at after behind m (long ∙ kept_many ∙ points_many points m h.points_room) ∙ e ∙ moved_sparse s (λ v s. v + s) (take m kept) kept_many
