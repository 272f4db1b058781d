-- "Beyond it on any axis a point dominates no cell" (document 02, W-201), for any number of axes. The proof is in
-- proofs/Beyond.
use Rattle.std.specs.Prelude.{ℕ, ◌≤◌, ◌<◌, ◌≡◌, length, get_or}
use mathlib.Core.List.{List, ◌∷◌, Memᴰ}
use Rattle.hypervolume.specs.Cells.{dominates, count}
use Rattle.hypervolume.specs.Counts.{total, contribution, joint, gain}

-- On some axis the point is at the reference or beyond it.
pub record Beyond (r p : List ℕ) : Type 0 where
  pub axis : ℕ
  pub known : axis < length r
  pub reached : get_or r axis 0 ≤ get_or p axis 0

-- The point counts for nothing, whatever the trials are.
pub record CountsForNothing (r p : List ℕ) : Type 0 where
  pub no_cell : count r (dominates p) ≡ 0
  pub no_gain : (trials : List (List ℕ)) → gain r trials p ≡ 0
  pub no_contribution : (trials : List (List ℕ)) → contribution r trials p ≡ 0
  pub no_joint : (trials : List (List ℕ)) (t : List ℕ) → (joint r trials p t ≡ 0) × (joint r trials t p ≡ 0)
  -- one such trial more: the total and the others' contributions stay
  pub same_total : (trials : List (List ℕ)) → total r (p ∷ trials) ≡ total r trials
  pub same_contribution : (trials : List (List ℕ)) (t : List ℕ) → Memᴰ t trials
      → contribution r (p ∷ trials) t ≡ contribution r trials t

abbrev pub BeyondCountsForNothing : Type 0
BeyondCountsForNothing = (r p : List ℕ) → Beyond r p → CountsForNothing r p
