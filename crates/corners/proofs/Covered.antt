-- A point that two of the points cover: it gains nothing, and has no joint contribution with any.
use Prim.Native.Nat.{ℕ, suc, ◌+◌, ◌≤◌, ◌<◌}
use mathlib.Core.Path.{◌≡◌, refl, subst}
use mathlib.Core.Bool.{Bool, true, false}
use mathlib.Core.List.{List, ◌∷◌, map, []}
use native.Mathlib.Nat.{le_trans}
use native.Mathlib.Omega.{arith}
use lib.Dec.{leb, eqb}
use lib.ListN.{length, get_or, set, replicate}
use borrow.Author.Tests.{leb-true, le-leb, ne_eqb}
use Rattle.slices.specs.Choices.{both}
use Rattle.slices.specs.Spread.{spread, Sparse}
use Rattle.slices.proofs.Choices.{both_true, both_intro, both_comm}
use Rattle.hypervolume.specs.Cells.{holds, dominates}
use Rattle.hypervolume.specs.Counts.{cover, gain, joint, joints}
use Rattle.hypervolume.specs.Sorted.{Sorted}
use Rattle.hypervolume.proofs.Tests.{holds_implied}
use Rattle.hypervolume.proofs.Counting.{Twice, gain_twice, count_none}
use Rattle.corners.specs.Limits.{Limits}

dominates_through : (p u c : List ℕ) → length p ≤ length u → dominates p u ≡ true → dominates u c ≡ true → dominates p c ≡ true
unfolding dominates
dominates_through [] u c l d e = refl
dominates_through (x ∷ p) [] c l d e = absurd (let no' : ⊥ = omega arith in no')
dominates_through (x ∷ p) (y ∷ u) [] l d e = refl
dominates_through (x ∷ p) (y ∷ u) (z ∷ c) l d e =
    let first = both_true (leb x y) (dominates p u) d in
    let then = both_true (leb y z) (dominates u c) e in
    both_intro (leb x z) (dominates p c) (le-leb x z (le_trans (leb-true x y first.0) (leb-true y z then.0)))
    (dominates_through p u c (omega arith) first.1 then.1)

cover_on : (trials : List (List ℕ)) (u c : List ℕ) → ((j : ℕ) → j < length trials → length (get_or trials j []) ≤ length u) → dominates u c ≡ true → cover trials u ≤ cover trials c
unfolding cover
cover_on [] u c long d = omega arith
cover_on (t ∷ trials) u c long d =
    omega (
      arith,
      holds_implied (dominates t u) (dominates t c) (λ e. dominates_through t u c (long 0 (omega arith)) e d),
      cover_on trials u c (λ j l. long (suc j) (omega arith)) d,
    )

-- A third would be the trial itself.
joint_twice : (r : List ℕ) (trials : List (List ℕ)) (u t : List ℕ) → Twice trials u → joint r (u ∷ trials) u t ≡ 0
unfolding joint cover Twice both holds
joint_twice r trials u t h = count_none r _ (λ c. go c (dominates u c) refl (dominates t c))
  where
    go : (c : List ℕ) (b : Bool) → dominates u c ≡ b → (d : Bool) → both b (both d (eqb (holds b + cover trials c) 2)) ≡ false
    go c false e d = refl
    go c true e d = rw (ne_eqb (1 + cover trials c) 2 (λ k. omega (arith, h c e))) (both_comm d false)

map_none : (f : List ℕ → ℕ) (l : List (List ℕ)) → ((t : List ℕ) → f t ≡ 0) → map f l ≡ replicate (length l) 0
map_none f [] h = refl
map_none f (t ∷ l) h = rw (h t, map_none f l h)

set_own : (u : List ℕ) (v : ℕ) → length u ≡ 3 → v ≡ get_or u 0 0 → set u 0 v ≡ u
set_own [] v l e = absurd (let no' : ⊥ = omega arith in no')
set_own (x ∷ u) v l e = rw e

module _ {points : List (List ℕ)} {u limit : List ℕ} (sorted : Sorted points) (axes : length u ≡ 3) (long : length limit ≡ 3) (h : Limits points u limit) (own : get_or limit 0 0 ≡ get_or u 0 0) (below : get_or u 0 0 < 1048576) where
  twice : Twice points u
  unfolding Twice
  twice c d =
      let two : 2 ≤ cover points (set u 0 (get_or limit 0 0)) = h.twice 0 (omega arith) (omega arith) in
      let same : set u 0 (get_or limit 0 0) ≡ u = set_own u (get_or limit 0 0) axes own in
      let here : 2 ≤ cover points u = subst (λ s. 2 ≤ cover points s) same two in
      omega (arith, cover_on points u c (λ j l. omega (arith, sorted.axes j l)) d)

  pub covered_gain : (r : List ℕ) → ◌≡◌ {A = ℕ} 0 (gain r points u)
  covered_gain r = rw (gain_twice r points u twice)

  pub covered_joints : (r places counts : List ℕ) → Sparse (length points) (joints r points u) places counts 0
  unfolding joints spread
  covered_joints r places counts =
      record {
        few = omega arith;
        inside = λ k l. absurd (let no' : ⊥ = omega arith in no');
        rising = λ k l. absurd (let no' : ⊥ = omega arith in no');
        is_spread = map_none (λ t. joint r (u ∷ points) u t) points (λ t. joint_twice r points u t twice);
      }
