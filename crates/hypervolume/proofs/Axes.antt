-- Law 8, its last part: two adjacent axes may be swapped, and so any axes by such swaps. Every count of the points with their axes
-- swapped, under the reference with its axes swapped, is the count itself.
use Prim.Native.Nat.{ℕ, zero, suc, ◌+◌, ◌*◌, ◌≤◌}
use mathlib.Core.Path.{◌≡◌, refl, ap, ◌∙◌}
use mathlib.Core.List.{List, ◌∷◌, map, []}
use native.Mathlib.Omega.{arith}
use lib.Dec.{leb}
use lib.ListN.{length}
use Rattle.slices.specs.Choices.{both}
use Rattle.slices.proofs.Choices.{both_turn}
use Rattle.hypervolume.specs.Cells.{dominates, cells, count, box}
use Rattle.hypervolume.specs.Counts.{cover, total, contribution, joint, gain}
use Rattle.hypervolume.proofs.Sums.{sum_ext, sum_swap}
use Rattle.hypervolume.proofs.Dominance.{first, rest, dominates_cons}

-- Two adjacent axes swapped: those at places k and k + 1. Then several such swaps, one after the other.
unfoldable pub swap_at : ℕ → List ℕ → List ℕ
swap_at zero p = first (rest p) ∷ first p ∷ rest (rest p)
swap_at (suc k) p = first p ∷ swap_at k (rest p)

unfoldable pub swapped : List ℕ → List ℕ → List ℕ
swapped [] p = p
swapped (k ∷ ks) p = swapped ks (swap_at k p)

-- Each of the swaps is one of two axes of n.
unfoldable pub Swaps : ℕ → List ℕ → Type 0
Swaps n [] = Unit {0}
Swaps n (k ∷ ks) = (k + 2 ≤ n) × Swaps n ks

pub length_swap : (k : ℕ) (p : List ℕ) → k + 2 ≤ length p → length (swap_at k p) ≡ length p
unfolding swap_at first rest
length_swap k [] l = absurd (let no' : ⊥ = omega arith in no')
length_swap zero (x ∷ []) l = absurd (let no' : ⊥ = omega arith in no')
length_swap zero (x ∷ y ∷ p) l = refl
length_swap (suc k) (x ∷ p) l = ap suc (length_swap k p (omega arith))

-- What no swap of two axes changes, no swaps change.
pub swaps_keep : {A : Type 0} (f : List ℕ → A) → ((k : ℕ) (p : List ℕ) → k + 2 ≤ length p → f (swap_at k p) ≡ f p)
    → (ks p : List ℕ) → Swaps (length p) ks → f (swapped ks p) ≡ f p
unfolding swapped Swaps
swaps_keep f h [] p s = refl
swaps_keep f h (k ∷ ks) p s =
    swaps_keep f h ks (swap_at k p) (rw (length_swap k p s.0) s.1) ∙ h k p s.0

pub length_swaps : (ks p : List ℕ) → Swaps (length p) ks → length (swapped ks p) ≡ length p
length_swaps ks p s = swaps_keep length length_swap ks p s

box_swap : (k : ℕ) (r : List ℕ) → k + 2 ≤ length r → box (swap_at k r) ≡ box r
unfolding swap_at first rest box
box_swap k [] l = absurd (let no' : ⊥ = omega arith in no')
box_swap zero (a ∷ []) l = absurd (let no' : ⊥ = omega arith in no')
box_swap zero (a ∷ b ∷ r) l = let e : b * (a * box r) ≡ a * (b * box r) = omega arith in e
box_swap (suc k) (a ∷ r) l = ap (λ n. a * n) (box_swap k r (omega arith))

pub box_swaps : (ks r : List ℕ) → Swaps (length r) ks → box (swapped ks r) ≡ box r
box_swaps ks r s = swaps_keep box box_swap ks r s

dominates_swap : (k : ℕ) (p c : List ℕ) → k + 2 ≤ length c → dominates (swap_at k p) (swap_at k c) ≡ dominates p c
unfolding swap_at first rest dominates
dominates_swap k p [] l = absurd (let no' : ⊥ = omega arith in no')
dominates_swap zero p (i ∷ []) l = absurd (let no' : ⊥ = omega arith in no')
dominates_swap zero p (i ∷ j ∷ c) l =
    rw (dominates_cons p i (j ∷ c), dominates_cons (rest p) j c)
    (both_turn (leb (first (rest p)) j) (leb (first p) i) (dominates (rest (rest p)) c))
dominates_swap (suc k) p (i ∷ c) l =
    rw (dominates_cons p i c)
    (ap (both (leb (first p) i)) (dominates_swap k (rest p) c (omega arith)))

pub dominates_swaps : (ks p c : List ℕ) → Swaps (length c) ks → dominates (swapped ks p) (swapped ks c) ≡ dominates p c
unfolding swapped Swaps
dominates_swaps [] p c s = refl
dominates_swaps (k ∷ ks) p c s =
    dominates_swaps ks (swap_at k p) (swap_at k c) (rw (length_swap k c s.0) s.1) ∙ dominates_swap k p c s.0

cover_swaps : (ks : List ℕ) (trials : List (List ℕ)) (c : List ℕ) → Swaps (length c) ks → cover (map (swapped ks) trials) (swapped ks c) ≡ cover trials c
unfolding cover
cover_swaps ks [] c s = refl
cover_swaps ks (t ∷ trials) c s = rw (dominates_swaps ks t c s, cover_swaps ks trials c s)

-- Sums over cells, which have as many axes as the reference.
cells_alike : (r : List ℕ) (f g : List ℕ → ℕ) → ((c : List ℕ) → length c ≡ length r → f c ≡ g c) → cells r f ≡ cells r g
unfolding cells
cells_alike [] f g h = h [] refl
cells_alike (n ∷ r) f g h = sum_ext n _ _ (λ i l. cells_alike r _ _ (λ c e. h (i ∷ c) (ap suc e)))

cells_swap : (k : ℕ) (r : List ℕ) (f : List ℕ → ℕ) → k + 2 ≤ length r → cells (swap_at k r) f ≡ cells r (λ c. f (swap_at k c))
unfolding cells swap_at first rest
cells_swap k [] f l = absurd (let no' : ⊥ = omega arith in no')
cells_swap zero (a ∷ []) f l = absurd (let no' : ⊥ = omega arith in no')
cells_swap zero (a ∷ b ∷ r) f l = sum_swap b a (λ j i. cells r (λ c. f (j ∷ i ∷ c)))
cells_swap (suc k) (a ∷ r) f l = sum_ext a _ _ (λ i p. cells_swap k r (λ c. f (i ∷ c)) (omega arith))

cells_moved : (ks r : List ℕ) (f : List ℕ → ℕ) → Swaps (length r) ks → cells (swapped ks r) f ≡ cells r (λ c. f (swapped ks c))
unfolding swapped Swaps
cells_moved [] r f s = refl
cells_moved (k ∷ ks) r f s =
    cells_moved ks (swap_at k r) f (rw (length_swap k r s.0) s.1) ∙ cells_swap k r (λ c. f (swapped ks c)) s.0

cells_swaps : (ks r : List ℕ) (f g : List ℕ → ℕ) → Swaps (length r) ks → ((c : List ℕ) → Swaps (length c) ks → g (swapped ks c) ≡ f c) → cells (swapped ks r) g ≡ cells r f
cells_swaps ks r f g s h = cells_moved ks r g s ∙ cells_alike r _ _ (λ c e. h c (rw e s))

pub total_swaps : (ks r : List ℕ) (trials : List (List ℕ)) → Swaps (length r) ks → total (swapped ks r) (map (swapped ks) trials) ≡ total r trials
unfolding total count
total_swaps ks r trials s = cells_swaps ks r _ _ s (λ c l. rw (cover_swaps ks trials c l))

pub contribution_swaps : (ks r : List ℕ) (trials : List (List ℕ)) (t : List ℕ) → Swaps (length r) ks
    → contribution (swapped ks r) (map (swapped ks) trials) (swapped ks t) ≡ contribution r trials t
unfolding contribution count
contribution_swaps ks r trials t s = cells_swaps ks r _ _ s (λ c l. rw (dominates_swaps ks t c l, cover_swaps ks trials c l))

pub joint_swaps : (ks r : List ℕ) (trials : List (List ℕ)) (p t : List ℕ) → Swaps (length r) ks
    → joint (swapped ks r) (map (swapped ks) trials) (swapped ks p) (swapped ks t) ≡ joint r trials p t
unfolding joint count
joint_swaps ks r trials p t s =
    cells_swaps ks r _ _ s (λ c l. rw (dominates_swaps ks p c l, dominates_swaps ks t c l, cover_swaps ks trials c l))

pub gain_swaps : (ks r : List ℕ) (trials : List (List ℕ)) (p : List ℕ) → Swaps (length r) ks
    → gain (swapped ks r) (map (swapped ks) trials) (swapped ks p) ≡ gain r trials p
unfolding gain count
gain_swaps ks r trials p s = cells_swaps ks r _ _ s (λ c l. rw (dominates_swaps ks p c l, cover_swaps ks trials c l))
