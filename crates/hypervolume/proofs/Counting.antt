-- The laws of the counts (1 to 6 and 8 of the design), for any number of axes. Each is a pointwise fact about
-- a cell, by cases on what dominates it, pushed through the sum over the cells.
use Prim.Native.Nat.{ℕ, zero, suc, ◌+◌, ◌-◌, ◌*◌, ◌≤◌, ◌<◌}
use mathlib.Core.Path.{◌≡◌, refl, sym, ap, ◌∙◌, fun_ext}
use mathlib.Core.Bool.{Bool, true, false}
use mathlib.Core.List.{List, ◌∷◌, ◌++◌, map, []}
use native.Mathlib.Nat.{zero-add, add-zero, sub-zero}
use native.Mathlib.Numerals.{one-add}
use native.Mathlib.Omega.{arith}
use lib.Dec.{leb, eqb, eqb-suc-suc}
use borrow.Author.Tests.{le-leb, lt-leb, ne_eqb}
use Rattle.slices.specs.Choices.{both}
use Rattle.hypervolume.specs.Cells.{holds, dominates, join, cells, count, box, edges}
use Rattle.hypervolume.specs.Counts.{cover, total, contribution, joint, gain}
use Rattle.hypervolume.proofs.Sums.{sum_cut, cells_ext, cells_add, cells_le, cells_none}
use Rattle.hypervolume.proofs.Tests.{holds_le_one}
use Rattle.hypervolume.proofs.Dominance.{dominates_join, within, cover_append, cover_joins, Among, first, rest, at_most, at_most_dominates}
use Rattle.slices.proofs.Choices.{both_intro}

-- Counts respect equality, sums and order.
pub count_ext : (r : List ℕ) (p q : List ℕ → Bool) → ((c : List ℕ) → p c ≡ q c) → count r p ≡ count r q
count_ext r p q h = ap (count r) (fun_ext h)

pub count_split : (r : List ℕ) (p q s : List ℕ → Bool) → ((c : List ℕ) → holds (p c) ≡ holds (q c) + holds (s c)) → count r p ≡ count r q + count r s
unfolding count
count_split r p q s h = cells_ext r (λ c. holds (p c)) (λ c. holds (q c) + holds (s c)) h ∙ cells_add r (λ c. holds (q c)) (λ c. holds (s c))

pub count_le : (r : List ℕ) (p q : List ℕ → Bool) → ((c : List ℕ) → holds (p c) ≤ holds (q c)) → count r p ≤ count r q
unfolding count
count_le r p q h = cells_le r (λ c. holds (p c)) (λ c. holds (q c)) h

pub count_none : (r : List ℕ) (p : List ℕ → Bool) → ((c : List ℕ) → p c ≡ false) → count r p ≡ 0
unfolding count holds
count_none r p h = count_ext r p (λ c. false) h ∙ cells_none r

-- Law 1. One more trial adds its gain to the total.
gained : (d : Bool) (k : ℕ) → holds (leb 1 (holds d + k)) ≡ holds (leb 1 k) + holds (both d (eqb k 0))
unfolding holds both
gained d zero = go d
  where
    go : (d : Bool) → holds (leb 1 (holds d + 0)) ≡ holds (leb 1 0) + holds (both d (eqb 0 0))
    go true = refl
    go false = refl
gained d (suc k) =
    rw (le-leb 1 (holds d + suc k) (omega arith), le-leb 1 (suc k) (omega arith), ne_eqb (suc k) 0 (λ e. omega arith))
    (go d)
  where
    go : (d : Bool) → ◌≡◌ {A = ℕ} 1 (1 + holds (both d false))
    go true = refl
    go false = refl

pub total_more : (r : List ℕ) (trials : List (List ℕ)) (p : List ℕ) → total r (p ∷ trials) ≡ total r trials + gain r trials p
unfolding total gain cover
total_more r trials p =
    count_split r _ _ _ (λ c. gained (dominates p c) (cover trials c))

eqb_more : (k n : ℕ) → eqb (1 + k) (suc n) ≡ eqb k n
eqb_more k n = rw (one-add k) (eqb-suc-suc k n)

-- The new trial's contribution is its gain.
alone : (d : Bool) (k : ℕ) → both d (eqb (holds d + k) 1) ≡ both d (eqb k 0)
unfolding holds both
alone true k = eqb_more k 0
alone false k = refl

pub contribution_new : (r : List ℕ) (trials : List (List ℕ)) (p : List ℕ) → contribution r (p ∷ trials) p ≡ gain r trials p
unfolding contribution gain cover
contribution_new r trials p = count_ext r _ _ (λ c. alone (dominates p c) (cover trials c))

-- Law 2. One more trial lowers the contribution of each trial by their joint contribution.
shared : (s t : Bool) (k : ℕ) → holds t ≤ k → holds (both t (eqb k 1)) ≡ holds (both t (eqb (holds s + k) 1)) + holds (both s (both t (eqb (holds s + k) 2)))
unfolding holds both
shared s false k h = go s
  where
    go : (s : Bool) → ◌≡◌ {A = ℕ} 0 (0 + holds (both s false))
    go true = refl
    go false = refl
shared false true k h = rw (zero-add k, add-zero)
shared true true k h =
    rw (eqb_more k 0, eqb_more k 1, ne_eqb k 0 (λ e. omega arith), zero-add)

pub contribution_more : (r : List ℕ) (trials : List (List ℕ)) (p t : List ℕ) → Among trials t → contribution r trials t ≡ contribution r (p ∷ trials) t + joint r (p ∷ trials) p t
unfolding contribution joint cover Among
contribution_more r trials p t a =
    count_split r _ _ _ (λ c. shared (dominates p c) (dominates t c) (cover trials c) (a c))

-- Laws 3 and 4. Within the box of u the trials are their corners with u: the joint contributions with u are
-- the corners' contributions, and what the corners do not dominate is the gain of u.
cornered : (s t : Bool) (k : ℕ) → both s (both t (eqb (holds s + k) 2)) ≡ both (both s t) (eqb (within s k) 1)
unfolding holds both within
cornered true true k = eqb_more k 1
cornered true false k = refl
cornered false t k = refl

pub joint_corner : (r : List ℕ) (trials : List (List ℕ)) (u t : List ℕ) → joint r (u ∷ trials) u t ≡ contribution r (map (join u) trials) (join u t)
unfolding joint contribution cover
joint_corner r trials u t =
    count_ext r _ _ (λ c. rw (dominates_join u t c, cover_joins u trials c) (cornered (dominates u c) (dominates t c) (cover trials c)))

boxed : (s : Bool) (k : ℕ) → holds s ≡ holds (leb 1 (within s k)) + holds (both s (eqb k 0))
unfolding holds both within
boxed true zero = refl
boxed true (suc k) = rw (le-leb 1 (suc k) (omega arith), ne_eqb (suc k) 0 (λ e. omega arith))
boxed false k = refl

pub gain_corners : (r : List ℕ) (trials : List (List ℕ)) (u : List ℕ) → count r (dominates u) ≡ total r (map (join u) trials) + gain r trials u
unfolding total gain
gain_corners r trials u =
    count_split r _ _ _ (λ c. rw (cover_joins u trials c) (boxed (dominates u c) (cover trials c)))

-- Law 5. Counts see the trials only through how many of them dominate each cell.
unfoldable pub SameCover : List (List ℕ) → List (List ℕ) → Type 0
SameCover s t = (c : List ℕ) → cover s c ≡ cover t c

pub total_same : (r : List ℕ) (s t : List (List ℕ)) → SameCover s t → total r s ≡ total r t
unfolding total SameCover
total_same r s t h = count_ext r _ _ (λ c. ap (leb 1) (h c))

pub contribution_same : (r : List ℕ) (s t : List (List ℕ)) (p : List ℕ) → SameCover s t → contribution r s p ≡ contribution r t p
unfolding contribution SameCover
contribution_same r s t p h = count_ext r _ _ (λ c. ap (λ k. both (dominates p c) (eqb k 1)) (h c))

pub joint_same : (r : List ℕ) (s t : List (List ℕ)) (p q : List ℕ) → SameCover s t → joint r s p q ≡ joint r t p q
unfolding joint SameCover
joint_same r s t p q h =
    count_ext r _ _ (λ c. ap (λ k. both (dominates p c) (both (dominates q c) (eqb k 2))) (h c))

pub gain_same : (r : List ℕ) (s t : List (List ℕ)) (p : List ℕ) → SameCover s t → gain r s p ≡ gain r t p
unfolding gain SameCover
gain_same r s t p h = count_ext r _ _ (λ c. ap (λ k. both (dominates p c) (eqb k 0)) (h c))

-- Law 6. A point that two of the trials are at most equal to changes no total and no contribution of another
-- trial, and contributes 0.
unfoldable pub Twice : List (List ℕ) → List ℕ → Type 0
Twice trials s = (c : List ℕ) → dominates s c ≡ true → 2 ≤ cover trials c

twice_total : (d : Bool) (k : ℕ) → (d ≡ true → 2 ≤ k) → leb 1 (holds d + k) ≡ leb 1 k
unfolding holds
twice_total true k h =
    let two : 2 ≤ k = h refl in
    rw (le-leb 1 (1 + k) (omega arith), le-leb 1 k (omega arith))
twice_total false k h = ap (leb 1) (zero-add k)

pub total_twice : (r : List ℕ) (trials : List (List ℕ)) (s : List ℕ) → Twice trials s → total r (s ∷ trials) ≡ total r trials
unfolding total cover Twice
total_twice r trials s h = count_ext r _ _ (λ c. twice_total (dominates s c) (cover trials c) (h c))

twice_one : (d : Bool) (k n : ℕ) → n < 2 → (d ≡ true → 2 ≤ k) → eqb (holds d + k) n ≡ eqb k n
unfolding holds
twice_one true k n l h =
    let two : 2 ≤ k = h refl in
    rw (ne_eqb (1 + k) n (λ e. omega arith), ne_eqb k n (λ e. omega arith))
twice_one false k n l h = ap (λ m. eqb m n) (zero-add k)

pub contribution_twice : (r : List ℕ) (trials : List (List ℕ)) (s t : List ℕ) → Twice trials s → contribution r (s ∷ trials) t ≡ contribution r trials t
unfolding contribution cover Twice
contribution_twice r trials s t h =
    count_ext r _ _ (λ c. ap (both (dominates t c)) (twice_one (dominates s c) (cover trials c) 1 (omega arith) (h c)))

pub twice_not : (n : ℕ) → n < 2 → (d : Bool) (k : ℕ) → (d ≡ true → 2 ≤ k) → both d (eqb k n) ≡ false
unfolding both
twice_not n l true k h = let two : 2 ≤ k = h refl in ne_eqb k n (λ e. omega arith)
twice_not n l false k h = refl

pub gain_twice : (r : List ℕ) (trials : List (List ℕ)) (s : List ℕ) → Twice trials s → gain r trials s ≡ 0
unfolding gain Twice
gain_twice r trials s h = count_none r _ (λ c. twice_not 0 (omega arith) (dominates s c) (cover trials c) (h c))

-- Law 8. What a point dominates is its edge product; every count is at most the box.
pub layered : (r z : ℕ) (rs : List ℕ) (f g : List ℕ → ℕ) → ((i : ℕ) (c : List ℕ) → i < z → f (i ∷ c) ≡ 0) → ((i : ℕ) (c : List ℕ) → z ≤ i → f (i ∷ c) ≡ g c) → cells (r ∷ rs) f ≡ (r - z) * cells rs g
unfolding cells
layered r z rs f g low high =
    sum_cut r z (cells rs g) (λ i. cells rs (λ c. f (i ∷ c)))
    (λ i l. cells_ext rs (λ c. f (i ∷ c)) (λ c. 0) (λ c. low i c l) ∙ cells_none rs)
    (λ i l. cells_ext rs (λ c. f (i ∷ c)) g (λ c. high i c l))

pub edges_count : (r p : List ℕ) → count r (dominates p) ≡ edges r p
unfolding count edges cells dominates holds both
edges_count [] [] = refl
edges_count [] (x ∷ p) = refl
edges_count (r ∷ rs) [] =
    layered r 0 rs (λ c. 1) (λ c. 1) (λ i c l. omega arith) (λ i c l. refl)
    ∙ rw (edges_count rs [], sub-zero r)
edges_count (r ∷ rs) (x ∷ p) =
    layered r x rs (λ c. holds (dominates (x ∷ p) c)) (λ c. holds (dominates p c)) low high
    ∙ rw (edges_count rs p)
  where
    low : (i : ℕ) (c : List ℕ) → i < x → holds (dominates (x ∷ p) (i ∷ c)) ≡ 0
    low i c l = rw (lt-leb x i l)

    high : (i : ℕ) (c : List ℕ) → x ≤ i → holds (dominates (x ∷ p) (i ∷ c)) ≡ holds (dominates p c)
    high i c l = rw (le-leb x i l)

pub box_edges : (r : List ℕ) → edges r [] ≡ box r
unfolding edges box
box_edges [] = refl
box_edges (r ∷ rs) = ap (λ k. r * k) (box_edges rs)

-- gain of u over the trials, from its edge product and the total of the corners
pub gain_edges : (r : List ℕ) (trials : List (List ℕ)) (u : List ℕ) → edges r u ≡ total r (map (join u) trials) + gain r trials u
gain_edges r trials u = sym (edges_count r u) ∙ gain_corners r trials u

pub count_le_box : (r : List ℕ) (p : List ℕ → Bool) → count r p ≤ box r
unfolding dominates holds
count_le_box r p =
    let all : count r p ≤ count r (dominates []) = count_le r p (dominates []) (λ c. holds_le_one (p c)) in
    let whole : count r (dominates []) ≡ box r = edges_count r [] ∙ box_edges r in
    omega arith

pub total_le_box : (r : List ℕ) (trials : List (List ℕ)) → total r trials ≤ box r
unfolding total
total_le_box r trials = count_le_box r _

pub contribution_le_box : (r : List ℕ) (trials : List (List ℕ)) (t : List ℕ) → contribution r trials t ≤ box r
unfolding contribution
contribution_le_box r trials t = count_le_box r _

pub joint_le_box : (r : List ℕ) (trials : List (List ℕ)) (s t : List ℕ) → joint r trials s t ≤ box r
unfolding joint
joint_le_box r trials s t = count_le_box r _

pub gain_le_box : (r : List ℕ) (trials : List (List ℕ)) (p : List ℕ) → gain r trials p ≤ box r
unfolding gain
gain_le_box r trials p = count_le_box r _

-- gain over no trial: all that the point dominates
pub gain_first : (r p : List ℕ) → gain r [] p ≡ edges r p
unfolding gain cover both
gain_first r p = count_ext r _ (dominates p) (λ c. keep (dominates p c)) ∙ edges_count r p
  where
    keep : (d : Bool) → both d (eqb 0 0) ≡ d
    keep true = refl
    keep false = refl

pub total_none : (r : List ℕ) → total r [] ≡ 0
unfolding total cover
total_none r = count_none r _ (λ c. refl)

-- two of the trials at most s: Twice, the hypothesis of law 6
pub twice_of : (front back more : List (List ℕ)) (p q s : List ℕ) → at_most p s ≡ true → at_most q s ≡ true → Twice (front ++ (p ∷ (back ++ (q ∷ more)))) s
unfolding Twice cover holds
twice_of front back more p q s hp hq c d =
    let p-too : dominates p c ≡ true = at_most_dominates p s c hp d in
    let q-too : dominates q c ≡ true = at_most_dominates q s c hq d in
    let outer : cover (front ++ (p ∷ (back ++ (q ∷ more)))) c ≡ cover front c + (holds (dominates p c) + cover (back ++ (q ∷ more)) c) =
    cover_append front (p ∷ (back ++ (q ∷ more))) c in
    let inner : cover (back ++ (q ∷ more)) c ≡ cover back c + (holds (dominates q c) + cover more c) =
    cover_append back (q ∷ more) c in
    let one : holds (dominates p c) ≡ 1 = ap holds p-too in
    let two : holds (dominates q c) ≡ 1 = ap holds q-too in
    omega arith

-- "Of two equal trials each contributes 0."
at_most_self : (t : List ℕ) → at_most t t ≡ true
unfolding at_most first rest
at_most_self [] = refl
at_most_self (x ∷ t) = both_intro (leb x x) (at_most t t) (le-leb x x (omega arith)) (at_most_self t)

pub equal_trials_contribute_0 : (r : List ℕ) (front back more : List (List ℕ)) (t : List ℕ) → contribution r (front ++ (t ∷ (back ++ (t ∷ more)))) t ≡ 0
unfolding contribution Twice
equal_trials_contribute_0 r front back more t =
    let twice : Twice (front ++ (t ∷ (back ++ (t ∷ more)))) t = twice_of front back more t t t (at_most_self t) (at_most_self t) in
    count_none r _ (λ c. twice_not 1 (omega arith) (dominates t c) (cover (front ++ (t ∷ (back ++ (t ∷ more)))) c) (twice c))
