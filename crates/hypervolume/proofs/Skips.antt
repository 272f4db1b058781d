-- Points that a count may leave out: law 6 for several points at once, and a limit on each axis beyond which two other
-- points are at most a corner.
use Prim.Native.Nat.{ℕ, zero, suc, ◌≤◌, ◌<◌}
use mathlib.Core.Path.{◌≡◌, refl, ◌∙◌}
use mathlib.Core.Bool.{Bool, true, false}
use mathlib.Core.List.{List, ◌∷◌, ◌++◌, []}
use native.Mathlib.Nat.{le_trans}
use native.Mathlib.Omega.{arith}
use lib.Dec.{leb}
use lib.ListN.{length, get_or, set, length-set}
use borrow.Author.Tests.{leb-true, leb-false, le-leb}
use Rattle.slices.specs.Choices.{both}
use Rattle.hypervolume.specs.Cells.{dominates, join}
use Rattle.hypervolume.specs.Counts.{cover, total, contribution}
use Rattle.slices.proofs.Choices.{both_true, both_intro}
use Rattle.hypervolume.proofs.Dominance.{dominates_join, cover_append}
use Rattle.hypervolume.proofs.Counting.{count_none, Twice, total_twice, contribution_twice, twice_not}

-- Each of the points is one that law 6 leaves out.
unfoldable pub Spare : List (List ℕ) → List (List ℕ) → Type 0
Spare trials skipped = (j : ℕ) → j < length skipped → Twice trials (get_or skipped j [])

spare_rest : (trials : List (List ℕ)) (s : List ℕ) (skipped : List (List ℕ)) → Spare trials (s ∷ skipped) → Spare trials skipped
unfolding Spare
spare_rest trials s skipped h j l = h (suc j) (omega arith)

spare_first : (trials : List (List ℕ)) (s : List ℕ) (skipped : List (List ℕ)) → Spare trials (s ∷ skipped) → Twice (skipped ++ trials) s
unfolding Spare Twice
spare_first trials s skipped h c d =
    let two : 2 ≤ cover trials c = h 0 (omega arith) c d in
    omega (arith, cover_append skipped trials c)

pub total_skips : (r : List ℕ) (trials skipped : List (List ℕ)) → Spare trials skipped → total r (skipped ++ trials) ≡ total r trials
total_skips r trials [] h = refl
total_skips r trials (s ∷ skipped) h =
    total_twice r (skipped ++ trials) s (spare_first trials s skipped h)
    ∙ total_skips r trials skipped (spare_rest trials s skipped h)

pub contribution_skips : (r : List ℕ) (trials skipped : List (List ℕ)) (t : List ℕ) → Spare trials skipped → contribution r (skipped ++ trials) t ≡ contribution r trials t
contribution_skips r trials [] t h = refl
contribution_skips r trials (s ∷ skipped) t h =
    contribution_twice r (skipped ++ trials) s t (spare_first trials s skipped h)
    ∙ contribution_skips r trials skipped t (spare_rest trials s skipped h)

-- A point that is left out contributes nothing.
pub contribution_spare : (r : List ℕ) (trials : List (List ℕ)) (s : List ℕ) → Twice trials s → contribution r trials s ≡ 0
unfolding contribution Twice
contribution_spare r trials s h = count_none r _ (λ c. twice_not 1 (omega arith) (dominates s c) (cover trials c) (h c))

-- Dominance of one point, seen as a cell, carries over to whatever that point dominates.
pub dominates_self : (p : List ℕ) → dominates p p ≡ true
unfolding dominates
dominates_self [] = refl
dominates_self (x ∷ p) = both_intro (leb x x) (dominates p p) (le-leb x x (omega arith)) (dominates_self p)

pub dominates_through : (p s c : List ℕ) → length p ≤ length s → dominates p s ≡ true → dominates s c ≡ true → dominates p c ≡ true
unfolding dominates
dominates_through [] s c l a d = refl
dominates_through (x ∷ p) [] c l a d = absurd (let no : ⊥ = omega arith in no)
dominates_through (x ∷ p) (y ∷ s) [] l a d = refl
dominates_through (x ∷ p) (y ∷ s) (i ∷ c) l a d =
    let a' = both_true (leb x y) (dominates p s) a in
    let d' = both_true (leb y i) (dominates s c) d in
    both_intro (leb x i) (dominates p c) (le-leb x i (le_trans (leb-true x y a'.0) (leb-true y i d'.0)))
    (dominates_through p s c (omega arith) a'.1 d'.1)

-- A point that does not dominate a cell is above it on some axis.
pub record Beyond (p c : List ℕ) : Type 0 where
  pub axis : ℕ
  pub within : axis < length c
  pub above : get_or c axis 0 < get_or p axis 0

pub beyond : (p c : List ℕ) → dominates p c ≡ false → Beyond p c
unfolding dominates both
beyond [] c e = absurd (let z : ◌≡◌ {A = ℕ} 0 1 = cc in omega arith)
beyond (x ∷ p) [] e = absurd (let z : ◌≡◌ {A = ℕ} 0 1 = cc in omega arith)
beyond (x ∷ p) (i ∷ c) e = go (leb x i) refl e (beyond p c)
  where
    go : (t : Bool) → leb x i ≡ t → both t (dominates p c) ≡ false → (dominates p c ≡ false → Beyond p c) → Beyond (x ∷ p) (i ∷ c)
    go true q f later =
        let further = later f in
        record { axis = suc further.axis; within = omega (arith, further.within); above = further.above }
    go false q f later = record { axis = 0; within = omega arith; above = leb-false x i q }

-- u moved along one axis, no further than t is on it, dominates wherever u and t do.
pub moved_dominates : (u t c : List ℕ) (a n : ℕ) → dominates u c ≡ true → dominates t c ≡ true → n ≤ get_or t a 0 → dominates (set u a n) c ≡ true
unfolding dominates
moved_dominates [] t c a n du dt l = refl
moved_dominates (x ∷ u) t [] zero n du dt l = refl
moved_dominates (x ∷ u) t [] (suc a) n du dt l = refl
moved_dominates (x ∷ u) [] (i ∷ c) zero n du dt l =
    both_intro (leb n i) (dominates u c) (le-leb n i (omega arith)) (both_true (leb x i) (dominates u c) du).1
moved_dominates (x ∷ u) (y ∷ t) (i ∷ c) zero n du dt l =
    let low : y ≤ i = leb-true y i (both_true (leb y i) (dominates t c) dt).0 in
    both_intro (leb n i) (dominates u c) (le-leb n i (omega arith)) (both_true (leb x i) (dominates u c) du).1
moved_dominates (x ∷ u) [] (i ∷ c) (suc a) n du dt l =
    let d = both_true (leb x i) (dominates u c) du in
    both_intro (leb x i) (dominates (set u a n) c) d.0 (moved_dominates u [] c a n d.1 refl l)
moved_dominates (x ∷ u) (y ∷ t) (i ∷ c) (suc a) n du dt l =
    let d = both_true (leb x i) (dominates u c) du in
    both_intro (leb x i) (dominates (set u a n) c) d.0
    (moved_dominates u t c a n d.1 (both_true (leb y i) (dominates t c) dt).1 l)

-- The corner of u and q dominates where u does and where a point does that q is at most.
corner_dominates : (u q s c : List ℕ) → length q ≤ length s → dominates u c ≡ true → dominates q s ≡ true → dominates s c ≡ true → dominates (join u q) c ≡ true
corner_dominates u q s c l du dq ds =
    rw (dominates_join u q c) (both_intro (dominates u c) (dominates q c) du (dominates_through q s c l dq ds))

-- Let t be past the limit on the axis a. Then whatever is at most u, moved along a to the limit, has a corner with u
-- that is within the limit and that dominates wherever u and t do.
pub moved_corner : (u limit t q c : List ℕ) (a : ℕ) → length q ≤ length u → dominates u limit ≡ true → get_or limit a 0 ≤ get_or t a 0 → dominates u c ≡ true → dominates t c ≡ true → dominates q (set u a (get_or limit a 0)) ≡ true → (dominates (join u q) limit ≡ true) × (dominates (join u q) c ≡ true)
moved_corner u limit t q c a l du e dc dt dq =
    let n : ℕ = get_or limit a 0 in
    let long : length q ≤ length (set u a n) = omega (arith, length-set u a n) in (
      corner_dominates u q (set u a n) limit long du dq (moved_dominates u limit limit a n du (dominates_self limit) (omega arith)),
      corner_dominates u q (set u a n) c long dc dq (moved_dominates u t c a n dc dt e),
    )
