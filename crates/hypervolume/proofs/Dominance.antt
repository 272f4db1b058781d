-- Laws of dominance: axis by axis, at the upper corner, and through an at most equal point; and how many of
-- a list of points dominate a cell.
use Prim.Native.Nat.{ℕ, zero, suc, ◌+◌, ◌≤◌, ◌<◌, zero-le}
use mathlib.Core.Path.{◌≡◌, refl, sym, ◌∙◌}
use mathlib.Core.Bool.{Bool, true, false}
use mathlib.Core.List.{List, ◌∷◌, ◌++◌, map, Memᴰ, []}
use native.Mathlib.Nat.{zero-add, add_assoc, le_trans}
use native.Mathlib.Omega.{arith}
use lib.Dec.{leb}
use lib.ListN.{length, get_or}
use borrow.Author.Tests.{leb-true, le-leb}
use Rattle.slices.specs.Choices.{both}
use Rattle.hypervolume.specs.Cells.{holds, dominates, join}
use Rattle.hypervolume.specs.Counts.{cover}
use Rattle.hypervolume.proofs.Tests.{leb_max}
use Rattle.slices.proofs.Choices.{both_comm, both_true, both_intro}

-- The first coordinate, and the coordinates on the other axes; an axis that a point lacks counts as 0.
unfoldable pub first : List ℕ → ℕ
first [] = 0
first (x ∷ p) = x

unfoldable pub rest : List ℕ → List ℕ
rest [] = []
rest (x ∷ p) = p

pub dominates_cons : (p : List ℕ) (i : ℕ) (c : List ℕ) → dominates p (i ∷ c) ≡ both (leb (first p) i) (dominates (rest p) c)
unfolding dominates first rest both
dominates_cons [] i c = rw (le-leb 0 i zero-le)
dominates_cons (x ∷ p) i c = refl

both_swap : (a b c d : Bool) → both (both a b) (both c d) ≡ both (both a c) (both b d)
unfolding both
both_swap true true c d = refl
both_swap true false true d = refl
both_swap true false false d = refl
both_swap false b c d = refl

-- "Both dominate a cell exactly when that corner does."
pub dominates_join : (p q c : List ℕ) → dominates (join p q) c ≡ both (dominates p c) (dominates q c)
unfolding dominates join both
dominates_join [] q c = refl
dominates_join (x ∷ p) [] [] = refl
dominates_join (x ∷ p) [] (i ∷ c) = both_comm true (both (leb x i) (dominates p c))
dominates_join (x ∷ p) (y ∷ q) [] = refl
dominates_join (x ∷ p) (y ∷ q) (i ∷ c) =
    rw (leb_max x y i, dominates_join p q c)
    (both_swap (leb x i) (leb y i) (dominates p c) (dominates q c))

-- p is at most s on every axis.
unfoldable pub at_most : List ℕ → List ℕ → Bool
at_most [] s = true
at_most (x ∷ p) s = both (leb x (first s)) (at_most p (rest s))

-- Where s dominates, so does whatever is at most s.
pub at_most_dominates : (p s c : List ℕ) → at_most p s ≡ true → dominates s c ≡ true → dominates p c ≡ true
unfolding at_most dominates
at_most_dominates [] s c a d = refl
at_most_dominates (x ∷ p) s [] a d = refl
at_most_dominates (x ∷ p) s (i ∷ c) a d =
    let a' = both_true (leb x (first s)) (at_most p (rest s)) a in
    let d' = both_true (leb (first s) i) (dominates (rest s) c) (sym (dominates_cons s i c) ∙ d) in
    let here : leb x i ≡ true =
    le-leb x i (le_trans (leb-true x (first s) a'.0) (leb-true (first s) i d'.0)) in
    both_intro (leb x i) (dominates p c) here (at_most_dominates p (rest s) c a'.1 d'.1)

-- How many dominate: lists one behind the other, a list of corners, a member.
pub cover_append : (s t : List (List ℕ)) (c : List ℕ) → cover (s ++ t) c ≡ cover s c + cover t c
unfolding cover
cover_append [] t c = sym (zero-add (cover t c))
cover_append (p ∷ s) t c = rw (cover_append s t c, add_assoc)

-- k where the test holds, else 0
unfoldable pub within : Bool → ℕ → ℕ
within true k = k
within false k = 0

within_both : (s t : Bool) (k : ℕ) → holds (both s t) + within s k ≡ within s (holds t + k)
unfolding within both holds
within_both true t k = refl
within_both false t k = refl

pub cover_joins : (u : List ℕ) (trials : List (List ℕ)) (c : List ℕ) → cover (map (join u) trials) c ≡ within (dominates u c) (cover trials c)
unfolding cover within
cover_joins u [] c = sym (within_none (dominates u c))
  where
    within_none : (t : Bool) → within t 0 ≡ 0
    within_none true = refl
    within_none false = refl
cover_joins u (t ∷ trials) c =
    rw (dominates_join u t c, cover_joins u trials c)
    (within_both (dominates u c) (dominates t c) (cover trials c))

-- t is counted among the trials: wherever it dominates, at least one of them does.
unfoldable pub Among : List (List ℕ) → List ℕ → Type 0
Among trials t = (c : List ℕ) → holds (dominates t c) ≤ cover trials c

pub among_member : {t : List ℕ} {trials : List (List ℕ)} → Memᴰ t trials → Among trials t
unfolding Among cover
among_member (Memᴰ.head {x = x} e) c = rw e (omega arith)
among_member (Memᴰ.tail {xs = xs} m) c =
    let later : holds (dominates _ c) ≤ cover xs c = among_member m c in
    omega arith

pub among_at : (trials : List (List ℕ)) (j : ℕ) → j < length trials → Among trials (get_or trials j [])
unfolding Among cover
among_at [] j l c = absurd (let no : ⊥ = omega arith in no)
among_at (t ∷ trials) zero l c = omega arith
among_at (t ∷ trials) (suc j) l c =
    let later : holds (dominates (get_or trials j []) c) ≤ cover trials c = among_at trials j (omega arith) c in
    omega arith
