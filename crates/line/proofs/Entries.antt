-- What `thin` and `enter` share: lines that count alike, a point that another covers, entries of indices below a bound, and parts
-- of the line.
use Prim.Native.Nat.{ℕ, zero, suc, ◌≤◌, ◌<◌, min}
use mathlib.Core.Path.{◌≡◌, ap, ◌∙◌}
use mathlib.Core.Bool.{true}
use mathlib.Core.List.{List, ◌∷◌, ◌++◌, []}
use native.Mathlib.Omega.{arith}
use lib.ListN.{take, drop, get_or, take-append-drop}
use lib.Seq.{take-take}
use borrow.Author.Tests.{le-leb}
use Rattle.slices.specs.Choices.{both}
use Rattle.hypervolume.specs.Cells.{dominates}
use Rattle.hypervolume.proofs.Dominance.{first, rest, at_most, at_most_dominates}
use Rattle.line.specs.Line.{index_of, over, over_by, AlikeAt}
use Rattle.line.specs.Entries.{Below}

-- Lines that count alike at a cell.
pub alike_then : {a b c : List ℕ} {i j : ℕ} → AlikeAt a b i j → AlikeAt b c i j → AlikeAt a c i j
alike_then {a} {b} {c} {i} {j} h g =
    record {
      many = g.many ∙ h.many;
      whose = λ t l. g.whose t (omega (arith, h.many)) ∙ h.whose t l;
    }

pub alike_same : {a b : List ℕ} {i j : ℕ} → over b (i ∷ j ∷ []) ≡ over a (i ∷ j ∷ []) → ((t : ℕ) → over_by t b (i ∷ j ∷ []) ≡ over_by t a (i ∷ j ∷ [])) → AlikeAt a b i j
alike_same e f = record { many = ap (λ k. min k 2) e; whose = λ t l. f t }

-- A point that is at most another on both axes dominates what that one dominates.
pub covers_further : (x y u v : ℕ) (c : List ℕ) → x ≤ u → y ≤ v → dominates (u ∷ v ∷ []) c ≡ true → dominates (x ∷ y ∷ []) c ≡ true
unfolding at_most both first rest
covers_further x y u v c l m d =
    at_most_dominates (x ∷ y ∷ []) (u ∷ v ∷ []) c (rw (le-leb x u l, le-leb y v m)) d

-- Entries of indices below a bound.
pub below_append : (n : ℕ) (s t : List ℕ) → Below n (s ++ t) → Below n s × Below n t
unfolding Below
below_append n [] t h = (tt, h)
below_append n (w ∷ s) t h = let later = below_append n s t h.1 in ((h.0, later.0), later.1)

pub below_join : (n : ℕ) (s t : List ℕ) → Below n s → Below n t → Below n (s ++ t)
unfolding Below
below_join n [] t f g = g
below_join n (w ∷ s) t f g = (f.0, below_join n s t f.1 g)

pub below_lift : (m n : ℕ) (line : List ℕ) → m ≤ n → Below m line → Below n line
unfolding Below
below_lift m n [] l b = tt
below_lift m n (w ∷ line) l b = (omega (arith, b.0), below_lift m n line l b.1)

pub below_at : (n : ℕ) (line : List ℕ) → 0 < n → Below n line → (k : ℕ) → index_of (get_or line k 0) < n
unfolding Below
below_at n [] l b k = l
below_at n (w ∷ line) l b zero = b.0
below_at n (w ∷ line) l b (suc k) = below_at n line l b.1 k

-- Parts of the line.
pub take_drop : (at m : ℕ) (l : List ℕ) → at ≤ m → take at l ++ drop at (take m l) ≡ take m l
take_drop at m l p = rw (← (take-take at m l p)) (take-append-drop at (take m l))
