-- The loops over the axes in `Point`: each goes through n axes in turn. What it has so far is stated for any n. Besides, what
-- is worked out of two coordinates by arithmetic: a test and the edge length.
use Prim.Native.Nat.{ℕ, zero, suc, ◌+◌, ◌-◌, ◌*◌, ◌/◌, ◌%◌, ◌^◌, ◌≤◌, ◌<◌, max}
use mathlib.Core.Path.{◌≡◌, refl, sym, ap, ◌∙◌}
use mathlib.Core.Bool.{Bool, true, false}
use mathlib.Core.List.{List, ◌∷◌, []}
use native.Mathlib.Nat.{mul-one, mul_assoc, mul-le-mul, pow-suc, pow-le-pow_right}
use native.Mathlib.Numerals.{add-one, one-add}
use native.Mathlib.Omega.{arith}
use lib.Dec.{leb, eqb, eqb-suc-suc}
use lib.ListN.{length, get_or, drop, set}
use lib.Seq.{drop-cons, drop-length}
use borrow.Author.Tests.{ne_eqb}
use Rattle.slices.specs.Choices.{both}
use Rattle.hypervolume.specs.Cells.{holds, dominates, join, edges}
use Rattle.hypervolume.specs.Axes.{axes_within}
use Rattle.hypervolume.proofs.Tests.{holds_le_one, Compared, below, above, compared}

-- Two points of n axes, of which the first have been gone through.
pub record Along (n : ℕ) (p q : List ℕ) (axis : ℕ) : Type 0 where
  pub left : length p ≡ n
  pub right : length q ≡ n
  pub within : axis ≤ n

along_more : {n : ℕ} {p q : List ℕ} {axis : ℕ} → Along n p q axis → axis < n → Along n p q (axis + 1)
along_more h l = record { left = h.left; right = h.right; within = omega arith }

-- The upper corner: p with its first k axes raised to those of q.
unfoldable pub raised : ℕ → List ℕ → List ℕ → List ℕ
raised zero p q = p
raised (suc k) [] q = []
raised (suc k) (x ∷ p) [] = x ∷ p
raised (suc k) (x ∷ p) (y ∷ q) = max x y ∷ raised k p q

pub record Joined (n : ℕ) (p q corner : List ℕ) (axis : ℕ) : Type 0 where
  pub along : Along n p q axis
  pub so_far : corner ≡ raised axis p q

pub joined_none : (n : ℕ) (p q : List ℕ) → length p ≡ n → length q ≡ n → Joined n p q p 0
unfolding raised
joined_none n p q e f = record { along = record { left = e; right = f; within = omega arith }; so_far = refl }

raised_more : (k : ℕ) (p q : List ℕ) → k < length p → k < length q → set (raised k p q) k (max (get_or (raised k p q) k 0) (get_or q k 0)) ≡ raised (suc k) p q
unfolding raised
raised_more k [] q l m = absurd (let no' : ⊥ = omega arith in no')
raised_more k (x ∷ p) [] l m = absurd (let no' : ⊥ = omega arith in no')
raised_more zero (x ∷ p) (y ∷ q) l m = refl
raised_more (suc k) (x ∷ p) (y ∷ q) l m = ap (λ t. max x y ∷ t) (raised_more k p q (omega arith) (omega arith))

pub joined_more : {n : ℕ} {p q corner : List ℕ} {axis larger : ℕ} → Joined n p q corner axis → axis < n → larger ≡ max (get_or corner axis 0) (get_or q axis 0) → Joined n p q (set corner axis larger) (axis + 1)
joined_more {n} {p} {q} {corner} {axis} h l e =
    let m : axis < length p = omega arith in
    let o : axis < length q = omega arith in
    record { along = along_more h.along l; so_far = rw (e, h.so_far, add-one axis) (raised_more axis p q m o) }

raised_end : (p q : List ℕ) → length p ≡ length q → raised (length p) p q ≡ join p q
unfolding raised join
raised_end [] [] e = refl
raised_end [] (y ∷ q) e = absurd (let no' : ⊥ = omega arith in no')
raised_end (x ∷ p) [] e = refl
raised_end (x ∷ p) (y ∷ q) e = ap (λ t. max x y ∷ t) (raised_end p q (omega arith))

pub joined_end : {n : ℕ} {p q corner : List ℕ} {axis : ℕ} → Joined n p q corner axis → n ≤ axis → corner ≡ join p q
joined_end {n} {p} {q} {corner} {axis} h l =
    let last : axis ≡ length p = omega arith in
    h.so_far ∙ ap (λ k. raised k p q) last ∙ raised_end p q (omega arith)

-- A test of two coordinates, as a bit.
pub at_most_bit : (x y : ℕ) → x < 4294967296 → y < 4294967296 → (y + 4294967296 - x) / 4294967296 ≡ holds (leb x y)
unfolding holds
at_most_bit x y l m = go (leb x y) (compared x y)
  where
    go : (b : Bool) → Compared x y b → (y + 4294967296 - x) / 4294967296 ≡ holds b
    go true (below n) = omega arith
    go false (above n) = omega arith

-- The edge length of two numbers: the quotient is the bit above, and up to the reference the remainder is the length.
pub edge_length : (r x : ℕ) → r < 4294967296 → x < 4294967296 → (r + 4294967296 - x) / 4294967296 * ((r + 4294967296 - x) % 4294967296) ≡ r - x
unfolding holds
edge_length r x l m = rw (at_most_bit x r m l) (go (leb x r) (compared x r))
  where
    go : (b : Bool) → Compared x r b → holds b * ((r + 4294967296 - x) % 4294967296) ≡ r - x
    go true (below n) = omega arith
    go false (above n) = omega arith

-- Two halves of a word, multiplied, fit a word.
pub halves_fit : {a b : ℕ} → a < 4294967296 → b < 4294967296 → a * b < 2 ^ 64
halves_fit {a} {b} l m =
    let left : a ≤ 4294967295 = omega arith in
    let right : b ≤ 4294967295 = omega arith in
    let most : a * b ≤ 4294967295 * 4294967295 = mul-le-mul left right in
    omega arith

-- How many axes are within: those so far, and those left.
pub record AxesCounted (n : ℕ) (p q : List ℕ) (axes axis : ℕ) : Type 0 where
  pub along : Along n p q axis
  pub so_far : axes + axes_within (drop axis p) (drop axis q) ≡ axes_within p q
  pub most : axes ≤ axis

pub counted_more : {n : ℕ} {p q : List ℕ} {axes axis one : ℕ} → AxesCounted n p q axes axis → axis < n → one ≡ holds (leb (get_or p axis 0) (get_or q axis 0)) → AxesCounted n p q (axes + one) (axis + 1)
unfolding axes_within
counted_more {n} {p} {q} {axes} {axis} {one} h l e =
    let m : axis < length p = omega arith in
    let o : axis < length q = omega arith in
    let left : axes + (one + axes_within (drop (suc axis) p) (drop (suc axis) q)) ≡ axes_within p q =
    rw e (rw (drop-cons p axis 0 m, drop-cons q axis 0 o) at h.so_far) in
    record {
      along = along_more h.along l;
      so_far = rw (add-one axis) (omega arith);
      most = omega (arith, h.most, holds_le_one (leb (get_or p axis 0) (get_or q axis 0)));
    }

pub counted_end : {n : ℕ} {p q : List ℕ} {axes axis : ℕ} → AxesCounted n p q axes axis → n ≤ axis → axes ≡ axes_within p q
unfolding axes_within
counted_end {n} {p} {q} {axes} {axis} h l =
    let last : axis ≡ length p = omega arith in
    let all : axes + 0 ≡ axes_within p q = rw (last, drop-length p) at h.so_far in
    omega arith

-- No point is within on more axes than it has; where it is on all of them, it dominates.
pub axes_most : (p q : List ℕ) → axes_within p q ≤ length p
unfolding axes_within
axes_most [] q = omega arith
axes_most (x ∷ p) [] = omega arith
axes_most (x ∷ p) (y ∷ q) = omega (arith, holds_le_one (leb x y), axes_most p q)

axes_dominate : (p q : List ℕ) → length p ≡ length q → eqb (axes_within p q) (length p) ≡ dominates p q
unfolding axes_within dominates both holds
axes_dominate [] [] e = refl
axes_dominate [] (y ∷ q) e = absurd (let no' : ⊥ = omega arith in no')
axes_dominate (x ∷ p) [] e = absurd (let no' : ⊥ = omega arith in no')
axes_dominate (x ∷ p) (y ∷ q) e = go (leb x y) (axes_dominate p q (omega arith)) (axes_most p q)
  where
    go : (b : Bool) → eqb (axes_within p q) (length p) ≡ dominates p q → axes_within p q ≤ length p → eqb (holds b + axes_within p q) (suc (length p)) ≡ both b (dominates p q)
    go true same m = rw (one-add (axes_within p q), eqb-suc-suc (axes_within p q) (length p)) same
    go false same m = ne_eqb (0 + axes_within p q) (suc (length p)) (λ k. omega arith)

pub axes_all : {n axes : ℕ} (p q : List ℕ) → length p ≡ n → length q ≡ n → axes ≡ axes_within p q → eqb axes n ≡ dominates p q
axes_all {n} {axes} p q e f g = rw (g, ← e) (axes_dominate p q (omega arith))

-- The edge product: the product so far times the edge product on the axes left.
pub record Multiplied (n : ℕ) (r p : List ℕ) (product axis : ℕ) : Type 0 where
  pub along : Along n r p axis
  pub so_far : product * edges (drop axis r) (drop axis p) ≡ edges r p
  pub bound : product ≤ 1048576 ^ axis

pub multiplied_more : {n : ℕ} {r p : List ℕ} {product axis edge : ℕ} → Multiplied n r p product axis → axis < n → edge ≡ get_or r axis 0 - get_or p axis 0 → get_or r axis 0 ≤ 1048576 → Multiplied n r p (product * edge) (axis + 1)
unfolding edges
multiplied_more {n} {r} {p} {product} {axis} {edge} h l e b =
    let m : axis < length r = omega arith in
    let o : axis < length p = omega arith in
    let small : edge ≤ 1048576 = omega arith in
    record {
      along = along_more h.along l;
      so_far =
          rw (mul_assoc product edge (edges (drop (axis + 1) r) (drop (axis + 1) p)), e, add-one axis)
          (rw (drop-cons r axis 0 m, drop-cons p axis 0 o) at h.so_far);
      bound = rw (add-one axis, pow-suc 1048576 axis) (mul-le-mul h.bound small);
    }

-- On three axes the product fits a word.
pub multiplied_fits : {r p : List ℕ} {product axis edge : ℕ} → Multiplied 3 r p product axis → axis < 3 → edge ≡ get_or r axis 0 - get_or p axis 0 → get_or r axis 0 ≤ 1048576 → product * edge < 2 ^ 64
multiplied_fits {r} {p} {product} {axis} {edge} h l e b =
    let small : edge ≤ 1048576 = omega arith in
    let two : axis ≤ 2 = omega arith in
    let base : 0 < 1048576 = omega arith in
    let power : 1048576 ^ axis ≤ 1048576 ^ 2 = pow-le-pow_right base two in
    let most : product * edge ≤ 1048576 ^ axis * 1048576 = mul-le-mul h.bound small in
    omega arith

pub multiplied_end : {n : ℕ} {r p : List ℕ} {product axis : ℕ} → Multiplied n r p product axis → n ≤ axis → product ≡ edges r p
unfolding edges
multiplied_end {n} {r} {p} {product} {axis} h l =
    let last : axis ≡ length r = omega arith in
    sym (mul-one product) ∙ (rw (last, drop-length r) at h.so_far)
