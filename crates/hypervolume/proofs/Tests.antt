-- What a test of a cell comes to as a number, over plain variables: the pointwise half of every law of counts.
use Prim.Native.Nat.{ℕ, ◌≤◌, ◌<◌, max}
use mathlib.Core.Path.{◌≡◌, refl, sym}
use mathlib.Core.Bool.{Bool, true, false, not}
use native.Mathlib.Nat.{le-max_left, le-max_right, max-le}
use native.Mathlib.Omega.{arith}
use lib.Dec.{leb, ltb, eqb}
use borrow.Author.Tests.{leb-true, leb-false, eqb-true, eqb-false, le-leb, lt-leb, le-ltb, lt-ltb}
use Rattle.slices.specs.Choices.{both}
use Rattle.hypervolume.specs.Cells.{holds}

-- A comparison tells one of two things.
pub data Compared (a b : ℕ) : Bool → Type 0 where
  below : a ≤ b → Compared a b true
  above : b < a → Compared a b false

pub compared : (a b : ℕ) → Compared a b (leb a b)
compared a b = go (leb a b) refl
  where
    go : (t : Bool) → leb a b ≡ t → Compared a b t
    go true e = below (leb-true a b e)
    go false e = above (leb-false a b e)

-- Not at most: the other is less.
pub not_leb : (m n : ℕ) → not (leb m n) ≡ ltb n m
not_leb m n = go (leb m n) (compared m n)
  where
    go : (x : Bool) → Compared m n x → not x ≡ ltb n m
    go true (below l) = sym (le-ltb n m l)
    go false (above l) = sym (lt-ltb n m l)

-- The two cases of two numbers.
pub by_order : {P : Type 0} (a b : ℕ) → (a ≤ b → P) → (b < a → P) → P
by_order {P} a b low high = go (leb a b) (compared a b)
  where
    go : (t : Bool) → Compared a b t → P
    go t (below h) = low h
    go t (above h) = high h

-- An equality test tells one of two things.
pub data Equated (a b : ℕ) : Bool → Type 0 where
  same : a ≡ b → Equated a b true
  differs : (a ≡ b → ⊥) → Equated a b false

pub equated : (a b : ℕ) → Equated a b (eqb a b)
equated a b = go (eqb a b) refl
  where
    go : (t : Bool) → eqb a b ≡ t → Equated a b t
    go true e = same (eqb-true a b e)
    go false e = differs (eqb-false a b e)

pub holds_le_one : (t : Bool) → holds t ≤ 1
unfolding holds
holds_le_one true = omega arith
holds_le_one false = omega arith

pub holds_small : (t : Bool) {n : ℕ} → n ≡ holds t → n ≤ 1
holds_small t e = omega (arith, holds_le_one t)

-- a test that implies another counts at most as often
pub holds_implied : (s t : Bool) → (s ≡ true → t ≡ true) → holds s ≤ holds t
unfolding holds
holds_implied true t h = rw (h refl) (omega arith)
holds_implied false t h = omega arith

pub both_le_right : (s t : Bool) → holds (both s t) ≤ holds t
unfolding both holds
both_le_right true t = omega arith
both_le_right false true = omega arith
both_le_right false false = omega arith

-- Two bounds on a coordinate are a bound by the larger.
pub leb_max : (x y i : ℕ) → leb (max x y) i ≡ both (leb x i) (leb y i)
unfolding both
leb_max x y i = go (leb x i) (leb y i) (compared x i) (compared y i)
  where
    go : (s t : Bool) → Compared x i s → Compared y i t → leb (max x y) i ≡ both s t
    go true true (below p) (below q) = le-leb (max x y) i (max-le p q)
    go true false (below p) (above q) = lt-leb (max x y) i (omega (arith, le-max_right x y))
    go false true (above p) (below q) = lt-leb (max x y) i (omega (arith, le-max_left x y))
    go false false (above p) (above q) = lt-leb (max x y) i (omega (arith, le-max_left x y))
