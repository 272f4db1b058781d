-- The loop of ascends: the numbers passed are equal, so those left decide.
use Prim.Native.Nat.{ℕ, suc, ◌+◌, ◌≤◌, ◌<◌}
use mathlib.Core.Path.{◌≡◌, refl, sym, ◌∙◌}
use mathlib.Core.Bool.{true, false}
use mathlib.Core.List.{List}
use native.Mathlib.Numerals.{add-one}
use native.Mathlib.Omega.{arith}
use lib.Dec.{ltb, eqb}
use lib.ListN.{length, get_or, drop}
use lib.Seq.{drop-cons, drop-length}
use borrow.Author.Tests.{le-ltb, lt-ltb, eq-eqb, ne_eqb}
use Rattle.slices.specs.Choices.{both, either}
use Rattle.words.specs.Archive.{ascends}

pub record Level (n : ℕ) (a b : List ℕ) (i : ℕ) : Type 0 where
  pub left : length a ≡ n
  pub right : length b ≡ n
  pub within : i ≤ n
  pub so_far : ascends a b ≡ ascends (drop i a) (drop i b)

pub level_none : (n : ℕ) (a b : List ℕ) → length a ≡ n → length b ≡ n → Level n a b 0
level_none n a b e f = record { left = e; right = f; within = omega arith; so_far = refl }

module _ {n : ℕ} {a b : List ℕ} {i : ℕ} (h : Level n a b i) where
  step : i < n → ascends a b ≡ either (ltb (get_or a i 0) (get_or b i 0)) (both (eqb (get_or a i 0) (get_or b i 0)) (ascends (drop (suc i) a) (drop (suc i) b)))
  unfolding ascends
  step l =
      let m : i < length a = omega arith in
      let o : i < length b = omega arith in
      h.so_far ∙ rw (drop-cons a i 0 m, drop-cons b i 0 o)

  pub level_less : i < n → get_or a i 0 < get_or b i 0 → true ≡ ascends a b
  unfolding either
  level_less l m = sym (step l ∙ rw (lt-ltb (get_or a i 0) (get_or b i 0) m))

  pub level_more : i < n → get_or b i 0 < get_or a i 0 → false ≡ ascends a b
  unfolding either both
  level_more l m =
      sym (step l ∙ rw (le-ltb (get_or a i 0) (get_or b i 0) (omega arith), ne_eqb (get_or a i 0) (get_or b i 0) (λ e. omega arith)))

  pub level_same : i < n → get_or b i 0 ≤ get_or a i 0 → get_or a i 0 ≤ get_or b i 0 → Level n a b (i + 1)
  unfolding either both
  level_same l m o =
      record {
        left = h.left;
        right = h.right;
        within = omega arith;
        so_far = step l ∙ rw (le-ltb (get_or a i 0) (get_or b i 0) m, eq-eqb (get_or a i 0) (get_or b i 0) (omega arith), add-one i);
      }

  pub level_end : n ≤ i → false ≡ ascends a b
  unfolding ascends
  level_end l =
      let last : i ≡ length a = omega arith in
      sym (h.so_far ∙ rw (last, drop-length a))
