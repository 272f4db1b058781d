-- The loop over values and amounts that looks for a pair that passes a test.
use Prim.Native.Nat.{ℕ, ◌+◌, ◌≤◌, ◌<◌}
use mathlib.Core.Path.{◌≡◌, refl, sym, ap, ◌∙◌}
use mathlib.Core.Bool.{Bool, true, false, not}
use mathlib.Core.List.{List}
use native.Mathlib.Numerals.{add-one}
use native.Mathlib.Omega.{arith}
use lib.Dec.{eqb}
use borrow.Author.Tests.{eq-eqb, ne_eqb}
use lib.ListN.{length, drop, get_or, drop_of_length-le}
use lib.Seq.{drop-cons}
use Rattle.slices.specs.Choices.{either}
use Rattle.slices.specs.Amounts.{some_pair}

-- The i pairs passed do not pass the test, so what is left decides.
pub record Seeking (test : ℕ → ℕ → Bool) (vs ms : List ℕ) (i : ℕ) : Type 0 where
  pub part : i ≤ length vs
  pub pairs : length ms ≡ length vs
  pub left : some_pair test vs ms ≡ some_pair test (drop i vs) (drop i ms)

pub seeking_none : {test : ℕ → ℕ → Bool} {vs ms : List ℕ} → length ms ≡ length vs → Seeking test vs ms 0
seeking_none e = record { part = omega arith; pairs = e; left = refl }

some_pair_next : (test : ℕ → ℕ → Bool) (vs ms : List ℕ) (i : ℕ) → i < length vs → length ms ≡ length vs → some_pair test (drop i vs) (drop i ms) ≡ either (test (get_or vs i 0) (get_or ms i 0)) (some_pair test (drop (i + 1) vs) (drop (i + 1) ms))
unfolding some_pair
some_pair_next test vs ms i l e =
    rw (drop-cons vs i 0 l, drop-cons ms i 0 (let m : i < length ms = omega arith in m), add-one i)

module _ {test : ℕ → ℕ → Bool} {vs ms : List ℕ} {i : ℕ} (h : Seeking test vs ms i) where
  pub seeking_found : i < length vs → test (get_or vs i 0) (get_or ms i 0) ≡ true → true ≡ some_pair test vs ms
  unfolding either
  seeking_found l t = sym (h.left ∙ some_pair_next test vs ms i l h.pairs ∙ rw t)

  pub seeking_more : i < length vs → test (get_or vs i 0) (get_or ms i 0) ≡ false → Seeking test vs ms (i + 1)
  unfolding either
  seeking_more l t =
      record {
        part = omega arith;
        pairs = h.pairs;
        left = h.left ∙ some_pair_next test vs ms i l h.pairs ∙ rw t;
      }

  pub seeking_end : length vs ≤ i → false ≡ some_pair test vs ms
  unfolding some_pair
  seeking_end l = sym (h.left ∙ rw (drop_of_length-le vs l))

-- The same for pairs that differ, where the value was read elsewhere.
module _ {vs ms : List ℕ} {i : ℕ} (h : Seeking (λ v m. not (eqb v m)) vs ms i) (l : i < length ms) {v : ℕ} (e : v ≡ get_or vs i 0) where
  pub differing_found : (v ≡ get_or ms i 0 → ⊥) → true ≡ some_pair (λ v m. not (eqb v m)) vs ms
  differing_found other = seeking_found h (omega (arith, h.pairs)) (rw (← e) (ap not (ne_eqb v (get_or ms i 0) other)))

  pub differing_more : v ≡ get_or ms i 0 → Seeking (λ v m. not (eqb v m)) vs ms (i + 1)
  differing_more same = seeking_more h (omega (arith, h.pairs)) (rw (← e) (ap not (eq-eqb v (get_or ms i 0) same)))
