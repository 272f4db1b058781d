-- The loop of zeros: a disjunction of words is zero where each word is.
use Prim.Native.Nat.{ℕ, suc, ◌+◌, ◌-◌, ◌≤◌, ◌<◌}
use mathlib.Core.Path.{◌≡◌, refl, sym, ap, ◌∙◌}
use mathlib.Core.Bool.{Bool, true, false}
use mathlib.Core.List.{List}
use native.Mathlib.Numerals.{add-one}
use native.Mathlib.Omega.{arith}
use lib.Bits.{bit_or, or_zero_l, or_add_and, and_le_l, and_le_r}
use lib.Dec.{eqb}
use lib.ListN.{length, take, drop, get_or, drop_of_length-le}
use lib.Seq.{drop-cons, slice}
use borrow.Author.Tests.{eq-eqb, ne_eqb}
use Rattle.std.proofs.lemmas.List.{drop-take}
use Rattle.slices.specs.Choices.{both}
use Rattle.hypervolume.proofs.Tests.{Equated, same, differs, equated}
use Rattle.slices.proofs.Choices.{both_comm, both_assoc}
use Rattle.words.specs.Format.{each, zeros}

or_zero : (a b : ℕ) → eqb (bit_or a b) 0 ≡ both (eqb a 0) (eqb b 0)
unfolding both
or_zero a b = go (eqb a 0) (eqb b 0) (equated a 0) (equated b 0)
  where
    go : (s t : Bool) → Equated a 0 s → Equated b 0 t → eqb (bit_or a b) 0 ≡ both s t
    go true true (same e) (same f) = eq-eqb (bit_or a b) 0 (rw (e, f) (or_zero_l 0))
    go true false (same e) (differs g) =
        ne_eqb _ _ (λ (z : bit_or a b ≡ 0). g (omega (arith, or_add_and a b, and_le_l a b, and_le_r a b)))
    go false t (differs g) f =
        ne_eqb _ _ (λ (z : bit_or a b ≡ 0). g (omega (arith, or_add_and a b, and_le_l a b, and_le_r a b)))

-- The words from place i on decide what is left, once those before are blended into `any`.
pub record Blended (words : List ℕ) (any i : ℕ) : Type 0 where
  pub inside : i ≤ length words
  pub left : both (eqb any 0) (zeros (drop i words)) ≡ zeros words

pub blended_none : (words : List ℕ) → Blended words 0 0
unfolding both
blended_none words = record { inside = omega arith; left = refl }

pub blended_more : (words : List ℕ) (any i : ℕ) → Blended words any i → i < length words → Blended words (bit_or any (get_or words i 0)) (i + 1)
unfolding zeros each
blended_more words any i g l =
    record {
      inside = omega arith;
      left =
          rw (add-one i, or_zero any (get_or words i 0))
          (both_assoc (eqb any 0) (eqb (get_or words i 0) 0) (zeros (drop (suc i) words))
          ∙ ap (λ ws. both (eqb any 0) (zeros ws)) (sym (drop-cons words i 0 l))
          ∙ g.left);
    }

pub blended_end : (words : List ℕ) (any i : ℕ) → Blended words any i → length words ≤ i → eqb any 0 ≡ zeros words
unfolding zeros each both
blended_end words any i g l =
    both_comm true (eqb any 0) ∙ ap (λ ws. both (eqb any 0) (zeros ws)) (sym (drop_of_length-le words l)) ∙ g.left

-- A part of the words from one place up to another.
pub part_of : (i j : ℕ) (w : List ℕ) → i ≤ j → take (j - i) (drop i w) ≡ slice i j w
part_of i j w l =
    let whole : i + (j - i) ≡ j = omega arith in
    sym (drop-take i (j - i) w) ∙ ap (λ n. drop i (take n w)) whole
