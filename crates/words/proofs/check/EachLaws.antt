-- The loop over numbers that are judged one by one.
use Prim.Native.Nat.{ℕ, suc, ◌+◌, ◌≤◌, ◌<◌}
use mathlib.Core.Path.{◌≡◌, refl, sym, ap, ◌∙◌}
use mathlib.Core.Bool.{Bool, true}
use mathlib.Core.List.{List}
use native.Mathlib.Numerals.{add-one}
use native.Mathlib.Omega.{arith}
use lib.ListN.{length, drop, get_or, drop_of_length-le}
use lib.Seq.{drop-cons}
use Rattle.slices.specs.Choices.{both}
use Rattle.slices.proofs.Choices.{both_comm, both_assoc}
use Rattle.words.specs.Format.{each}

-- The numbers from place i on decide what is left, once those before are judged.
pub record Judged (test : ℕ → Bool) (l : List ℕ) (all : Bool) (i : ℕ) : Type 0 where
  pub inside : i ≤ length l
  pub left : both all (each test (drop i l)) ≡ each test l

pub judged_none : (test : ℕ → Bool) (l : List ℕ) → Judged test l true 0
unfolding both
judged_none test l = record { inside = omega arith; left = refl }

pub judged_more : (test : ℕ → Bool) (l : List ℕ) (all : Bool) (i : ℕ) (now : Bool) → Judged test l all i → i < length l
    → now ≡ both all (test (get_or l i 0)) → Judged test l now (i + 1)
unfolding each
judged_more test l all i now g inside e =
    record {
      inside = omega arith;
      left =
          rw (add-one i, e)
          (both_assoc all (test (get_or l i 0)) (each test (drop (suc i) l))
          ∙ ap (λ ns. both all (each test ns)) (sym (drop-cons l i 0 inside))
          ∙ g.left);
    }

pub judged_end : (test : ℕ → Bool) (l : List ℕ) (all : Bool) (i : ℕ) → Judged test l all i → length l ≤ i → all ≡ each test l
unfolding each both
judged_end test l all i g past =
    both_comm true all ∙ ap (λ ns. both all (each test ns)) (sym (drop_of_length-le l past)) ∙ g.left
