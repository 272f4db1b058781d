-- Places and counts of which a test tells: what it comes to for all amounts, those that are 0 among them.
use Prim.Native.Nat.{ℕ, zero, suc, ◌≤◌, ◌<◌}
use mathlib.Core.Path.{◌≡◌, refl, sym, ap, ◌∙◌}
use mathlib.Core.Bool.{Bool, true, false, not}
use mathlib.Core.List.{List}
use native.Mathlib.Nat.{le_refl}
use native.Mathlib.Numerals.{add-one}
use native.Mathlib.Omega.{arith}
use lib.ListN.{length, get_or}
use Rattle.slices.specs.Amounts.{some_pair, amounts_at}
use Rattle.slices.proofs.Spread.{length_spread_zeros}
use Rattle.slices.proofs.Placed.{amount_at}
use Rattle.slices.proofs.Amounts.{some_pair_at}
use Rattle.slices.proofs.PlacedLoops.{Judging, judging_more, judging_end}
use Rattle.records.specs.AtPlaces.{AtEach, NonePasses}

module _ {test : ℕ → ℕ → Bool} {vs : List ℕ} {n : ℕ} {places counts : List ℕ} (start : Judging test vs n places counts 0) where
  upto : AtEach (λ p m. test (get_or vs p 0) m ≡ false) places counts → (k : ℕ) → k ≤ length places → Judging test vs n places counts k
  upto none zero l = start
  upto none (suc k) l = rw (add-one k) at (judging_more (upto none k (omega arith)) _ refl (omega arith) (none k (omega arith)))

  pub passing : {says : ℕ → ℕ → Bool → Type 0} {r : Bool} → NonePasses says places counts r
      → ((k : ℕ) → k < length places → (b : Bool) → says (get_or places k 0) (get_or counts k 0) b → test (get_or vs (get_or places k 0) 0) (get_or counts k 0) ≡ b)
      → r ≡ not (some_pair test vs (amounts_at n places counts))
  passing {says} {r} h tested = go r h
    where
      go : (b : Bool) → NonePasses says places counts b → b ≡ not (some_pair test vs (amounts_at n places counts))
      go true h = judging_end (upto (λ k l. tested k l false (h.all_fail refl k l)) (length places) (le_refl (length places))) (le_refl (length places))
      go false h =
          let passed = h.one_passes refl in
          let size : length vs ≡ n = start.size in
          let inside : get_or places passed.0 0 < n = start.placed.inside passed.0 passed.1 in
          sym
          (ap not
          (some_pair_at test vs (amounts_at n places counts) (get_or places passed.0 0) (length_spread_zeros n places counts ∙ sym size) (omega arith)
          (ap (test (get_or vs (get_or places passed.0 0) 0)) (amount_at start.placed passed.0 passed.1) ∙ tested passed.0 passed.1 true passed.2)))
