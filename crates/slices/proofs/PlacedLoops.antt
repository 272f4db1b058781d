-- The loops over counts at places: one looks for a pair that passes a test, the other moves the values there. What they leave
-- is said of all amounts, those that are 0 among them.
use Prim.Native.Nat.{ℕ, ◌+◌, ◌≤◌, ◌<◌}
use mathlib.Core.Path.{◌≡◌, refl, sym, ap, ap₂, ◌∙◌}
use mathlib.Core.Bool.{Bool, true, false, not}
use mathlib.Core.List.{List}
use native.Mathlib.Decide.{dec_lt}
use native.Mathlib.Numerals.{add-one}
use native.Mathlib.Omega.{arith}
use lib.ListN.{length, take, set, get_or, replicate, length-set}
use lib.Seq.{take-length}
use Rattle.slices.specs.Spread.{spread}
use Rattle.slices.specs.Amounts.{moved, some_pair, Placed, amounts_at}
use Rattle.slices.proofs.Spread.{length_spread_zeros, spread_more, spread_other, spread_before, zeros_at}
use Rattle.slices.proofs.Placed.{amount_at}
use Rattle.slices.proofs.Amounts.{moved_at, moved_set, moved_zeros, some_pair_at, no_pair_at, no_pair_set, no_pair_zeros}

-- The amounts at the first k places.
unfoldable pub first_amounts : ℕ → List ℕ → List ℕ → ℕ → List ℕ
first_amounts n places counts k = amounts_at n (take k places) (take k counts)

module _ {n : ℕ} {places counts : List ℕ} (h : Placed n places counts) where
  first_long : (k : ℕ) → length (first_amounts n places counts k) ≡ n
  unfolding first_amounts
  first_long k = length_spread_zeros n (take k places) (take k counts)

  first_none : first_amounts n places counts 0 ≡ replicate n 0
  unfolding first_amounts spread
  first_none = refl

  first_more : (k : ℕ) → k < length places → first_amounts n places counts (k + 1) ≡ set (first_amounts n places counts k) (get_or places k 0) (get_or counts k 0)
  unfolding first_amounts
  first_more k l =
      ap (λ i. amounts_at n (take i places) (take i counts)) (add-one k) ∙ spread_more (replicate n 0) places counts k h.many l

  first_here : (k : ℕ) → k < length places → get_or (first_amounts n places counts k) (get_or places k 0) 0 ≡ 0
  unfolding first_amounts
  first_here k l = spread_before (replicate n 0) places counts k h.rising l ∙ zeros_at n (get_or places k 0)

  first_all : (k : ℕ) → k ≤ length places → length places ≤ k → first_amounts n places counts k ≡ amounts_at n places counts
  unfolding first_amounts
  first_all k part end =
      ap (λ i. amounts_at n (take i places) (take i counts)) (let e : k ≡ length places = omega arith in e)
      ∙ ap₂ (amounts_at n) (take-length places) (ap (λ i. take i counts) (sym h.many) ∙ take-length counts)

-- No pair at the first k places passes the test.
pub record Judging (test : ℕ → ℕ → Bool) (vs : List ℕ) (n : ℕ) (places counts : List ℕ) (k : ℕ) : Type 0 where
  pub part : k ≤ length places
  pub size : length vs ≡ n
  pub placed : Placed n places counts
  pub none : some_pair test vs (first_amounts n places counts k) ≡ false

pub judging_none : {test : ℕ → ℕ → Bool} {vs : List ℕ} {n : ℕ} {places counts : List ℕ} → length vs ≡ n → Placed n places counts
    → ((i : ℕ) → test (get_or vs i 0) 0 ≡ false) → Judging test vs n places counts 0
judging_none {test} {vs} e h still =
    record {
      part = omega arith;
      size = e;
      placed = h;
      none = ap (some_pair test vs) (first_none h ∙ ap (λ i. replicate i 0) (sym e)) ∙ no_pair_zeros test vs still;
    }

module _ {test : ℕ → ℕ → Bool} {vs : List ℕ} {n : ℕ} {places counts : List ℕ} {k : ℕ} (h : Judging test vs n places counts k) where
  pub judging_found : (v : ℕ) → v ≡ get_or vs (get_or places k 0) 0 → k < length places → test v (get_or counts k 0) ≡ true
      → false ≡ not (some_pair test vs (amounts_at n places counts))
  judging_found v e l t =
      let size : length vs ≡ n = h.size in
      let inside : get_or places k 0 < n = h.placed.inside k l in
      let long : length (amounts_at n places counts) ≡ length vs = length_spread_zeros n places counts ∙ sym size in
      sym
      (ap not
      (some_pair_at test vs (amounts_at n places counts) (get_or places k 0) long (omega arith)
      (ap₂ test (sym e) (amount_at h.placed k l) ∙ t)))

  pub judging_more : (v : ℕ) → v ≡ get_or vs (get_or places k 0) 0 → k < length places → test v (get_or counts k 0) ≡ false
      → Judging test vs n places counts (k + 1)
  judging_more v e l t =
      record {
        part = omega arith;
        size = h.size;
        placed = h.placed;
        none =
            ap (some_pair test vs) (first_more h.placed k l)
            ∙ no_pair_set test vs (first_amounts n places counts k) (get_or places k 0) (get_or counts k 0) h.none (ap (λ x. test x (get_or counts k 0)) (sym e) ∙ t);
      }

  pub judging_end : length places ≤ k → true ≡ not (some_pair test vs (amounts_at n places counts))
  judging_end l = sym (ap not (ap (some_pair test vs) (sym (first_all h.placed k h.part l)) ∙ h.none))

-- The values at the first k places are moved; an amount of 0 moves none.
pub record Placing (op : ℕ → ℕ → ℕ) (vs : List ℕ) (n : ℕ) (places counts : List ℕ) (k : ℕ) (now : List ℕ) : Type 0 where
  pub part : k ≤ length places
  pub size : length vs ≡ n
  pub long : length now ≡ length vs
  pub placed : Placed n places counts
  pub still : (v : ℕ) → op v 0 ≡ v
  pub done : now ≡ moved op vs (first_amounts n places counts k)

pub placing_none : {op : ℕ → ℕ → ℕ} {vs : List ℕ} {n : ℕ} {places counts : List ℕ} → length vs ≡ n → Placed n places counts
    → ((v : ℕ) → op v 0 ≡ v) → Placing op vs n places counts 0 vs
placing_none {op} {vs} e h still =
    record {
      part = omega arith;
      size = e;
      long = refl;
      placed = h;
      still = still;
      done = sym (ap (moved op vs) (first_none h ∙ ap (λ i. replicate i 0) (sym e)) ∙ moved_zeros op vs still);
    }

module _ {op : ℕ → ℕ → ℕ} {vs : List ℕ} {n : ℕ} {places counts : List ℕ} {k : ℕ} {now : List ℕ} (h : Placing op vs n places counts k now) where
  -- the place whose turn it is, inside the values, and the value there, as it was
  pub placing_inside : k < length places → get_or places k 0 < length now
  placing_inside l =
      let size : length vs ≡ n = h.size in
      let long : length now ≡ length vs = h.long in
      let inside : get_or places k 0 < n = h.placed.inside k l in
      omega arith

  pub placing_here : k < length places → get_or now (get_or places k 0) 0 ≡ get_or vs (get_or places k 0) 0
  placing_here l =
      let size : length vs ≡ n = h.size in
      let inside : get_or places k 0 < n = h.placed.inside k l in
      ap (λ m. get_or m (get_or places k 0) 0) h.done
      ∙ moved_at op vs (first_amounts n places counts k) (get_or places k 0) (first_long h.placed k ∙ sym size) (omega arith)
      ∙ ap (op (get_or vs (get_or places k 0) 0)) (first_here h.placed k l)
      ∙ h.still (get_or vs (get_or places k 0) 0)

  pub placing_more : (v : ℕ) → v ≡ get_or now (get_or places k 0) 0 → k < length places
      → Placing op vs n places counts (k + 1) (set now (get_or places k 0) (op v (get_or counts k 0)))
  placing_more v e l =
      record {
        part = omega arith;
        size = h.size;
        long = length-set now (get_or places k 0) (op v (get_or counts k 0)) ∙ h.long;
        placed = h.placed;
        still = h.still;
        done =
            ap₂ (λ m x. set m (get_or places k 0) (op x (get_or counts k 0))) h.done (e ∙ placing_here l)
            ∙ sym
            (ap (moved op vs) (first_more h.placed k l)
            ∙ moved_set op vs (first_amounts n places counts k) (get_or places k 0) (get_or counts k 0));
      }

  pub placing_end : length places ≤ k → now ≡ moved op vs (amounts_at n places counts)
  placing_end l = h.done ∙ ap (moved op vs) (first_all h.placed k h.part l)

-- Where no pair passes the test, none does at a place.
pub no_pair_here : (test : ℕ → ℕ → Bool) (vs : List ℕ) {n : ℕ} {places counts : List ℕ} (k : ℕ) → length vs ≡ n → Placed n places counts
    → some_pair test vs (amounts_at n places counts) ≡ false → k < length places → test (get_or vs (get_or places k 0) 0) (get_or counts k 0) ≡ false
no_pair_here test vs {n} {places} {counts} k size h none l =
    let inside : get_or places k 0 < n = h.inside k l in
    ap (test (get_or vs (get_or places k 0) 0)) (sym (amount_at h k l))
    ∙ no_pair_at test vs (amounts_at n places counts) (get_or places k 0) (length_spread_zeros n places counts ∙ sym size) (omega arith) none

-- The search for a place: it is none of the first k.
pub record Missed (places : List ℕ) (place k : ℕ) : Type 0 where
  pub part : k ≤ length places
  pub apart : (j : ℕ) → j < k → place ≡ get_or places j 0 → ⊥

pub missed_none : {places : List ℕ} {place : ℕ} → Missed places place 0
missed_none = record { part = omega arith; apart = λ j l e. omega arith }

pub missed_more : {places : List ℕ} {place k : ℕ} → Missed places place k → k < length places → (get_or places k 0 ≡ place → ⊥) → Missed places place (k + 1)
missed_more {places} {place} {k} h l other =
    record { part = omega arith; apart = λ j m e. go j (dec_lt j k) m e }
  where
    go : (j : ℕ) → Dec (j < k) → j < k + 1 → place ≡ get_or places j 0 → ⊥
    go j (yes a) m e = h.apart j a e
    go j (no a) m e = other (ap (λ i. get_or places i 0) (let last : k ≡ j = omega arith in last) ∙ sym e)

pub missed_found : {places : List ℕ} {place k n v : ℕ} {counts : List ℕ} → k < length places → get_or places k 0 ≡ place → v ≡ get_or counts k 0 → Placed n places counts → v ≡ get_or (amounts_at n places counts) place 0
missed_found {places} {place} {k} {n} {v} {counts} l here e h = e ∙ sym (amount_at h k l) ∙ ap (λ i. get_or (amounts_at n places counts) i 0) here

pub missed_end : {places : List ℕ} {place k n : ℕ} {counts : List ℕ} → Missed places place k → length places ≤ k → Placed n places counts → ◌≡◌ {A = ℕ} 0 (get_or (amounts_at n places counts) place 0)
missed_end {places} {place} {k} {n} {counts} h end g =
    sym (spread_other (replicate n 0) places counts place (λ j l. h.apart j (omega arith)) ∙ zeros_at n place)
