-- The loops that read a field: what holds at each turn.
use Prim.Native.Nat.{ℕ, suc, ◌+◌, ◌-◌, ◌*◌, ◌^◌, ◌≤◌, ◌<◌}
use mathlib.Core.Path.{◌≡◌, refl, sym, ap, ◌∙◌}
use mathlib.Core.Bool.{true, false}
use mathlib.Core.List.{List, ◌∷◌, []}
use mathlib.Core.Option.{none, some}
use native.Mathlib.Nat.{sub_self, pow-suc, pow-le-pow_right}
use native.Mathlib.Numerals.{add-one}
use native.Mathlib.Omega.{arith}
use lib.Arith.{digits_lt}
use lib.Dec.{lit<}
use lib.ListN.{length, get_or, take, drop}
use lib.Seq.{slice, slice-cons, slice_empty, length-take-le, take-add, drop_at}
use borrow.Author.Tests.{ne_eqb}
use Rattle.slices.specs.Choices.{pick}
use Rattle.text.specs.Fields.{space, is_digit, decimal, number, field, field_from, Part}
use Rattle.text.proofs.Fields.{digit_high, decimal_digit, decimal_stop, field_empty, field_space, field_number}

-- The bytes from i up to the end are the one at i and those from the next on.
slice_next : (s : List ℕ) (i end : ℕ) → i < end → end ≤ length s → slice i end s ≡ get_or s i 0 ∷ slice (i + 1) end s
slice_next s i end l within = rw (add-one i) (slice-cons i end s 0 l within)

-- Reading digits: v is the value of those from `at` up to i.
pub record Valued (s : List ℕ) (at end v i : ℕ) : Type 0 where
  pub from : at ≤ i
  pub upto : i ≤ end
  pub small : v < 10 ^ (i - at)
  pub rest : decimal 0 (slice at end s) ≡ decimal v (slice i end s)

pub valued_none : (s : List ℕ) (at end : ℕ) → Part s at end → Valued s at end 0 at
valued_none s at end p =
    record { from = omega arith; upto = omega arith; small = rw sub_self (omega arith); rest = refl }

module _ {s : List ℕ} {at end v i : ℕ} (p : Part s at end) (c : Valued s at end v i) where
  pub valued_small : v < 100000000
  valued_small =
      let short : i - at ≤ 8 = omega arith in
      let most : 10 ^ (i - at) ≤ 10 ^ 8 = pow-le-pow_right (lit< tt) short in
      omega arith

  pub valued_more : {d : ℕ} → i < end → is_digit (get_or s i 0) ≡ true → d ≡ get_or s i 0 - 48 → Valued s at end (v * 10 + d) (i + 1)
  valued_more {d} l digit value =
      let high : get_or s i 0 ≤ 57 = digit_high (get_or s i 0) digit in
      let one : i + 1 - at ≡ suc (i - at) = omega arith in
      let step : slice i end s ≡ get_or s i 0 ∷ slice (i + 1) end s = slice_next s i end l p.within in
      record {
        from = omega arith;
        upto = omega arith;
        small = rw (one, pow-suc) (digits_lt c.small (omega arith));
        rest = c.rest ∙ ap (decimal v) step ∙ (rw value (decimal_digit v (get_or s i 0) (slice (i + 1) end s) digit));
      }

  pub valued_stop : i < end → is_digit (get_or s i 0) ≡ false → none ≡ decimal 0 (slice at end s)
  valued_stop l d =
      let step : slice i end s ≡ get_or s i 0 ∷ slice (i + 1) end s = slice_next s i end l p.within in
      sym (c.rest ∙ ap (decimal v) step ∙ decimal_stop v (get_or s i 0) (slice (i + 1) end s) d)

  pub valued_end : end ≤ i → some v ≡ decimal 0 (slice at end s)
  unfolding decimal
  valued_end l =
      let here : i ≡ end = omega arith in
      let empty : slice i end s ≡ [] = rw here (slice_empty end s) in
      sym (c.rest ∙ ap (decimal v) empty)

-- A number of one byte, of more that begin with 0, and of more that do not.
module _ {s : List ℕ} {at end : ℕ} (p : Part s at end) where
  two_bytes : (at + 1 ≡ end → ⊥) → slice at end s ≡ get_or s at 0 ∷ (get_or s (at + 1) 0 ∷ slice (at + 1 + 1) end s)
  two_bytes more =
      slice_next s at end p.filled p.within
      ∙ ap (λ rest. get_or s at 0 ∷ rest) (slice_next s (at + 1) end (omega (arith, p.filled)) p.within)

  pub number_one : at + 1 ≡ end → decimal 0 (slice at end s) ≡ number (slice at end s)
  unfolding number
  number_one one =
      let empty : slice (at + 1) end s ≡ [] = rw one (slice_empty end s) in
      rw (slice_next s at end p.filled p.within, empty)

  pub number_zero : (at + 1 ≡ end → ⊥) → get_or s at 0 ≡ 48 → none ≡ number (slice at end s)
  unfolding number pick
  number_zero more zero-first = rw (two_bytes more, zero-first)

  pub number_more : (at + 1 ≡ end → ⊥) → (get_or s at 0 ≡ 48 → ⊥) → decimal 0 (slice at end s) ≡ number (slice at end s)
  unfolding number pick
  number_more more other-first = rw (two_bytes more, ne_eqb (get_or s at 0) 48 other-first)

-- Skipping spaces: all bytes from `at` up to i are spaces.
pub record Skipped (s : List ℕ) (at i : ℕ) : Type 0 where
  pub from : at ≤ i
  pub upto : i ≤ at + 8
  pub rest : field_from at s ≡ field (slice i (at + 8) s)

pub skipped_none : (s : List ℕ) (at : ℕ) → at + 8 ≤ length s → Skipped s at at
unfolding field_from
skipped_none s at within =
    let front : length (take at s) ≡ at = length-take-le at s (omega arith) in
    let eight : slice at (at + 8) s ≡ take 8 (drop at s) = rw (take-add at 8 s) (drop_at (take at s) (take 8 (drop at s)) at front) in
    record { from = omega arith; upto = omega arith; rest = ap field (sym eight) }

module _ {s : List ℕ} {at i : ℕ} (within : at + 8 ≤ length s) (k : Skipped s at i) where
  pub skipped_part : i < at + 8 → Part s i (at + 8)
  skipped_part l = record { filled = l; within = within; short = omega arith }

  pub skipped_more : i < at + 8 → get_or s i 0 ≡ space → Skipped s at (i + 1)
  skipped_more l blank =
      let step : slice i (at + 8) s ≡ space ∷ slice (i + 1) (at + 8) s =
      slice_next s i (at + 8) l within ∙ ap (λ b. b ∷ slice (i + 1) (at + 8) s) blank in
      record { from = omega arith; upto = omega arith; rest = k.rest ∙ ap field step ∙ field_space (slice (i + 1) (at + 8) s) }

  pub skipped_stop : i < at + 8 → (get_or s i 0 ≡ space → ⊥) → number (slice i (at + 8) s) ≡ field_from at s
  skipped_stop l other =
      let step : slice i (at + 8) s ≡ get_or s i 0 ∷ slice (i + 1) (at + 8) s = slice_next s i (at + 8) l within in
      sym (k.rest ∙ rw step (field_number (get_or s i 0) (slice (i + 1) (at + 8) s) other))

  pub skipped_end : at + 8 ≤ i → none ≡ field_from at s
  skipped_end l =
      let here : i ≡ at + 8 = omega arith in
      let empty : slice i (at + 8) s ≡ [] = rw here (slice_empty (at + 8) s) in
      sym (k.rest ∙ ap field empty ∙ field_empty)
