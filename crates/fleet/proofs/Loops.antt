-- The loops that go through archives one behind the other: one that judges each and notes where it begins, and those that test each.
use Prim.Native.Nat.{ℕ, suc, ◌+◌, ◌-◌, ◌*◌, ◌≤◌, ◌<◌}
use mathlib.Core.Path.{◌≡◌, refl, sym, ap, ◌∙◌}
use mathlib.Core.Bool.{Bool, true, false}
use mathlib.Core.List.{List}
use native.Mathlib.Numerals.{add-one}
use native.Mathlib.Omega.{arith}
use lib.ListN.{length, get_or, take, drop, set, length-set, length-drop}
use lib.Seq.{get_or-set_same, get_or-set_other, get_or-drop}
use Rattle.hypervolume.proofs.Tests.{by_order}
use Rattle.slices.specs.Choices.{both}
use Rattle.slices.proofs.Put.{rest_is}
use Rattle.words.specs.Archive.{Archive}
use Rattle.words.specs.Layout.{read, extent, word, behind}
use Rattle.words.specs.Format.{archive_rows}
use Rattle.words.proofs.Passed.{passed, passes_again, still_refused}
use Rattle.fleet.specs.Fleet.{archives, past, fleet_rows, extents, every}
use Rattle.fleet.specs.Starts.{Starts}
use Rattle.fleet.proofs.Fleet.{past_next, extents_next, past_from, passed_at}

-- The part of a slice from a place on, as the code names it.
abbrev pub from : (at : ℕ) (w : List ℕ) → List ℕ
from at w = take (length w - at) (drop at w)

-- An archive that passes from a place on takes its words there.
from_room : (at : ℕ) (w : List ℕ) → archive_rows (from at w) 0 ≡ 0 → at + 8 + 5 * word w (at + 1) ≤ length w
from_room at w e =
    let long : 8 + 5 * word (drop at w) 1 ≤ length (drop at w) = rw (← rest_is at w) (passed (from at w) e).long in
    let size : length (drop at w) ≡ length w - at = length-drop at w in
    let same : word (drop at w) 1 ≡ word w (at + 1) = get_or-drop at w 1 0 in
    omega arith

-- The archive of a turn, in the words from where it begins.
module _ {w starts : List ℕ} (h : Starts w starts) (k : ℕ) (l : k < length starts) where
  pub start_past : from (get_or starts k 0) w ≡ past k w
  start_past = rest_is (get_or starts k 0) w ∙ ap (λ at. drop at w) (h.each k l) ∙ sym (past_from k w)

  pub start_passes : archive_rows (from (get_or starts k 0) w) 0 ≡ 0
  start_passes = rw start_past (passed_at (length starts) k w h.passes l)

  -- what a test finds there
  pub start_finds : (test : Archive → Bool) {found answer : Bool} → found ≡ test (read (from (get_or starts k 0) w)) → found ≡ answer → test (read (past k w)) ≡ answer
  start_finds test e f = sym (e ∙ ap (λ b. test (read b)) start_past) ∙ f

  pub start_room : get_or starts k 0 + 8 ≤ length w
  start_room = omega (arith, from_room (get_or starts k 0) w start_passes)

  pub start_long : 8 ≤ length (from (get_or starts k 0) w)
  start_long = omega (arith, (passed _ start_passes).long)

-- The rows of n archives, of which one has been turned down or has passed.
rows_stop : (n : ℕ) (w : List ℕ) (row : ℕ) → row ≡ archive_rows w 0 → (row ≡ 0 → ⊥) → row ≡ fleet_rows (suc n) w 0
unfolding fleet_rows
rows_stop n w row e off = e ∙ sym (still_refused w (fleet_rows n (behind w) 0) (λ z. off (e ∙ z)))

rows_more : (n : ℕ) (w : List ℕ) → archive_rows w 0 ≡ 0 → fleet_rows (suc n) w 0 ≡ fleet_rows n (behind w) 0
unfolding fleet_rows
rows_more n w e = passes_again w (fleet_rows n (behind w) 0) (passed w e)

past_more : (i : ℕ) (w : List ℕ) → past (i + 1) w ≡ behind (past i w)
past_more i w = ap (λ k. past k w) (add-one i) ∙ past_next i w

-- The first i of n archives have passed, and it is noted where they begin; the next one begins at `at`.
pub record Checking (w : List ℕ) (n at i : ℕ) (starts : List ℕ) : Type 0 where
  pub part : i ≤ n
  pub long : length starts ≡ n
  pub here : at ≡ extents i w
  pub inside : at ≤ length w
  pub left : fleet_rows n w 0 ≡ fleet_rows (n - i) (past i w) 0
  pub noted : (k : ℕ) → k < i → get_or starts k 0 ≡ extents k w

pub checking_none : (w starts : List ℕ) → Checking w (length starts) 0 0 starts
unfolding extents past
checking_none w starts =
    record {
      part = omega arith;
      long = refl;
      here = refl;
      inside = omega arith;
      left = ap (λ k. fleet_rows k w 0) (let all : length starts ≡ length starts - 0 = omega arith in all);
      noted = λ k l. absurd (let no : ⊥ = omega arith in no);
    }

module _ {w starts : List ℕ} {n at i : ℕ} (h : Checking w n at i starts) where
  next : from at w ≡ past i w
  next = rest_is at w ∙ ap (λ k. drop k w) h.here ∙ sym (past_from i w)

  peeled : i < length starts → fleet_rows n w 0 ≡ fleet_rows (suc (n - (i + 1))) (past i w) 0
  peeled l = h.left ∙ ap (λ k. fleet_rows k (past i w) 0) (let e : n - i ≡ suc (n - (i + 1)) = omega (arith, h.long) in e)

  pub checking_stop : {row : ℕ} → i < length starts → row ≡ archive_rows (from at w) 0 → (row ≡ 0 → ⊥) → row ≡ fleet_rows n w 0
  checking_stop {row} l e off =
      rows_stop (n - (i + 1)) (past i w) row (e ∙ ap (λ b. archive_rows b 0) next) off ∙ sym (peeled l)

  module _ (l : i < length starts) (e : archive_rows (from at w) 0 ≡ 0) where
    -- the next one begins inside the slice, or where it ends
    pub checking_room : at + 8 + 5 * word w (at + 1) ≤ length w
    checking_room = from_room at w e

    further : at + 8 + 5 * word w (at + 1) ≡ extents (i + 1) w
    unfolding extent
    further =
        let same : word (past i w) 1 ≡ word w (at + 1) = ap (λ b. word b 1) (sym next ∙ rest_is at w) ∙ get_or-drop at w 1 0 in
        let more : extents (i + 1) w ≡ extents i w + (8 + 5 * word (past i w) 1) = ap (λ k. extents k w) (add-one i) ∙ extents_next i w in
        omega (arith, h.here)

    pub checking_more : Checking w n (at + 8 + 5 * word w (at + 1)) (i + 1) (set starts i at)
    checking_more =
        record {
          part = omega (arith, h.long);
          long = length-set starts i at ∙ h.long;
          here = further;
          inside = checking_room;
          left =
              peeled l ∙ rows_more (n - (i + 1)) (past i w) (ap (λ b. archive_rows b 0) (sym next) ∙ e)
              ∙ ap (λ b. fleet_rows (n - (i + 1)) b 0) (sym (past_more i w));
          noted = λ k m.
              by_order i k
              (λ c. let z : k ≡ i = omega arith in rw z (get_or-set_same starts i at 0 l ∙ h.here))
              (λ c. get_or-set_other starts i k at 0 (λ q. omega arith) ∙ h.noted k c);
        }

  pub none_left : length starts ≤ i → fleet_rows n w 0 ≡ 0
  unfolding fleet_rows
  none_left l = h.left ∙ ap (λ k. fleet_rows k (past i w) 0) (let e : n - i ≡ 0 = omega (arith, h.long) in e)

  pub checking_end : length starts ≤ i → Starts w starts
  checking_end l =
      record {
        passes = ap (λ k. fleet_rows k w 0) h.long ∙ none_left l;
        each = λ k m. h.noted k (omega (arith, h.long));
      }

-- A test of every archive is one of those from turn i on.
pub record Testing (test : Archive → Bool) (whole : Bool) (w : List ℕ) (n i : ℕ) : Type 0 where
  pub left : whole ≡ every test (archives (n - i) (past i w))

pub testing_none : (test : Archive → Bool) (w : List ℕ) (n : ℕ) → Testing test (every test (archives n w)) w n 0
unfolding past
testing_none test w n = record { left = ap (λ k. every test (archives k w)) (let all : n ≡ n - 0 = omega arith in all) }

every_first : (test : Archive → Bool) (n : ℕ) (w : List ℕ) → every test (archives (suc n) w) ≡ both (test (read w)) (every test (archives n (behind w)))
unfolding every archives
every_first test n w = refl

module _ {test : Archive → Bool} {whole : Bool} {w : List ℕ} {n i : ℕ} (h : Testing test whole w n i) where
  first_left : i < n → whole ≡ both (test (read (past i w))) (every test (archives (n - (i + 1)) (past (i + 1) w)))
  first_left l =
      h.left ∙ ap (λ k. every test (archives k (past i w))) (let e : n - i ≡ suc (n - (i + 1)) = omega arith in e)
      ∙ every_first test (n - (i + 1)) (past i w)
      ∙ ap (λ b. both (test (read (past i w))) (every test (archives (n - (i + 1)) b))) (sym (past_more i w))

  pub testing_stop : i < n → test (read (past i w)) ≡ false → false ≡ whole
  unfolding both
  testing_stop l e = sym (first_left l ∙ rw e)

  pub testing_more : i < n → test (read (past i w)) ≡ true → Testing test whole w n (i + 1)
  unfolding both
  testing_more l e = record { left = first_left l ∙ rw e }

  pub testing_end : n ≤ i → true ≡ whole
  unfolding every archives
  testing_end l = sym (h.left ∙ ap (λ k. every test (archives k (past i w))) (let e : n - i ≡ 0 = omega arith in e))
