-- The figures are the numbers at three places in ascending order; what they say of the archives.
use Prim.Native.Nat.{ℕ, zero, suc, ◌+◌, ◌-◌, ◌*◌, ◌/◌, ◌^◌, ◌≤◌, ◌<◌, zero-le}
use mathlib.Core.Path.{◌≡◌, refl, sym, ap, ap₂, ◌∙◌}
use mathlib.Core.Bool.{Bool, true, false}
use mathlib.Core.List.{List, ◌∷◌, map, []}
use native.Mathlib.Nat.{add-zero, le_trans}
use native.Mathlib.Omega.{arith}
use lib.ListN.{length, get_or}
use borrow.Author.Tests.{not-false}
use Rattle.slices.specs.Choices.{both}
use Rattle.slices.proofs.Choices.{both_comm, both_true}
use Rattle.hypervolume.specs.Cells.{holds}
use Rattle.hypervolume.specs.Counts.{total}
use Rattle.rounding.specs.Nearest.{nearest}
use Rattle.order.specs.Order.{sum_of, by_digit, enter, rank}
use Rattle.order.proofs.ByDigit.{rank_low}
use Rattle.words.specs.Archive.{Archive}
use Rattle.words.specs.Layout.{read, word, behind}
use Rattle.words.specs.Format.{guard, within, archive_rows}
use Rattle.words.proofs.Passed.{within_bounds, guard_none, passed_both}
use Rattle.calls.specs.Calls.{reference_of, held_points, box_of, audited, share_of}
use Rattle.calls.specs.Lent.{answer, share, audit}
use Rattle.calls.proofs.Known.{known}
use Rattle.calls.proofs.Counted.{audited_counted}
use Rattle.fleet.specs.Fleet.{archives, past, fleet_rows, every}
use Rattle.fleet.proofs.Fleet.{fleet_passed}
use Rattle.figures.specs.Figures.{totals, sum, ascending, ranked, least, greatest, median, of_one_reference, common_box, median_share, reference_rows, figures_rows, figures_answer, figures}
use Rattle.figures.specs.Runs.{Totals}
use Rattle.figures.specs.Theorem.{OneOf, Middle, Lowest, Highest, Spread, OfOneRun, Alone, FiguresLaws}
use Rattle.figures.proofs.Ranks.{ranked_each, ranked_is, ranked_only, ranked_rises}
use Rattle.figures.proofs.Boxes.{length_totals, common_first, one_run}

-- The middle place.
halved : (n : ℕ) → 1 ≤ n → (2 * ((n - 1) / 2) < n) × (n ≤ 2 * ((n - 1) / 2) + 2)
halved n h = (omega arith, omega arith)

module _ (l : List ℕ) where
  one : (v : ℕ) → OneOf l v → 1 ≤ length l
  one v o = omega (arith, o.inside)

  median_is : 1 ≤ length l → Middle l (median l)
  unfolding median
  median_is h =
      let middle = halved (length l) h in
      let at = ranked_is l ((length l - 1) / 2) (omega (arith, middle.0)) in
      record {
        one_of = at.one_of;
        half = omega (arith, at.low, middle.1);
        most = omega (arith, at.high, middle.0);
      }

  median_only : (v : ℕ) → Middle l v → v ≡ median l
  unfolding median
  median_only v m =
      let middle = halved (length l) (one v m.one_of) in
      ranked_only l ((length l - 1) / 2) (omega (arith, middle.0)) v
      (omega (arith, m.half, middle.0)) (omega (arith, m.most, middle.1))

  -- Every number is at some place, so it lies between the first and the last.
  between : (i : ℕ) → i < length l → (least l ≤ get_or l i 0) × (get_or l i 0 ≤ greatest l)
  unfolding least greatest
  between i h =
      let inside = rank_low (λ t. t) l i h in (
        omega (arith, ranked_each l i h, ranked_rises l 0 (rank (λ t. t) l i) (omega arith) inside),
        omega (arith, ranked_each l i h, ranked_rises l (rank (λ t. t) l i) (length l - 1) (omega arith) (omega arith)),
      )

  least_is : 1 ≤ length l → Lowest l (least l)
  unfolding least
  least_is h = record { one_of = (ranked_is l 0 h).one_of; each = λ i m. (between i m).0 }

  greatest_is : 1 ≤ length l → Highest l (greatest l)
  unfolding greatest
  greatest_is h = record { one_of = (ranked_is l (length l - 1) (omega arith)).one_of; each = λ i m. (between i m).1 }

  -- Of two that are the lowest, or the highest, each is a number of the list, so neither is beyond the other.
  least_only : (v : ℕ) → Lowest l v → v ≡ least l
  least_only v m =
      let a = (least_is (one v m.one_of)).one_of in
      omega (arith, m.each a.place a.inside, a.there, (between m.one_of.place m.one_of.inside).0, m.one_of.there)

  greatest_only : (v : ℕ) → Highest l v → v ≡ greatest l
  greatest_only v m =
      let a = (greatest_is (one v m.one_of)).one_of in
      omega (arith, m.each a.place a.inside, a.there, (between m.one_of.place m.one_of.inside).1, m.one_of.there)

-- The sum of numbers that lie between two.
sum_between : (low high : ℕ) (l : List ℕ) → ((i : ℕ) → i < length l → (low ≤ get_or l i 0) × (get_or l i 0 ≤ high))
    → (length l * low ≤ sum l) × (sum l ≤ length l * high)
unfolding sum sum_of
sum_between low high [] h = (omega arith, omega arith)
sum_between low high (a ∷ l) h =
    let here = h 0 (omega arith) in
    let later = sum_between low high l (λ i m. h (suc i) (omega arith)) in
    (omega (arith, here.0, later.0), omega (arith, here.1, later.1))

spread : (l : List ℕ) → 1 ≤ length l → Spread l
spread l h =
    let middle = (median_is l h).one_of in
    let bounds = between l middle.place middle.inside in
    let sums = sum_between (least l) (greatest l) l (between l) in
    record {
      low = omega (arith, middle.there, bounds.0);
      high = omega (arith, middle.there, bounds.1);
      sum_low = sums.0;
      sum_high = sums.1;
    }

-- No total of archives that pass is above 2^60.
pub totals_small : (n : ℕ) (w : List ℕ) → fleet_rows n w 0 ≡ 0 → (i : ℕ) → get_or (totals (archives n w)) i 0 ≤ 1152921504606846976
unfolding totals archives fleet_rows read
totals_small zero w e i = zero-le
totals_small (suc n) w e zero =
    let here = known w (passed_both w (fleet_rows n (behind w) 0) e).0 in
    le_trans here.boxed here.box_small
totals_small (suc n) w e (suc i) = totals_small n (behind w) (passed_both w (fleet_rows n (behind w) 0) e).1 i

pub fleet_totals : (n : ℕ) (w : List ℕ) → n ≤ 15 → fleet_rows n w 0 ≡ 0 → Totals (totals (archives n w))
unfolding totals
fleet_totals n w m e =
    record { few = omega (arith, length_totals n w); small = totals_small n w e }

pub sum_small : (l : List ℕ) → Totals l → sum l ≤ 15 * 2 ^ 60
sum_small l h = omega (arith, h.few, (sum_between 0 1152921504606846976 l (λ i m. (zero-le, h.small i))).1)

-- What the rows tell where none of them turns the call down.
record Unrefused (w : List ℕ) (number : ℕ) : Type 0 where
  some : 1 ≤ number
  few : number ≤ 15
  passes : fleet_rows number w 0 ≡ 0
  alike : of_one_reference (archives number w) ≡ true

unrefused : (w : List ℕ) (number : ℕ) → figures_rows w number ≡ 0 → Unrefused w number
unfolding figures_rows reference_rows
unrefused w number e =
    let first = guard_none _ _ _ e in
    let bounds = within_bounds 1 15 number (not-false _ first.0) in
    let passed = fleet_passed number w _ first.1 in
    record { some = bounds.0; few = bounds.1; passes = passed.0; alike = not-false _ (guard_none _ _ _ passed.1).0 }

sum_fits : (w : List ℕ) (number : ℕ) → (figures w number).sum ≤ 15 * 2 ^ 60
unfolding figures figures_answer
sum_fits w number = go (figures_rows w number) refl
  where
    go : (row : ℕ) → figures_rows w number ≡ row → (figures_answer row (archives number w)).sum ≤ 15 * 2 ^ 60
    go zero e =
        let told = unrefused w number e in
        sum_small (totals (archives number w)) (fleet_totals number w told.few told.passes)
    go (suc n) e = zero-le

-- The median is one of the totals, so its share is the share of that archive.
share_there : (w : List ℕ) → archive_rows w 0 ≡ 0 → nearest (word w 5 * 1000000) (box_of (read w)) ≡ (share w).value
unfolding share share_of answer read
share_there w e = rw e

answered : (row : ℕ) (fleet : List Archive) → (figures_answer row fleet).refusal ≡ row
unfolding figures_answer
answered zero fleet = refl
answered (suc n) fleet = refl

of_one_run : (w : List ℕ) (number : ℕ) → (figures w number).refusal ≡ 0 → OfOneRun w number
unfolding figures figures_answer median_share
of_one_run w number done =
    let none : figures_rows w number ≡ 0 = sym (answered (figures_rows w number) (archives number w)) ∙ done in
    let told = unrefused w number none in
    let some : 1 ≤ length (totals (archives number w)) = omega (arith, told.some, length_totals number w) in
    let o = one_run number w told.passes told.alike (median_is (totals (archives number w)) some).one_of in
    record {
      run = o.run;
      inside = o.inside;
      median = ap (λ row. (figures_answer row (archives number w)).median) none ∙ sym o.there;
      share = ap (λ row. (figures_answer row (archives number w)).share) none
          ∙ ap₂ (λ m whole. nearest (m * 1000000) whole) (sym o.there) (common_first number w told.some ∙ sym o.boxed)
          ∙ share_there (past o.run w) o.passes;
    }

counted_each : (fleet : List Archive) → every audited fleet ≡ true
    → totals fleet ≡ map (λ a. total (reference_of a) (held_points a)) fleet
unfolding totals every
counted_each [] e = refl
counted_each (a ∷ fleet) e =
    let parts = both_true _ _ e in
    λ i. (audited_counted a parts.0).sum i ∷ counted_each fleet parts.1 i

holds_yes : (t : Bool) → holds t ≡ 1 → t ≡ true
unfolding holds
holds_yes true e = refl
holds_yes false e = absurd (let no : ⊥ = omega arith in no)

counted : (w : List ℕ) (number : ℕ) → (figures w number).audits ≡ 1
    → totals (archives number w) ≡ map (λ a. total (reference_of a) (held_points a)) (archives number w)
unfolding figures figures_answer
counted w number = go (figures_rows w number)
  where
    go : (row : ℕ) → (figures_answer row (archives number w)).audits ≡ 1
        → totals (archives number w) ≡ map (λ a. total (reference_of a) (held_points a)) (archives number w)
    go zero e = counted_each (archives number w) (holds_yes (every audited (archives number w)) e)
    go (suc n) e = absurd (let no : ⊥ = omega arith in no)

-- The figures of one archive, whatever its rows say.
alone_by : (row : ℕ) (a : Archive) → ((figures_answer row (a ∷ [])).refusal ≡ row)
    × ((figures_answer row (a ∷ [])).share ≡ (answer row (share_of a)).value)
    × ((figures_answer row (a ∷ [])).audits ≡ (answer row (holds (audited a))).value)
unfolding figures_answer totals ascending by_digit enter ranked median median_share common_box every both answer share_of
alone_by zero a = (refl, refl, ap holds (both_comm (audited a) true))
alone_by (suc n) a = (refl, refl, refl)

alone : (w : List ℕ) → Alone w
unfolding figures figures_rows guard within both fleet_rows archives of_one_reference reference_rows figures_answer totals sum sum_of ascending by_digit enter ranked least greatest median every share audit read
alone w =
    let told = alone_by (archive_rows w 0) (read w) in
    let done : archive_rows w 0 ≡ 0 → figures w 1 ≡ figures_answer 0 (read w ∷ []) = ap (λ row. figures_answer row (read w ∷ [])) in
    record {
      refusal = told.0;
      sum = λ e. ap (λ r. r.sum) (done e) ∙ add-zero (word w 5);
      least = λ e. ap (λ r. r.least) (done e);
      greatest = λ e. ap (λ r. r.greatest) (done e);
      median = λ e. ap (λ r. r.median) (done e);
      share = told.1;
      audits = told.2;
    }

pub figures_laws : FiguresLaws
figures_laws =
    record {
      median_is = median_is;
      median_only = median_only;
      least_is = least_is;
      least_only = least_only;
      greatest_is = greatest_is;
      greatest_only = greatest_only;
      spread = spread;
      sum_fits = sum_fits;
      of_one_run = of_one_run;
      counted = counted;
      alone = alone;
    }
