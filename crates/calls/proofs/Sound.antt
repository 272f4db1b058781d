-- Archives that pass rows 2 and 3 still do after a call that is done: insertion, removal, the drops of a reduction.
use Prim.Native.Nat.{ℕ, suc, ◌+◌, ◌≤◌}
use mathlib.Core.Path.{◌≡◌, refl, sym, ap, ◌∙◌}
use mathlib.Core.Bool.{true, false}
use mathlib.Core.Logic.{◌⊎◌, inl, inr}
use mathlib.Core.List.Memᴰ
use mathlib.Core.List.{List, map, Memᴰ, []}
use native.Mathlib.Numerals.{add-one}
use native.Mathlib.Omega.{arith}
use lib.ListN.{length, length-map}
use borrow.Author.Tests.{eqb-false, ltb-false, not-false, le-leb}
use Rattle.hypervolume.specs.Cells.{box}
use Rattle.hypervolume.specs.Front.{front}
use Rattle.slices.proofs.Choices.{both_true, both_intro, either_false}
use Rattle.hypervolume.proofs.Counting.{gain_le_box}
use Rattle.hypervolume.proofs.Front.{front_laws}
use Rattle.words.specs.Archive.{Trial, Row, Shape, Archive, point, reference, trials, points}
use Rattle.words.specs.Format.{shape_allowed, number_allowed, coordinates_allowed, row_allowed, rows_allowed, ordered, held, distinct}
use Rattle.words.proofs.Passed.{guard_none, Sound, RowBounds, row_bounds, bounds_row}
use Rattle.calls.specs.Calls.{held_trials, held_points, reference_of, box_of, empty, place, insert_gain, joint_with, lowered, inserted, falls_below, insert_overruns, insert_rows, admission_rows, row_of, others, without, raised, removed, exceeds, remove_overruns, remove_rows}
use Rattle.calls.proofs.Members.{tested_each, each_tested, place_length, place_member, others_member, split}
use Rattle.calls.proofs.Counted.{inserted_trials, removed_trials}
use Rattle.calls.proofs.Order.{ordered_ascending, ascending_ordered, ascending_place, distinct_place, distinct_more, others_ascending, others_distinct}

-- What the rows of insert and of remove let pass.
pub record InsertPassed (a : Archive) (t : Trial) : Type 0 where
  pub number : number_allowed t.number ≡ true
  pub coordinates : coordinates_allowed t ≡ true
  pub new : held t.number (held_trials a) ≡ false
  pub room : length a.rows ≡ a.shape.capacity → ⊥
  pub fits : insert_overruns a t ≡ false

pub insert_passed : (a : Archive) (t : Trial) → insert_rows a t ≡ 0 → InsertPassed a t
unfolding insert_rows admission_rows
insert_passed a t e =
    let number = guard_none _ _ _ e in
    let coordinates = guard_none _ _ _ number.1 in
    let new = guard_none _ _ _ coordinates.1 in
    let room = guard_none _ _ _ new.1 in
    let fits = guard_none _ _ _ room.1 in
    record {
      number = not-false _ number.0;
      coordinates = not-false _ coordinates.0;
      new = new.0;
      room = eqb-false _ _ room.0;
      fits = fits.0;
    }

pub record RemovePassed (a : Archive) (n : ℕ) : Type 0 where
  pub known : held n (held_trials a) ≡ true
  pub fits : remove_overruns a n ≡ false

pub remove_passed : (a : Archive) (n : ℕ) → remove_rows a n ≡ 0 → RemovePassed a n
unfolding remove_rows
remove_passed a n e =
    let known = guard_none _ _ _ e in
    let fits = guard_none _ _ _ known.1 in
    record { known = not-false _ known.0; fits = fits.0 }

-- Row 13 not given: the bounds that it leaves.
pub kept_covers : (a : Archive) (t : Trial) (rows : List Row) → falls_below a t rows ≡ false → (r : Row)
    → Memᴰ r rows → joint_with a t r ≤ r.kept
unfolding falls_below
kept_covers a t =
    tested_each (falls_below a t) false (λ r. joint_with a t r ≤ r.kept)
    (λ r rows e. let parts = either_false _ _ e in (ltb-false _ _ parts.0, parts.1))

pub raised_fits : (a : Archive) (t : Trial) (rows : List Row) → exceeds a t rows ≡ false → (r : Row)
    → Memᴰ r rows → r.kept + joint_with a t r ≤ box_of a
unfolding exceeds
raised_fits a t =
    tested_each (exceeds a t) false (λ r. r.kept + joint_with a t r ≤ box_of a)
    (λ r rows e. let parts = either_false _ _ e in (ltb-false _ _ parts.0, parts.1))

-- Allowed rows, by member.
pub rows_each : (s : Shape) (rows : List Row) → rows_allowed s rows ≡ true → (r : Row) → Memᴰ r rows → RowBounds s r
unfolding rows_allowed
rows_each s =
    tested_each (rows_allowed s) true (RowBounds s)
    (λ r rows e. let parts = both_true _ _ e in (row_bounds s r parts.0, parts.1))

pub each_rows : (s : Shape) (rows : List Row) → ((r : Row) → Memᴰ r rows → RowBounds s r) → rows_allowed s rows ≡ true
unfolding rows_allowed
each_rows s =
    each_tested (rows_allowed s) true (RowBounds s) refl (λ r rows b later. both_intro _ _ (bounds_row s r b) later)

-- A record with a lower contribution, or a higher one within the box.
kept_bounds : (s : Shape) (r : Row) (k : ℕ) → RowBounds s r → k ≤ box (reference s) → RowBounds s (record { trial = r.trial; kept = k })
kept_bounds s r k b l =
    record {
      number_low = b.number_low;
      number_high = b.number_high;
      coordinates = b.coordinates;
      kept_high = l;
    }

new_bounds : (s : Shape) (t : Trial) (k : ℕ) → number_allowed t.number ≡ true → coordinates_allowed t ≡ true
    → k ≤ box (reference s) → RowBounds s (record { trial = t; kept = k })
unfolding row_allowed
new_bounds s t k n c l = row_bounds s _ (both_intro _ _ n (both_intro _ _ c (le-leb k (box (reference s)) l)))

-- A front counted anew is at most the count.
pub front_few : (rows : List Row) → front (points (trials rows)) ≤ length rows
unfolding points trials
front_few rows =
    omega (arith, front_laws.at_most (points (trials rows)), length-map (trials rows) point, length-map rows (λ r. r.trial))

-- An archive just started.
pub empty_sound : (s : Shape) → shape_allowed s ≡ true → Sound (empty s)
unfolding empty rows_allowed ordered distinct trials
empty_sound s h =
    record {
      shaped = h;
      within_box = omega arith;
      front_within = front_few [];
      held_within = omega arith;
      rows_fit = refl;
      in_order = refl;
      apart = refl;
    }

pub inserted_count : (a : Archive) (t : Trial) → length (inserted a t).rows ≡ length a.rows + 1
unfolding inserted
inserted_count a t =
    place_length _ _ (map (lowered a t) a.rows)
    ∙ ap suc (length-map a.rows (lowered a t))
    ∙ sym (add-one (length a.rows))

pub inserted_sound : (a : Archive) (t : Trial) → Sound a → InsertPassed a t → Sound (inserted a t)
unfolding inserted insert_overruns insert_gain lowered
inserted_sound a t s p =
    let parts = either_false _ _ p.fits in
    let least : length a.rows ≤ a.shape.capacity = s.held_within in
    let room : length a.rows ≡ a.shape.capacity → ⊥ = p.room in
    record {
      shaped = s.shaped;
      within_box = ltb-false _ _ parts.0;
      front_within = front_few (place (λ r. r.trial) new (map (lowered a t) a.rows));
      held_within = rw (place_length (λ r. r.trial) new (map (lowered a t) a.rows), length-map a.rows (lowered a t)) (omega arith);
      rows_fit = each_rows a.shape _ (λ r m. each r (Memᴰ.cases_cons (place_member (λ q. q.trial) r new _ m)));
      in_order =
          rw (inserted_trials a t)
          (ascending_ordered _ (ascending_place t (held_trials a) p.new (ordered_ascending _ s.in_order)));
      apart = rw (inserted_trials a t, distinct_place t (held_trials a)) (distinct_more t (held_trials a) p.new s.apart);
    }
  where
    new : Row
    new = record { trial = t; kept = insert_gain a t }

    moved : (r : Row) → (q : Row) × Memᴰ q a.rows × (lowered a t q ≡ r) → RowBounds a.shape r
    moved r w =
        let was = rows_each a.shape a.rows s.rows_fit w.0 w.1 in
        let high : w.0.kept ≤ box_of a = was.kept_high in
        rw (← w.2) (kept_bounds a.shape w.0 _ was (omega arith))

    each : (r : Row) → (r ≡ new) ⊎ Memᴰ r (map (lowered a t) a.rows) → RowBounds a.shape r
    each r (inl e) = rw e (new_bounds a.shape t _ p.number p.coordinates (gain_le_box (reference_of a) (held_points a) (point t)))
    each r (inr m) = moved r (Memᴰ.of_map (lowered a t) a.rows m)

pub removed_sound : (a : Archive) (n : ℕ) → Sound a → RemovePassed a n → Sound (removed a n)
unfolding removed remove_overruns raised without
removed_sound a n s p =
    let parts = either_false _ _ p.fits in
    let high : a.sum ≤ box_of a = s.within_box in
    let all : length a.rows ≤ a.shape.capacity = s.held_within in
    let fewer : length a.rows ≡ suc (length (others n a.rows)) = (split n a.rows p.known s.apart).count in
    record {
      shaped = s.shaped;
      within_box = omega arith;
      front_within = front_few (map (raised (without a n) t) (others n a.rows));
      held_within = rw (length-map (others n a.rows) (raised (without a n) t)) (omega arith);
      rows_fit = each_rows a.shape _ (λ r m. moved parts.1 r (Memᴰ.of_map _ (others n a.rows) m));
      in_order =
          rw (removed_trials a n)
          (ascending_ordered _ (others_ascending n a.rows (ordered_ascending _ s.in_order)));
      apart = rw (removed_trials a n) (others_distinct n a.rows s.apart);
    }
  where
    t : Trial
    t = (row_of n a.rows).trial

    moved : exceeds (without a n) t (others n a.rows) ≡ false → (r : Row)
        → (q : Row) × Memᴰ q (others n a.rows) × (raised (without a n) t q ≡ r) → RowBounds a.shape r
    moved f r w =
        let was = rows_each a.shape a.rows s.rows_fit w.0 (others_member n a.rows w.0 w.1) in
        rw (← w.2) (kept_bounds a.shape w.0 _ was (raised_fits (without a n) t (others n a.rows) f w.0 w.1))
