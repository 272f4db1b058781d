-- One drop, said of the columns: what the archive holds after it, and what the drop asks of the columns on the way.
use Prim.Native.Nat.{ℕ, ◌+◌, ◌-◌, ◌<◌}
use mathlib.Core.Path.{◌≡◌, refl, sym, ap, ap₂, ◌∙◌}
use mathlib.Core.Bool.{true}
use mathlib.Core.List.{List, ◌∷◌, map, []}
use lib.ListN.{length, get_or}
use Rattle.hypervolume.specs.Counts.{gain, joints}
use Rattle.words.specs.Archive.{Trial, Row, Archive, point, trials, points}
use Rattle.words.specs.Layout.{record_words}
use Rattle.words.specs.Format.{sound_rows, distinct}
use Rattle.words.proofs.Passed.{Sound}
use Rattle.slices.specs.Amounts.{moved}
use Rattle.slices.proofs.Choices.{both_true, both_intro}
use Rattle.hypervolume.proofs.Counting.{total_le_box}
use Rattle.calls.specs.Calls.{reference_of, held_points, row_of, others, without, removal_loss, insert_gain, raised, removed, least_row, dropped}
use Rattle.calls.specs.Counted.{IsCounted}
use Rattle.calls.proofs.Drops.{leaving, DropKeeps, drop_keeps}
use Rattle.calls.proofs.Counted.{removed_trials}
use Rattle.calls.proofs.Sound.{front_few}
use Rattle.records.specs.Columns.{field_of, column, leave_out}
use Rattle.records.specs.Amounts.{shares}
use Rattle.records.proofs.LeaveOut.{others_at, row_of_at}
use Rattle.records.proofs.MovedAmounts.{joints_shares}
use Rattle.records.proofs.RowAt.{blank}
use Rattle.reduction.specs.Columns.{closed, Droppable}
use Rattle.reduction.proofs.columns.Closing.{closed_map}

-- What a drop asks of the archive is that it is sound and counted.
pub sound_archive : (a : Archive) → Droppable a → Sound a
unfolding sound_rows
sound_archive a d =
    let rows = both_true _ _ d.sound in
    let order = both_true _ _ rows.1 in
    record {
      shaped = d.shaped;
      within_box = rw d.counted.sum (total_le_box (reference_of a) (held_points a));
      front_within = rw d.counted.front (front_few a.rows);
      held_within = d.held_within;
      rows_fit = rows.0;
      in_order = order.0;
      apart = order.1;
    }

pub droppable_archive : (a : Archive) → Sound a → IsCounted a → Droppable a
unfolding sound_rows
droppable_archive a s c =
    record {
      shaped = s.shaped;
      held_within = s.held_within;
      sound = both_intro _ _ s.rows_fit (both_intro _ _ s.in_order s.apart);
      counted = c;
    }

pub droppable_after : (rule : ℕ) (a : Archive) → Droppable a → 0 < length a.rows → Droppable (dropped rule a)
droppable_after rule a d l =
    let keeps : DropKeeps rule a = drop_keeps rule a (sound_archive a d) d.counted l in
    droppable_archive (dropped rule a) keeps.sound keeps.counted

-- Records that are raised keep their trials.
raised_numbers : (a : Archive) (t : Trial) (rows : List Row) → column 0 (map (raised a t) rows) ≡ column 0 rows
unfolding column field_of record_words raised
raised_numbers a t [] = refl
raised_numbers a t (r ∷ rows) = ap (λ l. r.trial.number ∷ l) (raised_numbers a t rows)

raised_kept : (a : Archive) (t : Trial) (rows : List Row) → column 4 (map (raised a t) rows) ≡ moved (λ v m. v + m) (column 4 rows) (shares a t rows)
unfolding column field_of record_words raised moved shares
raised_kept a t [] = refl
raised_kept a t (r ∷ rows) = ap (λ l. (raised a t r).kept ∷ l) (raised_kept a t rows)

column_closed : (f k : ℕ) (rows : List Row) → column f (leave_out k rows) ≡ closed k (column f rows)
unfolding column leave_out closed
column_closed f k rows = closed_map (field_of f) k rows

points_closed : (k : ℕ) (rows : List Row) → points (trials (leave_out k rows)) ≡ closed k (points (trials rows))
unfolding points trials leave_out closed
points_closed k rows = ap (map point) (closed_map (λ r. r.trial) k rows) ∙ closed_map point k (trials rows)

-- The drop of the record at place k, which is the least contributor.
module _ (rule : ℕ) (a : Archive) (k : ℕ) (d : Droppable a) (l : k < length a.rows) (least : get_or a.rows k blank ≡ least_row rule a.rows) where
  abbrev gone : Trial
  gone = (get_or a.rows k blank).trial

  apart : distinct (trials a.rows) ≡ true
  apart = (sound_archive a d).apart

  others_left : others (leaving rule a) a.rows ≡ leave_out k a.rows
  others_left = ap (λ r. others r.trial.number a.rows) (sym least) ∙ others_at a.rows k blank l apart

  row_gone : row_of (leaving rule a) a.rows ≡ get_or a.rows k blank
  row_gone = ap (λ r. row_of r.trial.number a.rows) (sym least) ∙ row_of_at a.rows k blank l apart

  rows_after : (dropped rule a).rows ≡ map (raised (without a (leaving rule a)) gone) (leave_out k a.rows)
  unfolding dropped removed
  rows_after = ap₂ (λ r rows. map (raised (without a (leaving rule a)) r.trial) rows) row_gone others_left

  without_points : held_points (without a (leaving rule a)) ≡ closed k (held_points a)
  unfolding without
  without_points = ap (λ rows. points (trials rows)) others_left ∙ points_closed k a.rows

  pub numbers_after : column 0 (dropped rule a).rows ≡ closed k (column 0 a.rows)
  numbers_after = ap (column 0) rows_after ∙ raised_numbers (without a (leaving rule a)) gone (leave_out k a.rows) ∙ column_closed 0 k a.rows

  pub points_after : held_points (dropped rule a) ≡ closed k (held_points a)
  unfolding dropped
  points_after = ap points (removed_trials a (leaving rule a)) ∙ without_points

  shares_left : shares (without a (leaving rule a)) gone (leave_out k a.rows) ≡ joints (reference_of a) (closed k (held_points a)) (point gone)
  unfolding without
  shares_left =
      ap (shares (without a (leaving rule a)) gone) (sym others_left)
      ∙ sym (joints_shares (without a (leaving rule a)) gone)
      ∙ ap (λ ps. joints (reference_of a) ps (point gone)) without_points

  pub kept_after : column 4 (dropped rule a).rows ≡ moved (λ v m. v + m) (closed k (column 4 a.rows)) (joints (reference_of a) (closed k (held_points a)) (point gone))
  kept_after =
      ap (column 4) rows_after
      ∙ raised_kept (without a (leaving rule a)) gone (leave_out k a.rows)
      ∙ ap₂ (moved (λ v m. v + m)) (column_closed 4 k a.rows) shares_left

  pub loss_is : removal_loss a (leaving rule a) ≡ gain (reference_of a) (closed k (held_points a)) (point gone)
  unfolding removal_loss insert_gain without
  loss_is = ap₂ (λ r ps. gain (reference_of a) ps (point r.trial)) row_gone without_points

  pub sum_after : (dropped rule a).sum ≡ a.sum - gain (reference_of a) (closed k (held_points a)) (point gone)
  unfolding dropped removed
  sum_after = ap (λ g. a.sum - g) loss_is
