-- Records that are allowed: their contributions, and their points: which they are, and that those of a sound archive's records, or of all of them but
-- one, are as the counting takes them.
use Prim.Native.Nat.{ℕ, zero, suc, ◌+◌, ◌*◌, ◌≤◌, ◌<◌, zero-le}
use mathlib.Core.Path.{◌≡◌, refl, ap, ◌∙◌}
use mathlib.Core.Bool.{true}
use mathlib.Core.List.{List, ◌∷◌, ◌++◌, []}
use native.Mathlib.Omega.{arith}
use lib.ListN.{length, get_or, take}
use Rattle.slices.specs.Amounts.{Each}
use Rattle.slices.proofs.Choices.{both_true}
use Rattle.hypervolume.specs.Cells.{box}
use Rattle.hypervolume.specs.Sorted.{Sorted}
use Rattle.front.specs.Keys.{standing, InOrder}
use Rattle.words.specs.Archive.{Trial, Row, Shape, Archive, point, reference, trials, points, before}
use Rattle.words.specs.Layout.{record_words, read, word}
use Rattle.words.specs.Format.{archive_rows, row_allowed, rows_allowed, ordered}
use Rattle.words.specs.Places.{rows_before}
use Rattle.words.proofs.Passed.{Sound, row_bounds, shape_bounds, coordinates_small}
use Rattle.calls.proofs.Known.{known, count_rows}
use Rattle.calls.proofs.Order.{Ascent, lower, level, ascent}
use Rattle.records.specs.Columns.{field_of, column, leave_out}
use Rattle.records.specs.Loaded.{PointsLoaded}
use Rattle.records.proofs.LeaveOut.{leave_none, left_allowed, left_ordered, left_fewer}
use Rattle.records.proofs.RowAt.{blank}

pub points_append : (rows more : List Row) → points (trials (rows ++ more)) ≡ points (trials rows) ++ points (trials more)
unfolding points trials
points_append [] more = refl
points_append (r ∷ rows) more = ap (λ l. point r.trial ∷ l) (points_append rows more)

pub length_points : (rows : List Row) → length (points (trials rows)) ≡ length rows
unfolding points trials
length_points [] = refl
length_points (r ∷ rows) = ap suc (length_points rows)

pub points_at : (rows : List Row) (i : ℕ) (d : Row) → i < length rows → get_or (points (trials rows)) i [] ≡ point (get_or rows i d).trial
unfolding points trials
points_at [] i d l = absurd (let no' : ⊥ = omega arith in no')
points_at (r ∷ rows) zero d l = refl
points_at (r ∷ rows) (suc i) d l = points_at rows i d (omega arith)

-- No contribution of an allowed record is above the box.
pub column_each : (s : Shape) (rows : List Row) → rows_allowed s rows ≡ true → Each (column 4 rows) (box (reference s))
unfolding column rows_allowed field_of record_words
column_each s [] h i = zero-le
column_each s (r ∷ rows) h zero = (row_bounds s r (both_true (row_allowed s r) (rows_allowed s rows) h).0).kept_high
column_each s (r ∷ rows) h (suc i) = column_each s rows (both_true (row_allowed s r) (rows_allowed s rows) h).1 i

-- No coordinate of allowed records is above 1,048,576.
points_small : (s : Shape) (rows : List Row) → rows_allowed s rows ≡ true → (k axis : ℕ) → get_or (get_or (points (trials rows)) k []) axis 0 ≤ 1048576
unfolding points trials rows_allowed
points_small s [] b k axis = zero-le
points_small s (r ∷ rows) b zero axis =
    coordinates_small r.trial (row_bounds s r (both_true (row_allowed s r) (rows_allowed s rows) b).0).coordinates axis
points_small s (r ∷ rows) b (suc k) axis = points_small s rows (both_true (row_allowed s r) (rows_allowed s rows) b).1 k axis

-- Trials in the archive's order ascend in z.
before_z : (t u : Trial) → before t u ≡ true → t.z ≤ u.z
unfolding before
before_z t u e = go (ascent t.z u.z _ _ e)
  where
    go : Ascent t.z u.z (t.y ∷ t.x ∷ t.number ∷ []) (u.y ∷ u.x ∷ u.number ∷ []) → t.z ≤ u.z
    go (lower l) = omega arith
    go (level e k) = omega arith

points_rising : (rows : List Row) → ordered (trials rows) ≡ true → (k : ℕ) → suc k < length rows
    → get_or (get_or (points (trials rows)) k []) 2 0 ≤ get_or (get_or (points (trials rows)) (suc k) []) 2 0
unfolding points trials ordered
points_rising [] o k l = absurd (let no' : ⊥ = omega arith in no')
points_rising (r ∷ []) o k l = absurd (let no' : ⊥ = omega arith in no')
points_rising (r ∷ s ∷ rows) o zero l = before_z r.trial s.trial (both_true (before r.trial s.trial) (ordered (trials (s ∷ rows))) o).0
points_rising (r ∷ s ∷ rows) o (suc k) l =
    points_rising (s ∷ rows) (both_true (before r.trial s.trial) (ordered (trials (s ∷ rows))) o).1 k (omega arith)

-- The points of at most 512 records that are allowed and in order.
pub points_sorted : (s : Shape) (rows : List Row) → length rows ≤ 512 → rows_allowed s rows ≡ true → ordered (trials rows) ≡ true → Sorted (points (trials rows))
points_sorted s rows few allowed rising =
    let size : length (points (trials rows)) ≡ length rows = length_points rows in
    record {
      few = omega arith;
      axes = λ k l. ap length (points_at rows k blank (let m : k < length rows = omega arith in m));
      small = points_small s rows allowed;
      rising = λ k l. points_rising rows rising k (omega arith);
    }

pub sound_sorted : (a : Archive) → Sound a → Sorted (points (trials a.rows))
sound_sorted a h =
    let bounds = shape_bounds a.shape h.shaped in
    points_sorted a.shape a.rows (omega (arith, h.held_within, bounds.capacity_high)) h.rows_fit h.in_order

-- All records but one.
pub left_sorted : (a : Archive) (k : ℕ) → Sound a → Sorted (points (trials (leave_out k a.rows)))
left_sorted a k h =
    let bounds = shape_bounds a.shape h.shaped in
    points_sorted a.shape (leave_out k a.rows)
    (omega (arith, left_fewer a.rows k, h.held_within, bounds.capacity_high))
    (left_allowed a.shape a.rows k h.rows_fit)
    (left_ordered a.rows k h.in_order h.apart)

-- In the archive's order: z, then y, then x, as one number.
before_standing : (t u : Trial) → t.y ≤ 1048576 → t.x ≤ 1048576 → u.y ≤ 1048576 → u.x ≤ 1048576 → before t u ≡ true
    → (t.z * 2097152 + t.y) * 2097152 + t.x ≤ (u.z * 2097152 + u.y) * 2097152 + u.x
unfolding before
before_standing t u a b c d e = by_z (ascent t.z u.z _ _ e)
  where
    by_x : t.z ≡ u.z → t.y ≡ u.y → Ascent t.x u.x (t.number ∷ []) (u.number ∷ []) → (t.z * 2097152 + t.y) * 2097152 + t.x ≤ (u.z * 2097152 + u.y) * 2097152 + u.x
    by_x z y (lower l) = omega arith
    by_x z y (level x k) = omega arith

    by_y : t.z ≡ u.z → Ascent t.y u.y (t.x ∷ t.number ∷ []) (u.x ∷ u.number ∷ []) → (t.z * 2097152 + t.y) * 2097152 + t.x ≤ (u.z * 2097152 + u.y) * 2097152 + u.x
    by_y z (lower l) = omega arith
    by_y z (level y k) = by_x z y (ascent t.x u.x _ _ k)

    by_z : Ascent t.z u.z (t.y ∷ t.x ∷ t.number ∷ []) (u.y ∷ u.x ∷ u.number ∷ []) → (t.z * 2097152 + t.y) * 2097152 + t.x ≤ (u.z * 2097152 + u.y) * 2097152 + u.x
    by_z (lower l) = omega arith
    by_z (level z k) = by_y z (ascent t.y u.y _ _ k)

standing_rising : (s : Shape) (rows : List Row) → rows_allowed s rows ≡ true → ordered (trials rows) ≡ true → (k : ℕ) → suc k < length rows
    → standing (points (trials rows)) k ≤ standing (points (trials rows)) (suc k)
unfolding points trials ordered rows_allowed
standing_rising s [] b o k l = absurd (let no' : ⊥ = omega arith in no')
standing_rising s (r ∷ []) b o k l = absurd (let no' : ⊥ = omega arith in no')
standing_rising s (r ∷ q ∷ rows) b o zero l =
    let first = both_true (row_allowed s r) (rows_allowed s (q ∷ rows)) b in
    let second = both_true (row_allowed s q) (rows_allowed s rows) first.1 in
    let small = coordinates_small r.trial (row_bounds s r first.0).coordinates in
    let small' = coordinates_small q.trial (row_bounds s q second.0).coordinates in
    before_standing r.trial q.trial (small 1) (small 0) (small' 1) (small' 0) (both_true (before r.trial q.trial) (ordered (trials (q ∷ rows))) o).0
standing_rising s (r ∷ q ∷ rows) b o (suc k) l =
    standing_rising s (q ∷ rows) (both_true (row_allowed s r) (rows_allowed s (q ∷ rows)) b).1
    (both_true (before r.trial q.trial) (ordered (trials (q ∷ rows))) o).1 k (omega arith)

pub sound_in_order : (a : Archive) → Sound a → InOrder (points (trials a.rows))
sound_in_order a h =
    let sorted : Sorted (points (trials a.rows)) = sound_sorted a h in
    record {
      few = sorted.few;
      axes = sorted.axes;
      small = sorted.small;
      rising = λ k l. standing_rising a.shape a.rows h.rows_fit h.in_order k (omega (arith, length_points a.rows));
    }

-- What is loaded from words that rows 1 to 3 let pass.
pub loaded_sorted : (w : List ℕ) (k : ℕ) → archive_rows w 0 ≡ 0 → Sorted (points (trials (leave_out k (rows_before w (word w 0)))))
unfolding read
loaded_sorted w k p = left_sorted (read w) k (known w p).sound

-- All records of such words.
pub loaded_all : {w : List ℕ} {k m : ℕ} {before after : List (List ℕ)} → k ≡ word w 0 → PointsLoaded w k m before after → take m after ≡ points (trials (read w).rows)
unfolding read
loaded_all {w} {k} e l =
    l.held ∙ ap (λ rows. points (trials rows)) (leave_none (rows_before w (word w 0)) k (omega (arith, count_rows w)))

pub loaded_in_order : {w : List ℕ} {k m : ℕ} {before after : List (List ℕ)} → archive_rows w 0 ≡ 0 → k ≡ word w 0 → PointsLoaded w k m before after → InOrder (take m after)
loaded_in_order {w} p e l = rw (loaded_all e l) (sound_in_order (read w) (known w p).sound)
