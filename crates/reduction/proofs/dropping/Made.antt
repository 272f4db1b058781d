-- One drop made on the columns of an archive: what its steps ask, and what it leaves.
use Prim.Native.Nat.{ℕ, zero, suc, ◌+◌, ◌-◌, ◌≤◌, ◌<◌, zero-le}
use mathlib.Core.Path.{◌≡◌, refl, sym, ap, ap₂, ◌∙◌, subst}
use mathlib.Core.List.{List, ◌∷◌, []}
use native.Mathlib.Nat.{le_trans}
use native.Mathlib.Omega.{arith}
use lib.ListN.{length, take, get_or, length-take}
use lib.Seq.{get_or-take}
use Rattle.slices.specs.Put.{put}
use Rattle.slices.specs.Amounts.{moved, Each}
use Rattle.hypervolume.specs.Cells.{box}
use Rattle.hypervolume.specs.Counts.{gain, joints}
use Rattle.hypervolume.specs.Sorted.{Small, Sorted}
use Rattle.words.specs.Archive.{Row, Archive, point}
use Rattle.words.proofs.Passed.{shape_bounds, box_bound}
use Rattle.calls.specs.Calls.{reference_of, held_points, least_row, removal_loss, removed, dropped, note}
use Rattle.calls.proofs.Members.{split}
use Rattle.calls.proofs.Counted.{total_removed}
use Rattle.calls.proofs.Drops.{leaving, DropKeeps, drop_keeps}
use Rattle.records.specs.Columns.{column}
use Rattle.records.proofs.Columns.{length_column}
use Rattle.records.proofs.HeldPoints.{length_points, sound_sorted, column_each}
use Rattle.records.proofs.RowAt.{blank}
use Rattle.corners.specs.Updating.{Scratch}
use Rattle.reduction.specs.Columns.{closed, LeastNoted, RowsInColumns, InColumns, GapClosed, Droppable, Recounting}
use Rattle.reduction.proofs.columns.Ranking.{number_in, kept_in}
use Rattle.reduction.proofs.columns.Records.{row_in}
use Rattle.reduction.proofs.columns.Dropping.{sound_archive, numbers_after, points_after, kept_after, loss_is, sum_after}

-- Columns are at least as long as the archive.
pub record Room (n : ℕ) (numbers : List ℕ) (coordinates : List (List ℕ)) (kept : List ℕ) : Type 0 where
  pub of_numbers : n ≤ length numbers
  pub of_points : n ≤ length coordinates
  pub of_kept : n ≤ length kept

pub room : {rows : List Row} {n : ℕ} {numbers : List ℕ} {coordinates : List (List ℕ)} {kept : List ℕ} → RowsInColumns rows n numbers coordinates kept → Room n numbers coordinates kept
room {rows} {n} {numbers} {coordinates} {kept} h =
    let many : length rows ≡ n = h.many in
    record {
      of_numbers = let e : length (take n numbers) ≡ length rows = ap length h.numbered ∙ length_column 0 rows in omega (arith, length-take n numbers);
      of_points = let e : length (take n coordinates) ≡ length rows = ap length h.placed ∙ length_points rows in omega (arith, length-take n coordinates);
      of_kept = let e : length (take n kept) ≡ length rows = ap length h.contributed ∙ length_column 4 rows in omega (arith, length-take n kept);
    }

-- A bound on every number holds with one left out.
each_closed : (k : ℕ) (l : List ℕ) (limit : ℕ) → Each l limit → Each (closed k l) limit
unfolding closed
each_closed zero [] limit h i = zero-le
each_closed zero (x ∷ l) limit h i = h (suc i)
each_closed (suc k) [] limit h i = zero-le
each_closed (suc k) (x ∷ l) limit h zero = h 0
each_closed (suc k) (x ∷ l) limit h (suc i) = each_closed k l limit (λ j. h (suc j)) i

reference_kept : (rule : ℕ) (a : Archive) → reference_of (dropped rule a) ≡ reference_of a
unfolding dropped removed
reference_kept rule a = refl

-- The drop of the record at place k, on the columns.
module _
    {rule : ℕ} {a : Archive} {reference : List ℕ} {n total : ℕ} {numbers : List ℕ} {coordinates : List (List ℕ)} {kept : List ℕ}
    (h : InColumns a reference n total numbers coordinates kept) (d : Droppable a)
    {log after : List ℕ} {at k : ℕ} (l : k < n) (c : LeastNoted rule (take n numbers) (take n kept) k log at after)
    {numbers' : List ℕ} {coordinates' : List (List ℕ)} {kept' : List ℕ} (g : GapClosed n k numbers coordinates kept numbers' coordinates' kept')
    {u : List ℕ} (e : u ≡ get_or coordinates k [])
  where
    inside : k < length a.rows
    inside = let many : length a.rows ≡ n = h.held.many in omega arith

    least : get_or a.rows k blank ≡ least_row rule a.rows
    least = c.least a.rows (sym h.held.numbered) (sym h.held.contributed)

    u_is : u ≡ point (get_or a.rows k blank).trial
    u_is = e ∙ (row_in k h.held l).point_is

    keeps : DropKeeps rule a
    keeps = drop_keeps rule a (sound_archive a d) d.counted (omega (arith, inside))

    points_left : take (n - 1) coordinates' ≡ held_points (dropped rule a)
    points_left = g.placed ∙ ap (closed k) h.held.placed ∙ sym (points_after rule a k d inside least)

    pub recount_ready : Room n numbers coordinates kept → length coordinates' ≡ length coordinates → length kept' ≡ length kept → Recounting coordinates' kept' (n - 1) u reference
    recount_ready r lp lk =
        let bounds = shape_bounds a.shape d.shaped in
        record {
          points_room = let s : n ≤ length coordinates = r.of_points in omega arith;
          kept_room = let s : n ≤ length kept = r.of_kept in omega arith;
          sorted = subst Sorted (sym points_left) (sound_sorted (dropped rule a) keeps.sound);
          small = subst Small (sym (e ∙ sym (get_or-take n coordinates k [] l) ∙ ap (λ x. get_or x k []) h.held.placed)) ((sound_sorted a (sound_archive a d)).small k);
          reference_small = subst Small h.referred bounds.reference_high;
          boxed = subst (λ r. box r ≤ 1152921504606846976) h.referred (box_bound a.shape bounds);
          fits =
              subst (λ x. Each x 1152921504606846976) (sym (g.contributed ∙ ap (closed k) h.held.contributed))
              (each_closed k (column 4 a.rows) 1152921504606846976 (λ i. le_trans (column_each a.shape a.rows (sound_archive a d).rows_fit i) (box_bound a.shape bounds)));
        }

    gain_is : (r : ℕ) → r ≡ gain reference (take (n - 1) coordinates') u → r ≡ gain (reference_of a) (closed k (held_points a)) (point (get_or a.rows k blank).trial)
    gain_is r q =
        q
        ∙ ap₂ (λ x y. gain x y u) (sym h.referred) (g.placed ∙ ap (closed k) h.held.placed)
        ∙ ap (gain (reference_of a) (closed k (held_points a))) u_is

    pub gain_within : (r : ℕ) → r ≡ gain reference (take (n - 1) coordinates') u → r ≤ total
    gain_within r q =
        let loss : r ≡ removal_loss a (leaving rule a) = gain_is r q ∙ sym (loss_is rule a k d inside least) in
        let falls = total_removed a (leaving rule a) (split (leaving rule a) a.rows keeps.known (sound_archive a d).apart) in
        let sum = d.counted.sum in
        let totalled : a.sum ≡ total = h.totalled in
        omega arith

    kept_left : (kept'' : List ℕ) → take (n - 1) kept'' ≡ moved (λ v s. v + s) (take (n - 1) kept') (joints reference (take (n - 1) coordinates') u) → take (n - 1) kept'' ≡ column 4 (dropped rule a).rows
    kept_left kept'' q =
        q
        ∙ ap₂ (moved (λ v s. v + s)) (g.contributed ∙ ap (closed k) h.held.contributed)
        (ap₂ (λ x y. joints x y u) (sym h.referred) (g.placed ∙ ap (closed k) h.held.placed) ∙ ap (joints (reference_of a) (closed k (held_points a))) u_is)
        ∙ sym (kept_after rule a k d inside least)

    number_noted : get_or (take n numbers) k 0 ≡ (least_row rule a.rows).trial.number
    number_noted = ap (λ x. get_or x k 0) h.held.numbered ∙ number_in a.rows k ∙ ap (λ r. r.trial.number) least

    kept_noted : get_or (take n kept) k 0 ≡ (least_row rule a.rows).kept
    kept_noted = ap (λ x. get_or x k 0) h.held.contributed ∙ kept_in a.rows k ∙ ap (λ r. r.kept) least

    pub drop_made : (r : ℕ) (kept'' : List ℕ) → r ≡ gain reference (take (n - 1) coordinates') u
        → take (n - 1) kept'' ≡ moved (λ v s. v + s) (take (n - 1) kept') (joints reference (take (n - 1) coordinates') u)
        → InColumns (dropped rule a) reference (n - 1) (total - r) numbers' coordinates' kept'' × (after ≡ put log at (note rule a))
    unfolding note
    drop_made r kept'' q m = (
      record {
        referred = reference_kept rule a ∙ h.referred;
        totalled = sum_after rule a k d inside least ∙ ap₂ (λ x y. x - y) h.totalled (sym (gain_is r q));
        held =
            record {
              many = let many : length a.rows ≡ n = h.held.many in let count : length a.rows ≡ suc (length (dropped rule a).rows) = keeps.count in omega arith;
              numbered = g.numbered ∙ ap (closed k) h.held.numbered ∙ sym (numbers_after rule a k d inside least);
              placed = points_left;
              contributed = kept_left kept'' m;
            };
      },
      c.noted ∙ ap₂ (λ x y. put log at (x ∷ y ∷ [])) number_noted kept_noted,
    )

-- Room for n is room for fewer.
pub room_less : {n : ℕ} {corners : List (List ℕ)} {places line counts : List ℕ} → Scratch n corners places line counts → Scratch (n - 1) corners places line counts
room_less {n} {corners} {places} {line} {counts} s =
    record {
      corners_room = let r : n ≤ length corners = s.corners_room in omega arith;
      places_room = let r : n ≤ length places = s.places_room in omega arith;
      line_room = let r : n ≤ length line = s.line_room in omega arith;
      counts_room = let r : n ≤ length counts = s.counts_room in omega arith;
    }
