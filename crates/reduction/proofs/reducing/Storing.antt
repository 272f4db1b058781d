-- The columns loaded from the words, and written back.
use Prim.Native.Nat.{ℕ, ◌+◌, ◌-◌, ◌*◌, ◌≤◌}
use mathlib.Core.Path.{◌≡◌, refl, sym, ap, ap₂, ◌∙◌}
use mathlib.Core.List.{List, ◌++◌}
use native.Mathlib.Omega.{arith}
use lib.ListN.{length, take, drop, set, replicate}
use lib.Seq.{take_at}
use Rattle.hypervolume.specs.Front.{front}
use Rattle.front.specs.Keys.{InOrder}
use Rattle.slices.specs.Put.{put}
use Rattle.slices.proofs.Put.{put_front, put_then}
use Rattle.words.specs.Archive.{Row, Archive, reference, trials, points}
use Rattle.words.specs.Layout.{word, layout, read, read_shape, records, behind}
use Rattle.words.specs.Format.{archive_rows}
use Rattle.words.specs.Places.{rows_before}
use Rattle.words.proofs.Passed.{passed}
use Rattle.words.proofs.Reading.{length_records, length_read_rows}
use Rattle.calls.specs.Calls.{after_drops}
use Rattle.calls.specs.Counted.{IsCounted}
use Rattle.calls.proofs.Known.{count_rows, known}
use Rattle.calls.proofs.Drops.{DropsDown, drops_down}
use Rattle.records.specs.Columns.{column, leave_out}
use Rattle.records.specs.Loaded.{PointsLoaded}
use Rattle.records.proofs.Columns.{length_column}
use Rattle.records.proofs.LeaveOut.{leave_none}
use Rattle.records.proofs.HeldPoints.{sound_in_order}
use Rattle.records.proofs.Stored
use Rattle.reduction.specs.Columns.{RowsInColumns, InColumns, Droppable, Storing, Stores}
use Rattle.reduction.proofs.columns.Dropping.{droppable_archive}
use Rattle.reduction.proofs.dropping.Made.{Room, room}
use Rattle.reduction.proofs.reducing.Dropping.{drops_shape}

-- A column loaded: the first n words of the slice.
column_loaded : (field n : ℕ) (rows : List Row) (old now : List ℕ) → length rows ≡ n → now ≡ put old 0 (column field rows) → take n now ≡ column field rows
column_loaded field n rows old now many e =
    ap (take n) (e ∙ put_front old (column field rows))
    ∙ take_at (column field rows) (drop (length (column field rows)) old) n (length_column field rows ∙ many)

-- The columns are those of the archive that the words hold.
module _ (w : List ℕ) (n : ℕ) (p : archive_rows w 0 ≡ 0) (en : n ≡ word w 0) where
  many_rows : length (rows_before w n) ≡ n
  many_rows = length_read_rows n (drop 8 w)

  pub loaded : (r numbers₀ numbers kept₀ kept : List ℕ) (m : ℕ) (coordinates₀ coordinates : List (List ℕ)) → r ≡ reference (read_shape w)
      → numbers ≡ put numbers₀ 0 (column 0 (rows_before w n)) → PointsLoaded w n m coordinates₀ coordinates → kept ≡ put kept₀ 0 (column 4 (rows_before w n))
      → InColumns (read w) r n (word w 5) numbers coordinates kept
  unfolding read
  loaded r numbers₀ numbers kept₀ kept m coordinates₀ coordinates er e₀ l e₄ =
      let same : rows_before w n ≡ rows_before w (word w 0) = ap (λ i. rows_before w i) en in
      let size : length (rows_before w (word w 0)) ≡ word w 0 = count_rows w in
      let all : leave_out n (rows_before w (word w 0)) ≡ rows_before w (word w 0) = leave_none (rows_before w (word w 0)) n (omega arith) in
      let m-is : m ≡ n = l.many ∙ ap length all ∙ size ∙ sym en in
      record {
        referred = sym er;
        totalled = refl;
        held =
            record {
              many = size ∙ sym en;
              numbered = column_loaded 0 n (rows_before w n) numbers₀ numbers many_rows e₀ ∙ ap (column 0) same;
              placed = ap (λ i. take i coordinates) (sym m-is) ∙ l.held ∙ ap (λ rows. points (trials rows)) all;
              contributed = column_loaded 4 n (rows_before w n) kept₀ kept many_rows e₄ ∙ ap (column 4) same;
            };
      }

  pub droppable_words : IsCounted (read w) → Droppable (read w)
  droppable_words c = droppable_archive (read w) (known w p).sound c

-- What writing back asks, and what it leaves.
module _ (w : List ℕ) (rule drops n : ℕ) {total : ℕ} {r numbers kept : List ℕ} {coordinates : List (List ℕ)} (h : InColumns (after_drops rule drops (read w)) r (n - drops) total numbers coordinates kept) where
  -- The drops keep the archive sound and counted, so the front of the points left is its front: of all the fronts on the way only
  -- this one is seen.
  module _ (p : archive_rows w 0 ≡ 0) (c : IsCounted (read w)) (l : drops ≤ word w 0) where
    down : DropsDown rule drops (read w)
    down = drops_down rule drops (read w) (known w p).sound c (omega (arith, count_rows w))

    pub left_in_order : InOrder (take (n - drops) coordinates)
    left_in_order = rw h.held.placed (sound_in_order (after_drops rule drops (read w)) down.sound)

    pub stores : (size : ℕ) → size ≡ front (take (n - drops) coordinates) → Stores w (after_drops rule drops (read w)) (n - drops) total size numbers coordinates kept
    stores size e =
        record {
          shaped = drops_shape rule drops (read w);
          totalled = h.totalled;
          front_is = down.counted.front ∙ ap front (sym h.held.placed) ∙ sym e;
          held = h.held;
        }

  pub storing : archive_rows w 0 ≡ 0 → n ≡ word w 0 → Storing w n (n - drops) numbers coordinates kept
  storing p e =
      let s : Room (n - drops) numbers coordinates kept = room h.held in
      record {
        passes = p;
        counted = e;
        fewer = omega arith;
        numbers_room = s.of_numbers;
        points_room = s.of_points;
        kept_room = s.of_kept;
      }

-- Room for the records, for the zeros behind them and for the header.
module _ {w : List ℕ} {n m : ℕ} {numbers kept : List ℕ} {coordinates : List (List ℕ)} (h : Storing w n m numbers coordinates kept) where
  whole : 8 + 5 * n ≤ length w
  whole = let counted : n ≡ word w 0 = h.counted in omega (arith, (known w h.passes).records_long)

  pub records_room : 8 + 5 * m ≤ length w
  records_room = let fewer : m ≤ n = h.fewer in omega (arith, whole)

  pub zeros_room : (w₁ : List ℕ) → length w₁ ≡ length w → 8 + 5 * m + 5 * (n - m) ≤ length w₁
  zeros_room w₁ e = let fewer : m ≤ n = h.fewer in omega (arith, whole)

  pub header_room : (w₁ w₂ : List ℕ) → length w₁ ≡ length w → length w₂ ≡ length w₁ → 8 ≤ length w₂
  header_room w₁ w₂ e f = omega (arith, whole)

  pub zeros_fit : 5 * (n - m) ≤ 2560
  zeros_fit = let counted : n ≡ word w 0 = h.counted in omega (arith, (known w h.passes).few)

pub stored : {w : List ℕ} {n m : ℕ} {numbers kept : List ℕ} {coordinates : List (List ℕ)} (w₁ w₂ w₃ : List ℕ) (total size : ℕ) → Storing w n m numbers coordinates kept
    → ((rows : List Row) → RowsInColumns rows m numbers coordinates kept → w₁ ≡ put w 8 (records rows))
    → w₂ ≡ put w₁ (8 + 5 * m) (replicate (5 * (n - m)) 0) → w₃ ≡ set (set (set w₂ 0 m) 5 total) 6 size
    → (a : Archive) → Stores w a m total size numbers coordinates kept → w₃ ≡ layout a ++ behind w
stored {w} {n} {m} {numbers} {kept} {coordinates} w₁ w₂ w₃ total size h e₁ e₂ e₃ a s =
    let k = known w h.passes in
    let many : length a.rows ≡ m = s.held.many in
    let long : length (records a.rows) ≡ 5 * m = length_records a.rows ∙ ap (λ i. 5 * i) many in
    let within : word w 0 ≤ word w 1 = k.held_within in
    let whole : 8 + 5 * word w 1 ≤ length w = k.long in
    let counted : n ≡ word w 0 = h.counted in
    let fewer : m ≤ n = h.fewer in
    Stored.stored w (passed w h.passes) w₂ w₃ a m (n - m) a.front s.shaped many (omega arith) (omega arith)
    (e₂
    ∙ ap₂ (λ x i. put x (8 + i) (replicate (5 * (n - m)) 0)) (e₁ a.rows s.held) (sym long)
    ∙ put_then w 8 (records a.rows) (replicate (5 * (n - m)) 0) (omega arith))
    (e₃ ∙ ap₂ (λ k j. set (set (set w₂ 0 m) 5 k) 6 j) (sym s.totalled) (sym s.front_is))
