-- The words that a rearranging writes: records, zeros behind them, and the header.
use Prim.Native.Nat.{ℕ, ◌+◌, ◌-◌, ◌*◌, ◌%◌, ◌≤◌, ◌<◌}
use mathlib.Core.Path.{◌≡◌, refl, sym, ap, ap₂, ◌∙◌}
use mathlib.Core.List.{List, ◌++◌}
use native.Mathlib.Omega.{arith}
use lib.ListN.{length, take, drop, get_or, replicate, length-append, length-map, length-replicate}
use lib.Seq.{take_all}
use Rattle.slices.specs.Put.{put}
use Rattle.slices.proofs.Put.{put_none, put_then, put_ahead, put_front}
use Rattle.sweep.proofs.Front.{getD_mapped}
use Rattle.words.specs.Archive.{Shape, Archive, point, reference}
use Rattle.words.specs.Layout.{word, header_words, header, record_words, records, extent, layout, read, read_shape}
use Rattle.words.specs.Format.{archive_rows}
use Rattle.words.specs.Places.{as_trial, row_at}
use Rattle.words.proofs.Places.{row_at_words, row_at_number}
use Rattle.words.proofs.Reading.{length_records}
use Rattle.calls.proofs.Known.{known}
use Rattle.records.proofs.RowAt.{blank}
use Rattle.records.proofs.Stored.{row_put}
use Rattle.axes.specs.Orders.{place_of, along, rearranged}
use Rattle.axes.specs.Rearranging.{rearranged_trial, rearranged_row, rearranged_shape, rearranged_archive}
use Rattle.axes.specs.Arranging.{rows_by, Arranged}
use Rattle.axes.proofs.Rows.{rearranged_many}

-- A record and a shape with their coordinates rearranged.
pub row_rearranged : (order : ℕ) (w : List ℕ) (place : ℕ) (p : List ℕ) → p ≡ rearranged order (point (row_at w place).trial)
    → record { trial = as_trial (word w (8 + 5 * place)) p; kept = word w (12 + 5 * place) } ≡ rearranged_row order (row_at w place)
unfolding rearranged_row rearranged_trial along place_of
row_rearranged order w place p e =
    let kept : word w (12 + 5 * place) ≡ (row_at w place).kept =
    ap (word w) (let at : 12 + 5 * place ≡ 8 + 5 * place + 4 = omega arith in at) ∙ ap (λ r. r.kept) (row_at_words w place) in
    rw (e, kept, ← row_at_number w place)

pub shape_rearranged : (order : ℕ) (s : Shape) (p : List ℕ) → p ≡ rearranged order (reference s)
    → record { capacity = s.capacity; rx = get_or p 0 0; ry = get_or p 1 0; rz = get_or p 2 0 } ≡ rearranged_shape order s
unfolding rearranged_shape along place_of
shape_rearranged order s p e = rw e

-- ---- the loop that writes records

pub record RecordsPut (w : List ℕ) (order : ℕ) (keys old : List ℕ) (i : ℕ) (now : List ℕ) : Type 0 where
  pub part : i ≤ length keys
  pub long : length now ≡ length old
  pub is : now ≡ put old 8 (records (take i (rows_by w order keys)))

pub records_none : (w : List ℕ) (order : ℕ) (keys old : List ℕ) → RecordsPut w order keys old 0 old
unfolding records
records_none w order keys old = record { part = omega arith; long = refl; is = sym (put_none old 8) }

length_rows : (w : List ℕ) (order : ℕ) (keys : List ℕ) → length (rows_by w order keys) ≡ length keys
unfolding rows_by
length_rows w order keys = length-map keys _

row_by : (w : List ℕ) (order : ℕ) (keys : List ℕ) (i : ℕ) → i < length keys → get_or (rows_by w order keys) i blank ≡ rearranged_row order (row_at w (get_or keys i 0 % 512))
unfolding rows_by
row_by w order keys i l = getD_mapped (λ key. rearranged_row order (row_at w (key % 512))) 0 blank keys i l

pub records_more : {w : List ℕ} {order : ℕ} {keys old : List ℕ} {i : ℕ} {now : List ℕ} (after : List ℕ) → RecordsPut w order keys old i now → i < length keys
    → 8 + 5 * length keys ≤ length old
    → after ≡ put now (8 + 5 * i) (record_words (rearranged_row order (row_at w (get_or keys i 0 % 512)))) → length after ≡ length now
    → RecordsPut w order keys old (i + 1) after
records_more {w} {order} {keys} {old} {i} {now} after h l room e same =
    record {
      part = omega arith;
      long = same ∙ h.long;
      is =
          row_put old now after (rows_by w order keys) i blank (omega (arith, length_rows w order keys)) (omega (arith, length_rows w order keys)) h.is
          (e ∙ ap (λ r. put now (8 + 5 * i) (record_words r)) (sym (row_by w order keys i l)));
    }

pub records_end : {w : List ℕ} {order : ℕ} {keys old : List ℕ} {i : ℕ} {now : List ℕ} → RecordsPut w order keys old i now → length keys ≤ i → now ≡ put old 8 (records (rows_by w order keys))
records_end {w} {order} {keys} {old} {i} {now} h l =
    h.is ∙ ap (λ rows. put old 8 (records rows)) (take_all i (rows_by w order keys) (omega (arith, length_rows w order keys)))

-- ---- the whole

-- Records, zeros behind them, and then the header: the layout, with the words behind as they were.
pub stored_apart : (old w₁ w₂ w₃ : List ℕ) (a : Archive) (n : ℕ) → length a.rows ≡ n → n ≤ a.shape.capacity → extent a.shape.capacity ≤ length old
    → w₁ ≡ put old 8 (records a.rows)
    → w₂ ≡ put w₁ (8 + 5 * n) (replicate (5 * (a.shape.capacity - n)) 0)
    → w₃ ≡ put w₂ 0 (header_words n a.shape a.sum a.front)
    → w₃ ≡ layout a ++ drop (extent a.shape.capacity) old
unfolding layout header extent
stored_apart old w₁ w₂ w₃ a n many fits room e₁ e₂ e₃ =
    let rows : List ℕ = records a.rows in
    let none : List ℕ = replicate (5 * (a.shape.capacity - n)) 0 in
    let head : List ℕ = header_words n a.shape a.sum a.front in
    let size : length rows ≡ 5 * n = length_records a.rows ∙ ap (λ m. 5 * m) many in
    let zeros : length none ≡ 5 * (a.shape.capacity - n) = length-replicate {A = ℕ} (5 * (a.shape.capacity - n)) 0 in
    let body : length (rows ++ none) ≡ 5 * a.shape.capacity = omega (arith, length-append rows none) in
    let all : length (head ++ (rows ++ none)) ≡ 8 + 5 * a.shape.capacity = omega (arith, length-append head (rows ++ none)) in
    e₃
    ∙ ap (λ x. put x 0 head) (e₂ ∙ ap₂ (λ x m. put x (8 + m) none) e₁ (sym size) ∙ put_then old 8 rows none (omega arith))
    ∙ put_ahead old 0 (rows ++ none) head (omega arith)
    ∙ put_front old (head ++ (rows ++ none))
    ∙ ap₂ (λ m k. (header_words m a.shape a.sum a.front ++ (rows ++ replicate (5 * (a.shape.capacity - m)) 0)) ++ drop k old) (sym many) all

-- What the calls write, one after the other.
pub archive_stored : (w : List ℕ) (order : ℕ) (keys second w₁ w₂ w₃ : List ℕ) (s : Shape) → archive_rows w 0 ≡ 0 → extent (word w 1) ≤ length second
    → Arranged w order keys
    → w₁ ≡ put second 8 (records (rows_by w order keys))
    → w₂ ≡ put w₁ (8 + 5 * word w 0) (replicate (5 * (word w 1 - word w 0)) 0)
    → s ≡ rearranged_shape order (read w).shape
    → w₃ ≡ put w₂ 0 (header_words (word w 0) s (word w 5) (word w 6))
    → w₃ ≡ layout (rearranged_archive order (read w)) ++ drop (extent (word w 1)) second
unfolding rearranged_archive rearranged_shape read read_shape
archive_stored w order keys second w₁ w₂ w₃ s pass room arranged e₁ e₂ es e₃ =
    stored_apart second w₁ w₂ w₃ (rearranged_archive order (read w)) (word w 0) (rearranged_many w order) (known w pass).held_within room
    (e₁ ∙ ap (λ rows. put second 8 (records rows)) arranged.rows) e₂
    (e₃ ∙ ap (λ x. put w₂ 0 (header_words (word w 0) x (word w 5) (word w 6))) es)
