-- Words that are a header, records and what lies behind them: records put into them and read again, and the layout that
-- an update leaves.
use Prim.Native.Nat.{ℕ, ◌+◌, ◌-◌, ◌*◌, ◌≤◌, ◌<◌}
use mathlib.Core.Path.{◌≡◌, refl, sym, ap, ap₂, ◌∙◌}
use mathlib.Core.List.{List, ◌∷◌, ◌++◌, append-nil, append_assoc, []}
use native.Mathlib.Numerals.{add-one}
use native.Mathlib.Omega.{arith}
use lib.ListN.{length, take, drop, get_or, set, replicate, length-append, length-replicate, replicate-append-replicate}
use lib.Seq.{take_at, drop_at, drop-drop, length-take-le, take-suc}
use Rattle.slices.specs.Put.{put}
use Rattle.slices.proofs.Put.{drop_put, put_then}
use Rattle.words.specs.Archive.{Row, Archive}
use Rattle.words.specs.Layout.{header, record_words, records, layout, read_rows, read_shape, read, word, behind}
use Rattle.words.specs.Places.{rows_before}
use Rattle.hypervolume.specs.Front.{front}
use Rattle.words.specs.Format.{archive_rows}
use Rattle.words.proofs.Reading.{length_records, records_append, read_records, read_layout, behind_layout}
use Rattle.words.proofs.Passed.{Passed, Sound, passed, sound_passes}
use Rattle.calls.specs.Calls.{held_points, renewed}
use Rattle.calls.proofs.Known.{count_rows}
use Rattle.records.specs.Fronts.{fronted}

-- Records put from word 8 on are read again.
pub rows_put : (w : List ℕ) (rows : List Row) (rest : List ℕ) (n : ℕ) → 8 + length (records rows ++ rest) ≤ length w → length rows ≡ n
    → rows_before (put w 8 (records rows ++ rest)) n ≡ rows
rows_put w rows rest n room e =
    ap (read_rows n) (drop_put w 8 (records rows ++ rest) room ∙ append_assoc (records rows) rest (drop (8 + length (records rows ++ rest)) w))
    ∙ ap (λ m. read_rows m (records rows ++ (rest ++ drop (8 + length (records rows ++ rest)) w))) (sym e)
    ∙ read_records rows (rest ++ drop (8 + length (records rows ++ rest)) w)

-- One record more, put behind those that are put from word 8 on.
pub row_put : (old now after : List ℕ) (rows : List Row) (i : ℕ) (d : Row) → i < length rows → 8 + 5 * length rows ≤ length old
    → now ≡ put old 8 (records (take i rows)) → after ≡ put now (8 + 5 * i) (record_words (get_or rows i d))
    → after ≡ put old 8 (records (take (i + 1) rows))
unfolding records
row_put old now after rows i d l room is e =
    let size : length (records (take i rows)) ≡ 5 * i = length_records (take i rows) ∙ ap (λ m. 5 * m) (length-take-le i rows (omega arith)) in
    let grown : records (take i rows) ++ record_words (get_or rows i d) ≡ records (take (i + 1) rows) =
    sym
    (ap records (ap (λ m. take m rows) (add-one i) ∙ take-suc rows i d l)
    ∙ records_append (take i rows) (get_or rows i d ∷ [])
    ∙ ap (λ x. records (take i rows) ++ x) (append-nil (record_words (get_or rows i d)))) in
    e
    ∙ ap₂ (λ x m. put x (8 + m) (record_words (get_or rows i d))) is (sym size)
    ∙ put_then old 8 (records (take i rows)) (record_words (get_or rows i d)) (omega arith)
    ∙ ap (put old 8) grown

length_header : (a : Archive) → length (header a) ≡ 8
unfolding header
length_header a = refl

-- A layout, taken apart.
layout_laid : (a : Archive) (b : List ℕ) → layout a ++ b ≡ header a ++ (records a.rows ++ (replicate (5 * (a.shape.capacity - length a.rows)) 0 ++ b))
unfolding layout
layout_laid a b =
    append_assoc (header a) (records a.rows ++ replicate (5 * (a.shape.capacity - length a.rows)) 0) b
    ∙ ap (λ l. header a ++ l) (append_assoc (records a.rows) (replicate (5 * (a.shape.capacity - length a.rows)) 0) b)

-- The header with another count and another total.
header_set : (a c : Archive) (n s : ℕ) (tail : List ℕ) → c.shape ≡ a.shape → length c.rows ≡ n → c.sum ≡ s → set (set (header a ++ tail) 0 n) 5 s ≡ header (fronted a.front c) ++ tail
unfolding header
header_set a c n s tail e f g = rw (e, f, g)

-- The front written in a layout.
set_front : (a : Archive) (n : ℕ) (b : List ℕ) → set (layout a ++ b) 6 n ≡ layout (fronted n a) ++ b
unfolding layout header
set_front a n b = refl

-- Zeros, part of them dropped or put before others.
zeros_dropped : (m n k : ℕ) (b : List ℕ) → m + n ≡ k → drop m (replicate k 0 ++ b) ≡ replicate n 0 ++ b
zeros_dropped m n k b e =
    ap (λ i. drop m (replicate i 0 ++ b)) (sym e)
    ∙ ap (λ l. drop m (l ++ b)) (sym (replicate-append-replicate m n 0))
    ∙ ap (drop m) (append_assoc (replicate m 0) (replicate n 0) b)
    ∙ drop_at (replicate m 0) (replicate n 0 ++ b) m (length-replicate {A = ℕ} m 0)

zeros_more : (m n k : ℕ) (b : List ℕ) → m + n ≡ k → replicate m 0 ++ (replicate n 0 ++ b) ≡ replicate k 0 ++ b
zeros_more m n k b e =
    sym (append_assoc (replicate m 0) (replicate n 0) b)
    ∙ ap (λ l. l ++ b) (replicate-append-replicate m n 0 ∙ ap (λ i. replicate i 0) e)

-- Words that pass, before the records and behind them.
module _ (w : List ℕ) (h : Passed w) where
  start : w ≡ header (read w) ++ (records (read w).rows ++ (replicate (5 * (word w 1 - word w 0)) 0 ++ behind w))
  unfolding read read_shape
  start =
      h.laid
      ∙ layout_laid (read w) (behind w)
      ∙ ap (λ n. header (read w) ++ (records (read w).rows ++ (replicate (5 * (word w 1 - n)) 0 ++ behind w))) (count_rows w)

  head : take 8 w ≡ header (read w)
  head =
      ap (take 8) start
      ∙ take_at (header (read w)) (records (read w).rows ++ (replicate (5 * (word w 1 - word w 0)) 0 ++ behind w)) 8 (length_header (read w))

  back : (n : ℕ) → word w 0 ≤ n → n ≤ word w 1 → drop (8 + 5 * n) w ≡ replicate (5 * (word w 1 - n)) 0 ++ behind w
  back n l m =
      let size : length (records (read w).rows) ≡ 5 * word w 0 = length_records (read w).rows ∙ ap (λ k. 5 * k) (count_rows w) in
      let zeros = replicate (5 * (word w 1 - word w 0)) 0 ++ behind w in
      ap (λ k. drop k w) (let s : 8 + 5 * n ≡ 8 + (5 * word w 0 + 5 * (n - word w 0)) = omega arith in s)
      ∙ sym (drop-drop (5 * word w 0 + 5 * (n - word w 0)) 8 w)
      ∙ ap (drop (5 * word w 0 + 5 * (n - word w 0))) (ap (drop 8) start ∙ drop_at (header (read w)) (records (read w).rows ++ zeros) 8 (length_header (read w)))
      ∙ sym (drop-drop (5 * (n - word w 0)) (5 * word w 0) (records (read w).rows ++ zeros))
      ∙ ap (drop (5 * (n - word w 0))) (drop_at (records (read w).rows) zeros (5 * word w 0) size)
      ∙ zeros_dropped (5 * (n - word w 0)) (5 * (word w 1 - n)) (5 * (word w 1 - word w 0)) (behind w) (omega arith)

  -- What an update leaves: the records of the new archive, with as many zeros behind them as cover the old ones, and then the
  -- count and the total; the front is as it was.
  pub stored_beside : (w₂ w₃ : List ℕ) (c : Archive) (m j : ℕ) → c.shape ≡ (read w).shape → length c.rows ≡ m → word w 0 ≤ m + j → m + j ≤ word w 1
      → w₂ ≡ put w 8 (records c.rows ++ replicate (5 * j) 0)
      → w₃ ≡ set (set w₂ 0 m) 5 c.sum
      → w₃ ≡ layout (fronted (read w).front c) ++ behind w
  unfolding put read read_shape
  stored_beside w₂ w₃ c m j shaped many covers fits e₂ e₃ =
      let long : length (records c.rows ++ replicate (5 * j) 0) ≡ 5 * (m + j) =
      length-append (records c.rows) (replicate (5 * j) 0)
      ∙ ap₂ ◌+◌ (length_records c.rows ∙ ap (λ k. 5 * k) many) (length-replicate {A = ℕ} (5 * j) 0)
      ∙ (let s : 5 * m + 5 * j ≡ 5 * (m + j) = omega arith in s) in
      let rest : 5 * (word w 1 - m) ≡ 5 * (c.shape.capacity - length c.rows) = ap₂ (λ a b. 5 * (a - b)) (sym (ap (λ s. s.capacity) shaped)) (sym many) in
      let tail : replicate (5 * j) 0 ++ drop (8 + length (records c.rows ++ replicate (5 * j) 0)) w ≡ replicate (5 * (c.shape.capacity - length c.rows)) 0 ++ behind w =
      ap (λ k. replicate (5 * j) 0 ++ drop (8 + k) w) long
      ∙ ap (λ l. replicate (5 * j) 0 ++ l) (back (m + j) covers fits)
      ∙ zeros_more (5 * j) (5 * (word w 1 - (m + j))) (5 * (word w 1 - m)) (behind w) (omega arith)
      ∙ ap (λ k. replicate k 0 ++ behind w) rest in
      let second : w₂ ≡ header (read w) ++ (records c.rows ++ (replicate (5 * (c.shape.capacity - length c.rows)) 0 ++ behind w)) =
      e₂
      ∙ ap₂ (λ a b. a ++ b) head (append_assoc (records c.rows) (replicate (5 * j) 0) _)
      ∙ ap (λ l. header (read w) ++ (records c.rows ++ l)) tail in
      e₃
      ∙ ap (λ x. set (set x 0 m) 5 c.sum) second
      ∙ header_set (read w) c m c.sum _ shaped many refl
      ∙ sym (layout_laid (fronted (read w).front c) (behind w))

  -- And then a front.
  pub stored : (w₂ w₃ : List ℕ) (c : Archive) (m j k : ℕ) → c.shape ≡ (read w).shape → length c.rows ≡ m → word w 0 ≤ m + j → m + j ≤ word w 1
      → w₂ ≡ put w 8 (records c.rows ++ replicate (5 * j) 0)
      → w₃ ≡ set (set (set w₂ 0 m) 5 c.sum) 6 k
      → w₃ ≡ layout (fronted k c) ++ behind w
  stored w₂ w₃ c m j k shaped many covers fits e₂ e₃ =
      e₃ ∙ ap (λ x. set x 6 k) (stored_beside w₂ _ c m j shaped many covers fits e₂ refl) ∙ set_front (fronted (read w).front c) k (behind w)

-- Counted anew and written, in words that pass.
pub front_written : (w : List ℕ) (n : ℕ) → archive_rows w 0 ≡ 0 → n ≡ front (held_points (read w)) → set w 6 n ≡ layout (renewed (read w).shape (read w).sum (read w).rows) ++ behind w
front_written w n p e =
    ap (λ x. set x 6 n) (passed w p).laid ∙ set_front (read w) n (behind w) ∙ ap (λ k. layout (fronted k (read w)) ++ behind w) e

-- What an update leaves passes rows 1 to 3 with any front that does, and with the front counted it is the new archive.
module _ (w w₁ : List ℕ) (c : Archive) (k : ℕ) (s : Sound c) (few : k ≤ length c.rows) (e : w₁ ≡ layout (fronted k c) ++ behind w) where
  sound : Sound (fronted k c)
  sound =
      record {
        shaped = s.shaped;
        within_box = s.within_box;
        front_within = few;
        held_within = s.held_within;
        rows_fit = s.rows_fit;
        in_order = s.in_order;
        apart = s.apart;
      }

  pub update_passes : archive_rows w₁ 0 ≡ 0
  update_passes = rw e (sound_passes (fronted k c) (behind w) 0 sound)

  pub update_read : read w₁ ≡ fronted k c
  update_read = ap read e ∙ read_layout (fronted k c) (behind w)

  pub update_behind : behind w₁ ≡ behind w
  update_behind = ap behind e ∙ behind_layout (fronted k c) (behind w) s.held_within

  pub update_renewed : (w₂ : List ℕ) → w₂ ≡ layout (renewed (read w₁).shape (read w₁).sum (read w₁).rows) ++ behind w₁ → c.front ≡ front (held_points c) → w₂ ≡ layout c ++ behind w
  update_renewed w₂ f g =
      f ∙ ap₂ (λ a b. layout (renewed a.shape a.sum a.rows) ++ b) update_read update_behind
      ∙ ap (λ n. layout (fronted n c) ++ behind w) (sym g)
