-- Laws of layout and reading: reading a layout gives the archive back, the words behind stay behind, and a
-- record read at a place is the record read at the front of what lies from there on.
use Prim.Native.Nat.{ℕ, zero, suc, ◌+◌, ◌-◌, ◌*◌, ◌≤◌, ◌<◌}
use mathlib.Core.Path.{◌≡◌, refl, sym, ap, ◌∙◌}
use mathlib.Core.List.{List, ◌∷◌, ◌++◌, append_assoc, []}
use native.Mathlib.Nat.{suc-add, zero-add}
use native.Mathlib.Omega.{arith}
use lib.ListN.{length, get_or, take, drop, replicate, length-append, length-drop, length-replicate}
use lib.Seq.{drop_at, drop-cons, drop-drop, take-add}
use Rattle.words.specs.Archive.{Row, Archive}
use Rattle.words.specs.Layout.{header, record_words, records, extent, layout, word, read_row, read_rows, read_shape, read, behind}

-- Records one list behind the other.
pub records_append : (rows more : List Row) → records (rows ++ more) ≡ records rows ++ records more
unfolding records
records_append [] more = refl
records_append (r ∷ rows) more =
    ap (λ l. record_words r ++ l) (records_append rows more)
    ∙ sym (append_assoc (record_words r) (records rows) (records more))

-- Five words to a record.
pub length_records : (rows : List Row) → length (records rows) ≡ 5 * length rows
unfolding records record_words
length_records [] = refl
length_records (r ∷ rows) =
    let later : length (records rows) ≡ 5 * length rows = length_records rows in
    omega arith

pub length_read_rows : (n : ℕ) (w : List ℕ) → length (read_rows n w) ≡ n
unfolding read_rows
length_read_rows zero w = refl
length_read_rows (suc n) w = ap suc (length_read_rows n (drop 5 w))

-- Records read one stretch after the other.
pub read_rows_append : (m n : ℕ) (w : List ℕ) → read_rows (m + n) w ≡ read_rows m w ++ read_rows n (drop (5 * m) w)
unfolding read_rows
read_rows_append zero n w = rw zero-add
read_rows_append (suc m) n w =
    let more : 5 * suc m ≡ 5 + 5 * m = omega arith in
    rw (suc-add m n, more, ← drop-drop (5 * m) 5 w, read_rows_append m n (drop 5 w))

-- The record at a place.
pub read_rows_at : (n i : ℕ) (w : List ℕ) (d : Row) → i < n → get_or (read_rows n w) i d ≡ read_row (drop (5 * i) w)
unfolding read_rows
read_rows_at zero i w d l = absurd (let no : ⊥ = omega arith in no)
read_rows_at (suc n) zero w d l = refl
read_rows_at (suc n) (suc i) w d l =
    let more : 5 * suc i ≡ 5 + 5 * i = omega arith in
    read_rows_at n i (drop 5 w) d (omega arith) ∙ ap read_row (drop-drop (5 * i) 5 w ∙ ap (λ k. drop k w) (sym more))

-- The n words from place i on, one by one.
unfoldable pub stretch : ℕ → ℕ → List ℕ → List ℕ
stretch zero i w = []
stretch (suc n) i w = word w i ∷ stretch n (suc i) w

pub take_stretch : (n i : ℕ) (w : List ℕ) → i + n ≤ length w → take n (drop i w) ≡ stretch n i w
unfolding stretch
take_stretch zero i w l = refl
take_stretch (suc n) i w l = rw (drop-cons w i 0 (omega arith), take_stretch n (suc i) w (omega arith))

-- A record read from five words is laid out as those words.
pub record_words_read : (w : List ℕ) → 5 ≤ length w → record_words (read_row w) ≡ take 5 w
unfolding record_words read_row stretch
record_words_read w l = sym (take_stretch 5 0 w (omega arith))

-- The header of words whose word 7 is zero.
pub header_read : (w : List ℕ) → 8 ≤ length w → word w 7 ≡ 0 → header (read w) ≡ take 8 w
unfolding header read read_shape stretch
header_read w l seven = sym (rw (take_stretch 8 0 w (omega arith), seven, length_read_rows (word w 0) (drop 8 w)))

-- Records read from words are laid out as those words.
pub records_read : (n : ℕ) (w : List ℕ) → 5 * n ≤ length w → records (read_rows n w) ≡ take (5 * n) w
unfolding records read_rows
records_read zero w l = refl
records_read (suc n) w l =
    let more : 5 * suc n ≡ 5 + 5 * n = omega arith in
    let left : 5 * n ≤ length (drop 5 w) = omega (arith, length-drop 5 w) in
    rw (more, take-add 5 (5 * n) w, record_words_read w (omega arith), records_read n (drop 5 w) left)

-- Reading what was laid out.
pub read_records : (rows : List Row) (b : List ℕ) → read_rows (length rows) (records rows ++ b) ≡ rows
unfolding read_rows read_row records record_words
read_records [] b = refl
read_records (r ∷ rows) b = ap (λ l. r ∷ l) (read_records rows b)

-- Reading a layout gives the archive back.
pub read_layout : (a : Archive) (b : List ℕ) → read (layout a ++ b) ≡ a
unfolding read read_shape layout header
read_layout a b =
    ap (λ l. record { shape = a.shape; sum = a.sum; front = a.front; rows = l })
    (ap (λ w. read_rows (length a.rows) w) (append_assoc (records a.rows) _ b) ∙ read_records a.rows _)

pub length_layout : (a : Archive) → length a.rows ≤ a.shape.capacity → length (layout a) ≡ extent a.shape.capacity
unfolding layout header extent
length_layout a l =
    let rest : length (records a.rows ++ replicate (5 * (a.shape.capacity - length a.rows)) 0)
    ≡ 5 * length a.rows + 5 * (a.shape.capacity - length a.rows) =
    simp (length-append, length_records, length-replicate) in
    omega arith

-- The words behind a layout.
pub behind_layout : (a : Archive) (b : List ℕ) → length a.rows ≤ a.shape.capacity → behind (layout a ++ b) ≡ b
unfolding behind layout header
behind_layout a b l = drop_at (layout a) b (extent a.shape.capacity) (length_layout a l)
