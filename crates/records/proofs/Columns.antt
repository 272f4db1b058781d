-- Laws of columns: every fifth word is a column of the records read there.
use Prim.Native.Nat.{ℕ, zero, suc, ◌+◌, ◌*◌, ◌≤◌, ◌<◌, ◌-◌}
use mathlib.Core.Path.{◌≡◌, refl, sym, ap, ◌∙◌, ap₂}
use mathlib.Core.List.{List, ◌∷◌, ◌++◌, []}
use native.Mathlib.Omega.{arith}
use lib.ListN.{length, take, drop, get_or}
use lib.Seq.{get_or-drop, drop-drop}
use Rattle.records.specs.Columns.{fifths, field_of, column, rekept}
use native.Mathlib.Nat.{add_comm, sub-zero}
use Rattle.words.specs.Archive.{Row}
use Rattle.words.specs.Layout.{record_words, read_row, read_rows}

pub length_fifths : (n : ℕ) (w : List ℕ) → length (fifths n w) ≡ n
unfolding fifths
length_fifths zero w = refl
length_fifths (suc n) w = ap suc (length_fifths n (drop 5 w))

pub fifths_more : (n : ℕ) (w : List ℕ) → fifths (suc n) w ≡ fifths n w ++ (get_or w (5 * n) 0 ∷ [])
unfolding fifths
fifths_more zero w = refl
fifths_more (suc n) w =
    let shifted : get_or (drop 5 w) (5 * n) 0 ≡ get_or w (5 * suc n) 0 =
    get_or-drop 5 w (5 * n) 0 ∙ ap (λ k. get_or w k 0) (let e : 5 + 5 * n ≡ 5 * suc n = omega arith in e) in
    ap (λ l. get_or w 0 0 ∷ l) (fifths_more n (drop 5 w) ∙ ap (λ k. fifths n (drop 5 w) ++ (k ∷ [])) shifted)

field_read : (k : ℕ) (w : List ℕ) → k < 5 → field_of k (read_row w) ≡ get_or w k 0
unfolding field_of read_row record_words
field_read zero w l = refl
field_read (suc zero) w l = refl
field_read (suc (suc zero)) w l = refl
field_read (suc (suc (suc zero))) w l = refl
field_read (suc (suc (suc (suc zero)))) w l = refl
field_read (suc (suc (suc (suc (suc k))))) w l = absurd (let no' : ⊥ = omega arith in no')

pub fifths_column : (k n : ℕ) (w : List ℕ) → k < 5 → fifths n (drop k w) ≡ column k (read_rows n w)
unfolding fifths column read_rows
fifths_column k zero w l = refl
fifths_column k (suc n) w l =
    let here : get_or (drop k w) 0 0 ≡ field_of k (read_row w) =
    get_or-drop k w 0 0 ∙ ap (λ i. get_or w i 0) (let e : k + 0 ≡ k = omega arith in e) ∙ sym (field_read k w l) in
    let there : drop 5 (drop k w) ≡ drop k (drop 5 w) =
    drop-drop 5 k w ∙ ap (λ i. drop i w) (add_comm k 5) ∙ sym (drop-drop k 5 w) in
    ap₂ (λ h t. h ∷ t) here (ap (fifths n) there ∙ fifths_column k n (drop 5 w) l)

-- The first k records, and those behind them.
pub read_rows_take : (k n : ℕ) (w : List ℕ) → k ≤ n → take k (read_rows n w) ≡ read_rows k w
unfolding read_rows
read_rows_take zero n w l = refl
read_rows_take (suc k) zero w l = absurd (let no' : ⊥ = omega arith in no')
read_rows_take (suc k) (suc n) w l = ap (λ rows. read_row w ∷ rows) (read_rows_take k n (drop 5 w) (omega arith))

pub read_rows_drop : (k n : ℕ) (w : List ℕ) → k ≤ n → drop k (read_rows n w) ≡ read_rows (n - k) (drop (5 * k) w)
unfolding read_rows
read_rows_drop zero n w l = ap (λ m. read_rows m w) (sym (sub-zero n))
read_rows_drop (suc k) zero w l = absurd (let no' : ⊥ = omega arith in no')
read_rows_drop (suc k) (suc n) w l =
    read_rows_drop k n (drop 5 w) (omega arith)
    ∙ ap₂ (λ m v. read_rows m v) (let e : n - k ≡ suc n - suc k = omega arith in e) (drop-drop (5 * k) 5 w ∙ ap (λ m. drop m w) (let e : 5 + 5 * k ≡ 5 * suc k = omega arith in e))

pub column_append : (k : ℕ) (rows more : List Row) → column k (rows ++ more) ≡ column k rows ++ column k more
unfolding column
column_append k [] more = refl
column_append k (r ∷ rows) more = ap (λ l. field_of k r ∷ l) (column_append k rows more)

pub length_column : (k : ℕ) (rows : List Row) → length (column k rows) ≡ length rows
unfolding column
length_column k [] = refl
length_column k (r ∷ rows) = ap suc (length_column k rows)

pub column_at : (k : ℕ) (rows : List Row) (i : ℕ) (d : Row) → i < length rows → get_or (column k rows) i 0 ≡ field_of k (get_or rows i d)
unfolding column
column_at k [] i d l = absurd (let no' : ⊥ = omega arith in no')
column_at k (r ∷ rows) zero d l = refl
column_at k (r ∷ rows) (suc i) d l = column_at k rows i d (omega arith)

pub length_rekept : (rows : List Row) (vs : List ℕ) → length (rekept rows vs) ≡ length rows
unfolding rekept
length_rekept [] vs = refl
length_rekept (r ∷ rows) [] = refl
length_rekept (r ∷ rows) (v ∷ vs) = ap suc (length_rekept rows vs)

-- A column of some of the records, from the words.
pub column_front : (k m n : ℕ) (w : List ℕ) → k < 5 → m ≤ n → fifths m (drop (8 + k) w) ≡ column k (take m (read_rows n (drop 8 w)))
column_front k m n w l h =
    ap (fifths m) (sym (drop-drop k 8 w)) ∙ fifths_column k m (drop 8 w) l ∙ ap (column k) (sym (read_rows_take m n (drop 8 w) h))

pub column_back : (k m n : ℕ) (w : List ℕ) → k < 5 → m < n → fifths (n - 1 - m) (drop (13 + 5 * m + k) w) ≡ column k (drop (suc m) (read_rows n (drop 8 w)))
column_back k m n w l h =
    let place : 13 + 5 * m + k ≡ 8 + 5 * suc m + k = omega arith in
    let size : n - 1 - m ≡ n - suc m = omega arith in
    ap₂ (λ c v. fifths c v) size (ap (λ i. drop i w) place ∙ sym (drop-drop k (8 + 5 * suc m) w))
    ∙ fifths_column k (n - suc m) (drop (8 + 5 * suc m) w) l
    ∙ ap (column k) (ap (read_rows (n - suc m)) (sym (drop-drop (5 * suc m) 8 w)) ∙ sym (read_rows_drop (suc m) n (drop 8 w) h))
