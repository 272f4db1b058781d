-- Contributions in the words: read and written one by one, said of all of them.
use Prim.Native.Nat.{ℕ, zero, suc, ◌+◌, ◌-◌, ◌*◌, ◌≤◌, ◌<◌, zero-le}
use mathlib.Core.Path.{◌≡◌, refl, sym, ap, ap₂, ◌∙◌}
use mathlib.Core.List.{List, ◌∷◌, ◌++◌, []}
use native.Mathlib.Omega.{arith}
use lib.Dec.{ltb}
use lib.ListN.{length, take, drop, set, get_or, length-drop, length-set}
use lib.Seq.{set-append_left, length-take-le}
use borrow.Author.Tests.{le-ltb}
use Rattle.slices.specs.Put.{put}
use Rattle.slices.specs.Amounts.{moved, Each, Placed, amounts_at}
use Rattle.slices.proofs.Put.{put_inside, put_same}
use Rattle.slices.proofs.PlacedLoops.{Judging, judging_none, Placing, placing_none, placing_here, placing_more, placing_end}
use Rattle.words.specs.Archive.{Row}
use Rattle.words.specs.Layout.{record_words, records, read_rows}
use Rattle.words.proofs.Reading.{length_records, length_read_rows, records_read}
use Rattle.records.specs.AtPlaces.{StepsBy}
use Rattle.records.specs.Columns.{field_of, column, leave_out, place_but, rekept}
use Rattle.records.proofs.Columns.{length_column, column_at, length_rekept}
use Rattle.records.proofs.LeaveOut.{length_leave_out, leave_at, place_but_below}
use Rattle.records.proofs.RowAt.{blank}

-- A word set in a part.
set_behind : (xs ys : List ℕ) (n i v : ℕ) → length xs ≡ n → set (xs ++ ys) (n + i) v ≡ xs ++ set ys i v
set_behind [] ys n i v e = ap (λ k. set ys k v) (let z : n + i ≡ i = omega arith in z)
set_behind (x ∷ xs) ys zero i v e = absurd (let no' : ⊥ = omega arith in no')
set_behind (x ∷ xs) ys (suc n) i v e =
    ap (λ k. set (x ∷ (xs ++ ys)) k v) (let z : suc n + i ≡ suc (n + i) = omega arith in z)
    ∙ ap (λ m. x ∷ m) (set_behind xs ys n i v (let f : length xs ≡ n = omega arith in f))

set_put : (l : List ℕ) (at : ℕ) (new : List ℕ) (i v : ℕ) → at ≤ length l → i < length new
    → set (put l at new) (at + i) v ≡ put l at (set new i v)
unfolding put
set_put l at new i v h l₂ =
    set_behind (take at l) (new ++ drop (at + length new) l) at i v (length-take-le at l h)
    ∙ ap (λ m. take at l ++ m) (set-append_left new (drop (at + length new) l) i v l₂)
    ∙ ap (λ k. take at l ++ (set new i v ++ drop (at + k) l)) (sym (length-set new i v))

-- The last of five words of a record, further on.
five_on : (p : ℕ) → 4 + 5 * suc p ≡ suc (suc (suc (suc (suc (4 + 5 * p)))))
five_on p = omega arith

-- Records with these contributions: the fifth word of the record at place p is the p-th of them.
kept_at : (rows : List Row) (vs : List ℕ) (p : ℕ) → length vs ≡ length rows → p < length rows
    → get_or (records (rekept rows vs)) (4 + 5 * p) 0 ≡ get_or vs p 0
unfolding records record_words rekept
kept_at [] vs p e l = absurd (let no' : ⊥ = omega arith in no')
kept_at (r ∷ rows) [] p e l = absurd (let no' : ⊥ = omega arith in no')
kept_at (r ∷ rows) (v ∷ vs) zero e l = refl
kept_at (r ∷ rows) (v ∷ vs) (suc p) e l =
    rw (five_on p) (kept_at rows vs p (let f : length vs ≡ length rows = omega arith in f) (omega arith))

kept_set : (rows : List Row) (vs : List ℕ) (p v : ℕ) → length vs ≡ length rows → p < length rows
    → set (records (rekept rows vs)) (4 + 5 * p) v ≡ records (rekept rows (set vs p v))
unfolding records record_words rekept
kept_set [] vs p v e l = absurd (let no' : ⊥ = omega arith in no')
kept_set (r ∷ rows) [] p v e l = absurd (let no' : ⊥ = omega arith in no')
kept_set (r ∷ rows) (u ∷ vs) zero v e l = refl
kept_set (r ∷ rows) (u ∷ vs) (suc p) v e l =
    rw (five_on p)
    (ap (λ m. r.trial.number ∷ r.trial.x ∷ r.trial.y ∷ r.trial.z ∷ u ∷ m)
    (kept_set rows vs p v (let f : length vs ≡ length rows = omega arith in f) (omega arith)))

-- Their own contributions change nothing.
pub rekept_own : (rows : List Row) → rekept rows (column 4 rows) ≡ rows
unfolding rekept column field_of record_words
rekept_own [] = refl
rekept_own (r ∷ rows) = ap (λ l. r ∷ l) (rekept_own rows)

-- Words with these contributions in the first n records.
pub record Kept (old : List ℕ) (n : ℕ) (values now : List ℕ) : Type 0 where
  pub room : 8 + 5 * n ≤ length old
  pub many : length values ≡ n
  pub long : length now ≡ length old
  pub is : now ≡ put old 8 (records (rekept (read_rows n (drop 8 old)) values))

pub kept_none : (old : List ℕ) (n : ℕ) → 8 + 5 * n ≤ length old → Kept old n (column 4 (read_rows n (drop 8 old))) old
kept_none old n room =
    let left : length (drop 8 old) ≡ length old - 8 = length-drop 8 old in
    record {
      room = room;
      many = length_column 4 (read_rows n (drop 8 old)) ∙ length_read_rows n (drop 8 old);
      long = refl;
      is =
          sym
          (ap (λ rows. put old 8 (records rows)) (rekept_own (read_rows n (drop 8 old)))
          ∙ ap (put old 8) (records_read n (drop 8 old) (omega arith))
          ∙ put_same old 8 (5 * n) room);
    }

module _ {old : List ℕ} {n : ℕ} {values now : List ℕ} (h : Kept old n values now) where
  rows_long : length (read_rows n (drop 8 old)) ≡ n
  rows_long = length_read_rows n (drop 8 old)

  words_long : length (records (rekept (read_rows n (drop 8 old)) values)) ≡ 5 * n
  words_long =
      length_records (rekept (read_rows n (drop 8 old)) values)
      ∙ ap (λ k. 5 * k) (length_rekept (read_rows n (drop 8 old)) values ∙ rows_long)

  pub kept_word : (p : ℕ) → p < n → get_or now (12 + 5 * p) 0 ≡ get_or values p 0
  kept_word p l =
      let room : 8 + 5 * n ≤ length old = h.room in
      let new : List ℕ = records (rekept (read_rows n (drop 8 old)) values) in
      let place : 12 + 5 * p ≡ 8 + (4 + 5 * p) = omega arith in
      ap₂ (λ m i. get_or m i 0) h.is place
      ∙ put_inside old 8 new (omega (arith, words_long)) (4 + 5 * p) (omega (arith, words_long))
      ∙ kept_at (read_rows n (drop 8 old)) values p (h.many ∙ sym rows_long) (omega (arith, rows_long))

  pub kept_write : (p v : ℕ) → p < n → Kept old n (set values p v) (set now (12 + 5 * p) v)
  kept_write p v l =
      let room : 8 + 5 * n ≤ length old = h.room in
      let new : List ℕ = records (rekept (read_rows n (drop 8 old)) values) in
      let place : 12 + 5 * p ≡ 8 + (4 + 5 * p) = omega arith in
      record {
        room = room;
        many = length-set values p v ∙ h.many;
        long = length-set now (12 + 5 * p) v ∙ h.long;
        is =
            ap₂ (λ m i. set m i v) h.is place
            ∙ set_put old 8 new (4 + 5 * p) v (omega (arith, words_long)) (omega (arith, words_long))
            ∙ ap (put old 8) (kept_set (read_rows n (drop 8 old)) values p v (h.many ∙ sym rows_long) (omega (arith, rows_long)));
      }

-- The word of the record at place p, among all records and among those but one.
pub contribution_at : (w : List ℕ) (n p : ℕ) → 8 + 5 * n ≤ length w → p < n
    → get_or w (12 + 5 * p) 0 ≡ get_or (column 4 (read_rows n (drop 8 w))) p 0
contribution_at w n p room l = kept_word (kept_none w n room) p l

module _ (w : List ℕ) (n k p at : ℕ) (room : 8 + 5 * n ≤ length w) (inside : k < n) (l : p < n - 1) (e : at ≡ place_but k p) where
  below : at < n
  below = let b : place_but k p < n = place_but_below k p n l in omega arith

  pub word_but_inside : 12 + 5 * at < length w
  word_but_inside = omega (arith, below)

  pub contribution_but : get_or w (12 + 5 * at) 0 ≡ get_or (column 4 (leave_out k (read_rows n (drop 8 w)))) p 0
  contribution_but =
      let rows : List Row = read_rows n (drop 8 w) in
      let size : length (read_rows n (drop 8 w)) ≡ n = length_read_rows n (drop 8 w) in
      let left : suc (length (leave_out k (read_rows n (drop 8 w)))) ≡ length (read_rows n (drop 8 w)) = length_leave_out k (read_rows n (drop 8 w)) (omega arith) in
      contribution_at w n at room below
      ∙ column_at 4 rows at blank (omega (arith, below))
      ∙ ap (λ i. field_of 4 (get_or rows i blank)) e
      ∙ ap (field_of 4) (sym (leave_at rows k p blank))
      ∙ sym (column_at 4 (leave_out k rows) p blank (omega arith))

-- No contribution is below 0, nor above the limit without its count.
pub none_below : (w : List ℕ) (n : ℕ) {places counts : List ℕ} → 8 + 5 * n ≤ length w → Placed n places counts
    → Judging (λ v m. ltb v m) (column 4 (read_rows n (drop 8 w))) n places counts 0
none_below w n room h =
    judging_none (kept_none w n room).many h (λ i. le-ltb (get_or (column 4 (read_rows n (drop 8 w))) i 0) 0 zero-le)

pub none_above : (w : List ℕ) (n k limit : ℕ) {places counts : List ℕ} → k < n → Placed (n - 1) places counts → Each (column 4 (leave_out k (read_rows n (drop 8 w)))) limit
    → Judging (λ v m. ltb limit (v + m)) (column 4 (leave_out k (read_rows n (drop 8 w)))) (n - 1) places counts 0
none_above w n k limit inside h low =
    let size : length (read_rows n (drop 8 w)) ≡ n = length_read_rows n (drop 8 w) in
    let left : suc (length (leave_out k (read_rows n (drop 8 w)))) ≡ length (read_rows n (drop 8 w)) = length_leave_out k (read_rows n (drop 8 w)) (omega arith) in
    let many : length (column 4 (leave_out k (read_rows n (drop 8 w)))) ≡ length (leave_out k (read_rows n (drop 8 w))) = length_column 4 (leave_out k (read_rows n (drop 8 w))) in
    judging_none (let m : length (column 4 (leave_out k (read_rows n (drop 8 w)))) ≡ n - 1 = omega arith in m) h
    (λ i. le-ltb limit (get_or (column 4 (leave_out k (read_rows n (drop 8 w)))) i 0 + 0) (omega (arith, low i)))

-- The contributions at the first k places are moved in the words.
pub record Storing (op : ℕ → ℕ → ℕ) (old : List ℕ) (n : ℕ) (places counts : List ℕ) (k : ℕ) (now : List ℕ) : Type 0 where
  pub values : List ℕ
  pub placing : Placing op (column 4 (read_rows n (drop 8 old))) n places counts k values
  pub kept : Kept old n values now

pub storing_none : {op : ℕ → ℕ → ℕ} {old : List ℕ} {n : ℕ} {places counts : List ℕ} → 8 + 5 * n ≤ length old → Placed n places counts
    → ((v : ℕ) → op v 0 ≡ v) → Storing op old n places counts 0 old
storing_none {op} {old} {n} room h still =
    let kept = kept_none old n room in
    record { values = column 4 (read_rows n (drop 8 old)); placing = placing_none kept.many h still; kept = kept }

module _ {op : ℕ → ℕ → ℕ} {old : List ℕ} {n : ℕ} {places counts : List ℕ} {k : ℕ} {now : List ℕ} (h : Storing op old n places counts k now) where
  -- the word whose turn it is, as it was
  pub storing_here : k < length places → get_or now (12 + 5 * get_or places k 0) 0 ≡ get_or (column 4 (read_rows n (drop 8 old))) (get_or places k 0) 0
  storing_here l = kept_word h.kept (get_or places k 0) (h.placing.placed.inside k l) ∙ placing_here h.placing l

  pub storing_more : k < length places
      → Storing op old n places counts (k + 1) (set now (12 + 5 * get_or places k 0) (op (get_or now (12 + 5 * get_or places k 0) 0) (get_or counts k 0)))
  storing_more l =
      let inside = h.placing.placed.inside k l in
      record {
        values = set h.values (get_or places k 0) (op (get_or now (12 + 5 * get_or places k 0) 0) (get_or counts k 0));
        placing = placing_more h.placing (get_or now (12 + 5 * get_or places k 0) 0) (kept_word h.kept (get_or places k 0) inside) l;
        kept = kept_write h.kept (get_or places k 0) (op (get_or now (12 + 5 * get_or places k 0) 0) (get_or counts k 0)) inside;
      }

  pub storing_end : length places ≤ k → now ≡ put old 8 (records (rekept (read_rows n (drop 8 old)) (moved op (column 4 (read_rows n (drop 8 old))) (amounts_at n places counts))))
  storing_end l = h.kept.is ∙ ap (λ vs. put old 8 (records (rekept (read_rows n (drop 8 old)) vs))) (placing_end h.placing l)

  -- moved by a step that is the operation
  pub storing_step : {gives : ℕ → ℕ → ℕ → Type 0} → StepsBy gives op (column 4 (read_rows n (drop 8 old))) places counts → k < length places
      → (r : ℕ) → gives (get_or now (12 + 5 * get_or places k 0) 0) (get_or counts k 0) r → Storing op old n places counts (k + 1) (set now (12 + 5 * get_or places k 0) r)
  storing_step {gives} s l r t =
      let here = storing_here l in
      let moved : r ≡ op (get_or now (12 + 5 * get_or places k 0) 0) (get_or counts k 0) =
      s.moves k l r (rw here at t) ∙ ap (λ v. op v (get_or counts k 0)) (sym here) in
      rw moved (storing_more l)
