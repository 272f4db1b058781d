-- What words that pass rows 1 to 3 are: the layout of a sound archive with the words behind it. And back: the
-- layout of a sound archive passes, whatever lies behind it.
use Prim.Native.Nat.{ℕ, zero, suc, ◌+◌, ◌-◌, ◌*◌, ◌^◌, ◌≤◌, ◌<◌, zero-le}
use mathlib.Core.Path.{◌≡◌, refl, sym, ap, ◌∙◌, subst}
use mathlib.Core.Bool.{Bool, true, false, not}
use mathlib.Core.List.{List, ◌∷◌, ◌++◌, append_assoc, []}
use native.Mathlib.Nat.{le_refl, le_trans, mul-le-mul}
use native.Mathlib.Omega.{arith}
use lib.Dec.{leb, ltb, lit≤}
use lib.ListN.{length, get_or, take, drop, replicate, length-append, length-drop, take-append-drop}
use lib.Seq.{drop_at, take_at, drop-drop, take-take, take-add, slice, length-slice}
use borrow.Author.Tests.{leb-true, ltb-false, eqb-true, le-leb, le-ltb, not-false}
use Rattle.slices.specs.Choices.{both}
use Rattle.hypervolume.specs.Cells.{box}
use Rattle.slices.proofs.Choices.{both_true, both_intro, both_comm}
use Rattle.words.specs.Archive.{Trial, point, Row, Shape, reference, Archive, trials}
use Rattle.words.specs.Format.{guard, within, each, shape_allowed, number_allowed, coordinates_allowed, header_allowed, row_allowed, rows_allowed, ordered, distinct, sound_rows, zeros, unused, records_allowed, archive_rows}
use Rattle.words.specs.Layout.{header, records, extent, layout, word, read_row, read_rows, read_shape, read, behind}
use Rattle.words.specs.Places.{Headed}
use Rattle.words.proofs.Reading.{length_records, length_read_rows, read_rows_at, header_read, records_read, read_layout, length_layout}

-- What a test of the table tells, as bounds, and back.

pub within_bounds : (low high n : ℕ) → within low high n ≡ true → (low ≤ n) × (n ≤ high)
unfolding within
within_bounds low high n e =
    let t = both_true (leb low n) (leb n high) e in
    (leb-true low n t.0, leb-true n high t.1)

pub bounds_within : (low high n : ℕ) → low ≤ n → n ≤ high → within low high n ≡ true
unfolding within
bounds_within low high n l h = both_intro (leb low n) (leb n high) (le-leb low n l) (le-leb n high h)

-- Numbers that are each within bounds, by place; a place that the list lacks counts as 0.
pub each_bounds : (low high : ℕ) (l : List ℕ) → each (within low high) l ≡ true → (i : ℕ) → (i < length l → low ≤ get_or l i 0) × (get_or l i 0 ≤ high)
unfolding each
each_bounds low high [] e i = (λ m. absurd (let no : ⊥ = omega arith in no), zero-le)
each_bounds low high (n ∷ l) e zero =
    let here = within_bounds low high n (both_true _ _ e).0 in
    (λ m. here.0, here.1)
each_bounds low high (n ∷ l) e (suc i) =
    let later = each_bounds low high l (both_true _ _ e).1 i in
    (λ m. later.0 (omega arith), later.1)

-- On three axes, without the end of the list.
pub each_three : (test : ℕ → Bool) (a b c : ℕ) → each test (a ∷ b ∷ c ∷ []) ≡ both (test a) (both (test b) (test c))
unfolding each both
each_three test a b c = ap (λ t. both (test a) (both (test b) t)) (both_comm (test c) true)

-- The reference by its axis.
pub record ShapeBounds (s : Shape) : Type 0 where
  pub capacity_low : 1 ≤ s.capacity
  pub capacity_high : s.capacity ≤ 512
  pub reference_low : (axis : ℕ) → axis < 3 → 1 ≤ get_or (reference s) axis 0
  pub reference_high : (axis : ℕ) → get_or (reference s) axis 0 ≤ 1048576

pub shape_bounds : (s : Shape) → shape_allowed s ≡ true → ShapeBounds s
unfolding shape_allowed
shape_bounds s e =
    let parts = both_true _ _ e in
    let capacity = within_bounds 1 512 s.capacity parts.0 in
    let numbers = each_bounds 1 1048576 (reference s) parts.1 in
    record {
      capacity_low = capacity.0;
      capacity_high = capacity.1;
      reference_low = λ axis l. (numbers axis).0 l;
      reference_high = λ axis. (numbers axis).1;
    }

-- No axis of an allowed reference is above 1,048,576.
pub reference_small : (s : Shape) (r : List ℕ) → shape_allowed s ≡ true → r ≡ reference s → (axis : ℕ) → get_or r axis 0 ≤ 1048576
reference_small s r e is axis = rw is ((shape_bounds s e).reference_high axis)

-- No coordinate that is allowed is above 1,048,576.
pub coordinates_small : (t : Trial) → coordinates_allowed t ≡ true → (axis : ℕ) → get_or (point t) axis 0 ≤ 1048576
unfolding coordinates_allowed
coordinates_small t e axis = (each_bounds 0 1048576 (point t) e axis).1

pub record RowBounds (s : Shape) (r : Row) : Type 0 where
  pub number_low : 1 ≤ r.trial.number
  pub number_high : r.trial.number ≤ 9999999
  pub coordinates : coordinates_allowed r.trial ≡ true
  pub kept_high : r.kept ≤ box (reference s)

pub row_bounds : (s : Shape) (r : Row) → row_allowed s r ≡ true → RowBounds s r
unfolding row_allowed number_allowed
row_bounds s r e =
    let n = both_true _ _ e in
    let k = both_true _ _ n.1 in
    let number = within_bounds 1 9999999 r.trial.number n.0 in
    record {
      number_low = number.0;
      number_high = number.1;
      coordinates = k.0;
      kept_high = leb-true _ _ k.1;
    }

pub bounds_row : (s : Shape) (r : Row) → RowBounds s r → row_allowed s r ≡ true
unfolding row_allowed number_allowed
bounds_row s r b =
    both_intro _ _ (bounds_within 1 9999999 r.trial.number b.number_low b.number_high)
    (both_intro _ _ b.coordinates (le-leb _ _ b.kept_high))

-- Every row of rows that are allowed, by its place.
pub rows_bounds : (s : Shape) (rows : List Row) → rows_allowed s rows ≡ true → (i : ℕ) (d : Row) → i < length rows → RowBounds s (get_or rows i d)
unfolding rows_allowed
rows_bounds s [] e i d l = absurd (let no : ⊥ = omega arith in no)
rows_bounds s (r ∷ rows) e zero d l = row_bounds s r (both_true _ _ e).0
rows_bounds s (r ∷ rows) e (suc i) d l = rows_bounds s rows (both_true _ _ e).1 i d (omega arith)

pub zeros_replicate : (n : ℕ) → zeros (replicate n 0) ≡ true
unfolding zeros each both
zeros_replicate zero = refl
zeros_replicate (suc n) = zeros_replicate n

pub replicate_zeros : (l : List ℕ) → zeros l ≡ true → l ≡ replicate (length l) 0
unfolding zeros each
replicate_zeros [] e = refl
replicate_zeros (n ∷ l) e =
    let t = both_true _ _ e in
    rw (eqb-true n 0 t.0) (ap (λ k. 0 ∷ k) (replicate_zeros l t.1))

-- An archive that rows 2 and 3 let pass.
pub record Sound (a : Archive) : Type 0 where
  pub shaped : shape_allowed a.shape ≡ true
  pub within_box : a.sum ≤ box (reference a.shape)
  pub front_within : a.front ≤ length a.rows
  pub held_within : length a.rows ≤ a.shape.capacity
  pub rows_fit : rows_allowed a.shape a.rows ≡ true
  pub in_order : ordered (trials a.rows) ≡ true
  pub apart : distinct (trials a.rows) ≡ true

-- What words are that pass rows 1 to 3. The bounds are said of the words, for code that reads them.
pub record Passed (w : List ℕ) : Type 0 where
  pub long : 8 + 5 * word w 1 ≤ length w
  pub counted : word w 0 ≤ word w 1
  pub bounds : ShapeBounds (read_shape w)
  pub sound : Sound (read w)
  pub laid : w ≡ layout (read w) ++ behind w

pub guard_none : (t : Bool) (n rest : ℕ) → guard t (suc n) rest ≡ 0 → (t ≡ false) × (rest ≡ 0)
unfolding guard
guard_none true n rest e = absurd (let no : ⊥ = omega arith in no)
guard_none false n rest e = (refl, e)

-- What rows 1 and 2 tell of words that they let pass.
pub record HeaderFacts (w : List ℕ) : Type 0 where
  pub long : 8 + 5 * word w 1 ≤ length w
  pub shaped : shape_allowed (read_shape w) ≡ true
  pub six : word w 6 ≤ word w 0
  pub seven : word w 7 ≡ 0
  pub counted : word w 0 ≤ word w 1
  pub within_box : word w 5 ≤ box (reference (read_shape w))

pub header_facts : (w : List ℕ) → Headed w → HeaderFacts w
unfolding header_allowed extent
header_facts w h =
    let shape = both_true _ _ h.allowed in
    let six = both_true _ _ shape.1 in
    let seven = both_true _ _ six.1 in
    let counted = both_true _ _ seven.1 in
    record {
      long = h.whole;
      shaped = shape.0;
      six = leb-true _ _ six.0;
      seven = eqb-true _ _ seven.0;
      counted = leb-true _ _ counted.0;
      within_box = leb-true _ _ counted.1;
    }

-- Rows 1 to 3, for any test of the records.
abbrev pub rows_by : (test : Bool) → List ℕ → ℕ → ℕ
rows_by test w rest =
    guard (ltb (length w) 8) 1
    (guard (not (header_allowed w)) 2 (guard (ltb (length w) (extent (word w 1))) 1 (guard (not test) 3 rest)))

-- Once rows 1 and 2 have passed, row 3 decides.
pub test_decides : (test : Bool) (w : List ℕ) (rest : ℕ) → Headed w → rows_by test w rest ≡ guard (not test) 3 rest
unfolding guard
test_decides test w rest h =
    let facts : HeaderFacts w = header_facts w h in
    rw (le-ltb (length w) 8 (omega arith), h.allowed, le-ltb (length w) (extent (word w 1)) h.whole)

pub row_3_decides : (w : List ℕ) (rest : ℕ) → Headed w → archive_rows w rest ≡ guard (not (records_allowed w)) 3 rest
unfolding archive_rows
row_3_decides w rest h = test_decides (records_allowed w) w rest h

-- No row turns the words down, and none of the call's own rows, `rest`.
pub record Unrefused (test : Bool) (w : List ℕ) (rest : ℕ) : Type 0 where
  pub headed : Headed w
  pub records : test ≡ true
  pub call : rest ≡ 0

pub test_unrefused : (test : Bool) (w : List ℕ) (rest : ℕ) → rows_by test w rest ≡ 0 → Unrefused test w rest
test_unrefused test w rest e =
    let first = guard_none _ _ _ e in
    let second = guard_none _ _ _ first.1 in
    let third = guard_none _ _ _ second.1 in
    let fourth = guard_none _ _ _ third.1 in
    record {
      headed = record { allowed = not-false _ second.0; whole = ltb-false _ _ third.0 };
      records = not-false _ fourth.0;
      call = fourth.1;
    }

pub unrefused : (w : List ℕ) (rest : ℕ) → archive_rows w rest ≡ 0 → Unrefused (records_allowed w) w rest
unfolding archive_rows
unrefused w rest e = test_unrefused (records_allowed w) w rest e

pub passed_both : (w : List ℕ) (rest : ℕ) → archive_rows w rest ≡ 0 → (archive_rows w 0 ≡ 0) × (rest ≡ 0)
unfolding guard
passed_both w rest e =
    let u = unrefused w rest e in
    (row_3_decides w 0 u.headed ∙ rw u.records, u.call)

-- Words in four parts.
parts : (i j k : ℕ) (w : List ℕ) → i + j ≤ k → w ≡ take i w ++ (take j (drop i w) ++ slice (i + j) k w) ++ drop k w
parts i j k w l =
    let front : take (i + j) (take k w) ≡ take i w ++ take j (drop i w) = take-take (i + j) k w l ∙ take-add i j w in
    sym (take-append-drop k w)
    ∙ ap (λ p. p ++ drop k w) (sym (take-append-drop (i + j) (take k w)) ∙ ap (λ p. p ++ slice (i + j) k w) front ∙ append_assoc (take i w) (take j (drop i w)) (slice (i + j) k w))

laid_out : (w : List ℕ) → HeaderFacts w → zeros (unused w) ≡ true → w ≡ layout (read w) ++ behind w
unfolding layout behind extent read read_shape unused
laid_out w t z =
    let long : 8 + 5 * word w 1 ≤ length w = t.long in
    let counted : word w 0 ≤ word w 1 = t.counted in
    let many : 8 + 5 * word w 1 - (8 + 5 * word w 0) ≡ 5 * (word w 1 - word w 0) = omega arith in
    let rest : slice (8 + 5 * word w 0) (8 + 5 * word w 1) w ≡ replicate (5 * (word w 1 - word w 0)) 0 =
    replicate_zeros _ z ∙ ap (λ n. replicate n 0) (length-slice _ _ w long ∙ many) in
    let rows : 5 * word w 0 ≤ length (drop 8 w) = omega (arith, length-drop 8 w) in
    rw (
      length_read_rows (word w 0) (drop 8 w),
      header_read w (omega arith) t.seven,
      records_read (word w 0) (drop 8 w) rows,
      ← rest,
    )
    (parts 8 (5 * word w 0) (8 + 5 * word w 1) w (omega arith))

-- What passes rows 1 to 3 is the layout of a sound archive, with the words behind.
pub passed : (w : List ℕ) → archive_rows w 0 ≡ 0 → Passed w
unfolding read read_shape records_allowed sound_rows
passed w e =
    let u = unrefused w 0 e in
    let t : HeaderFacts w = header_facts w u.headed in
    let records = both_true _ _ u.records in
    let rows = both_true _ _ records.0 in
    let order = both_true _ _ rows.1 in
    record {
      long = t.long;
      counted = t.counted;
      bounds = shape_bounds (read_shape w) t.shaped;
      sound =
          record {
            shaped = t.shaped;
            within_box = t.within_box;
            front_within = subst (λ n. word w 6 ≤ n) (sym (length_read_rows (word w 0) (drop 8 w))) t.six;
            held_within = subst (λ n. n ≤ word w 1) (sym (length_read_rows (word w 0) (drop 8 w))) t.counted;
            rows_fit = rows.0;
            in_order = order.0;
            apart = order.1;
          };
      laid = laid_out w t records.1;
    }

-- The unused words of a layout.
unused_layout : (a : Archive) (b : List ℕ) → length a.rows ≤ a.shape.capacity
    → unused (layout a ++ b) ≡ replicate (5 * (a.shape.capacity - length a.rows)) 0
unfolding unused layout header
unused_layout a b l =
    let before : length (header a ++ records a.rows) ≡ 8 + 5 * length a.rows =
    omega (arith, length_records a.rows) in
    ap (drop (8 + 5 * length a.rows)) (take_at (layout a) b (extent a.shape.capacity) (length_layout a l))
    ∙ drop_at (header a ++ records a.rows) _ (8 + 5 * length a.rows) before

-- The layout of a sound archive passes rows 1 to 3, whatever lies behind it.
pub sound_passes : (a : Archive) (b : List ℕ) (rest : ℕ) → Sound a → archive_rows (layout a ++ b) rest ≡ rest
unfolding layout header read_shape extent header_allowed records_allowed sound_rows guard
sound_passes a b rest s =
    let rows : (read (layout a ++ b)).rows ≡ a.rows = ap (λ r. r.rows) (read_layout a b) in
    let whole : length (layout a ++ b) ≡ 8 + 5 * a.shape.capacity + length b =
    length-append (layout a) b ∙ ap (λ n. n + length b) (length_layout a s.held_within) in
    let allowed : header_allowed (layout a ++ b) ≡ true =
    both_intro _ _ s.shaped
    (both_intro _ _ (le-leb _ _ s.front_within) (both_intro _ _ refl (both_intro _ _ (le-leb _ _ s.held_within) (le-leb _ _ s.within_box)))) in
    let records : records_allowed (layout a ++ b) ≡ true =
    both_intro _ _ (rw rows (both_intro _ _ s.rows_fit (both_intro _ _ s.in_order s.apart)))
    (rw (unused_layout a b s.held_within) (zeros_replicate (5 * (a.shape.capacity - length a.rows)))) in
    row_3_decides (layout a ++ b) rest (record { allowed = allowed; whole = omega arith }) ∙ rw records

-- Words that have passed pass whatever rows a call adds.
pub passes_again : (w : List ℕ) (rest : ℕ) → Passed w → archive_rows w rest ≡ rest
passes_again w rest p =
    ap (λ l. archive_rows l rest) p.laid ∙ sound_passes (read w) (behind w) rest p.sound

-- The words before 8 + 5 × capacity are the layout.
pub passed_front : (w : List ℕ) → Passed w → take (extent (word w 1)) w ≡ layout (read w)
unfolding read read_shape
passed_front w p =
    ap (take (extent (word w 1))) p.laid ∙ take_at (layout (read w)) (behind w) (extent (word w 1)) (length_layout (read w) p.sound.held_within)

-- Words that rows 1 to 3 turn down are turned down by the same row, whatever rows a call adds.
pub still_refused : (w : List ℕ) (rest : ℕ) → (archive_rows w 0 ≡ 0 → ⊥) → archive_rows w rest ≡ archive_rows w 0
unfolding archive_rows guard
still_refused w rest r =
    go (ltb (length w) 8) (not (header_allowed w)) (ltb (length w) (extent (word w 1))) (not (records_allowed w)) r
  where
    go : (s t u v : Bool) → (guard s 1 (guard t 2 (guard u 1 (guard v 3 0))) ≡ 0 → ⊥)
        → guard s 1 (guard t 2 (guard u 1 (guard v 3 rest))) ≡ guard s 1 (guard t 2 (guard u 1 (guard v 3 0)))
    go true t u v r = refl
    go false true u v r = refl
    go false false true v r = refl
    go false false false true r = refl
    go false false false false r = absurd (r refl)

-- Every record of words that have passed, at its place in the words.
pub passed_row : (w : List ℕ) → Passed w → (i : ℕ) → i < word w 0 → RowBounds (read_shape w) (read_row (drop (8 + 5 * i) w))
unfolding read
passed_row w p i l =
    let none : Row = read_row w in
    let rows : List Row = read_rows (word w 0) (drop 8 w) in
    let inside : i < length rows = omega (arith, length_read_rows (word w 0) (drop 8 w)) in
    let place : get_or rows i none ≡ read_row (drop (8 + 5 * i) w) =
    read_rows_at (word w 0) i (drop 8 w) none l ∙ ap read_row (drop-drop (5 * i) 8 w) in
    subst (RowBounds (read_shape w)) place (rows_bounds (read_shape w) rows p.sound.rows_fit i none inside)

-- "The box is rx × ry × rz, at most 2^60."
pub box_bound : (s : Shape) → ShapeBounds s → box (reference s) ≤ 2 ^ 60
unfolding box
box_bound s b =
    le_trans (mul-le-mul (b.reference_high 0) (mul-le-mul (b.reference_high 1) (mul-le-mul (b.reference_high 2) (le_refl 1)))) (lit≤ tt)
