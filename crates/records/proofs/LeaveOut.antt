-- The records but one: how many they are, which stands where, that they stay allowed and in order, and the record of a
-- number and the others by the place where it stands.
use Prim.Native.Nat.{ℕ, zero, suc, ◌+◌, ◌-◌, ◌≤◌, ◌<◌, min}
use mathlib.Core.Path.{◌≡◌, refl, sym, ap, ap₂, ◌∙◌}
use mathlib.Core.List.{List, ◌∷◌, ◌++◌, append-nil, []}
use native.Mathlib.Decide.{dec_lt}
use native.Mathlib.Numerals.{add-one}
use native.Mathlib.Omega.{arith}
use lib.Dec.{ltb}
use lib.ListN.{length, take, drop, get_or, length-append, length-take, length-drop, drop_of_length-le}
use lib.Seq.{take_all}
use Rattle.words.specs.Archive.{Row, Trial, Shape, trials}
use Rattle.records.specs.Columns.{leave_out, place_but}
use mathlib.Core.Bool.{Bool, true, false, not}
use Rattle.slices.specs.Choices.{pick}
use Rattle.calls.proofs.Members.{others_none}
use Rattle.calls.specs.Calls.{row_of, others}
use Rattle.calls.proofs.Order.{ordered_ascending, ascending_ordered, others_ascending}
use Rattle.records.proofs.RowAt.{blank}
use borrow.Author.Tests.{ltb-true, ltb-false, eq-eqb, ne_eqb, not-true}
use Rattle.slices.proofs.Choices.{both_true, both_intro}
use Rattle.words.specs.Format.{held, row_allowed, rows_allowed, ordered, distinct}
use Rattle.words.proofs.Held.{held_at}

-- The records but one that is none: all.
pub leave_none : (rows : List Row) (m : ℕ) → length rows ≤ m → leave_out m rows ≡ rows
unfolding leave_out
leave_none rows m l =
    ap₂ (λ a b. a ++ b) (take_all m rows l) (drop_of_length-le rows {i = suc m} (omega arith)) ∙ append-nil rows

pub length_leave_out : (k : ℕ) (rows : List Row) → k < length rows → suc (length (leave_out k rows)) ≡ length rows
unfolding leave_out
length_leave_out k rows l =
    ap suc (length-append (take k rows) (drop (suc k) rows) ∙ ap₂ ◌+◌ (length-take k rows) (length-drop (suc k) rows))
    ∙ (let e : suc (min k (length rows) + (length rows - suc k)) ≡ length rows = omega arith in e)

-- What stands at a place once the record at place i is left out: before i as it was, from i on the next record.
pub leave_before : (rows : List Row) (i k : ℕ) (d : Row) → k < i → get_or (leave_out i rows) k d ≡ get_or rows k d
unfolding leave_out
leave_before rows zero k d l = absurd (let no' : ⊥ = omega arith in no')
leave_before [] (suc i) k d l = refl
leave_before (r ∷ rows) (suc i) zero d l = refl
leave_before (r ∷ rows) (suc i) (suc k) d l = leave_before rows i k d (omega arith)

pub leave_behind : (rows : List Row) (i k : ℕ) (d : Row) → i ≤ k → get_or (leave_out i rows) k d ≡ get_or rows (suc k) d
unfolding leave_out
leave_behind [] zero k d l = refl
leave_behind [] (suc i) k d l = refl
leave_behind (r ∷ rows) zero k d l = refl
leave_behind (r ∷ rows) (suc i) zero d l = absurd (let no' : ⊥ = omega arith in no')
leave_behind (r ∷ rows) (suc i) (suc k) d l = leave_behind rows i k d (omega arith)

pub leave_at : (rows : List Row) (i k : ℕ) (d : Row) → get_or (leave_out i rows) k d ≡ get_or rows (place_but i k) d
unfolding place_but pick
leave_at rows i k d = go (ltb k i) refl
  where
    go : (b : Bool) → ltb k i ≡ b → get_or (leave_out i rows) k d ≡ get_or rows (place_but i k) d
    go true e = rw e (leave_before rows i k d (ltb-true k i e))
    go false e = rw (e, add-one k) (leave_behind rows i k d (ltb-false k i e))

pub place_but_below : (i k n : ℕ) → k < n - 1 → place_but i k < n
unfolding place_but pick
place_but_below i k n l = go (ltb k i)
  where
    go : (b : Bool) → pick b k (k + 1) < n
    go true = omega arith
    go false = omega arith

-- A number that is held is no number that is not.
apart : (m n : ℕ) (ts : List Trial) → held m ts ≡ false → held n ts ≡ true → m ≡ n → ⊥
apart m n ts f t e =
    let same_test : held m ts ≡ held n ts = ap (λ k. held k ts) e in
    let z : ◌≡◌ {A = ℕ} 0 1 = cc in
    omega arith

pub row_of_at : (rows : List Row) (k : ℕ) (d : Row) → k < length rows → distinct (trials rows) ≡ true → row_of (get_or rows k d).trial.number rows ≡ get_or rows k d
unfolding row_of distinct trials pick
row_of_at [] k d l h = absurd (let no' : ⊥ = omega arith in no')
row_of_at (r ∷ rows) zero d l h = rw (eq-eqb r.trial.number r.trial.number refl)
row_of_at (r ∷ rows) (suc k) d l h =
    let parts = both_true (not (held r.trial.number (trials rows))) (distinct (trials rows)) h in
    let there : held (get_or rows k d).trial.number (trials rows) ≡ true = held_at rows k d (omega arith) in
    let none : held r.trial.number (trials rows) ≡ false = not-true (held r.trial.number (trials rows)) parts.0 in
    rw (ne_eqb r.trial.number (get_or rows k d).trial.number (apart r.trial.number (get_or rows k d).trial.number (trials rows) none there))
    (row_of_at rows k d (omega arith) parts.1)

pub others_at : (rows : List Row) (k : ℕ) (d : Row) → k < length rows → distinct (trials rows) ≡ true → others (get_or rows k d).trial.number rows ≡ leave_out k rows
unfolding others distinct trials pick leave_out
others_at [] k d l h = absurd (let no' : ⊥ = omega arith in no')
others_at (r ∷ rows) zero d l h =
    let parts = both_true (not (held r.trial.number (trials rows))) (distinct (trials rows)) h in
    rw (eq-eqb r.trial.number r.trial.number refl)
    (others_none r.trial.number rows (not-true (held r.trial.number (trials rows)) parts.0))
others_at (r ∷ rows) (suc k) d l h =
    let parts = both_true (not (held r.trial.number (trials rows))) (distinct (trials rows)) h in
    let there : held (get_or rows k d).trial.number (trials rows) ≡ true = held_at rows k d (omega arith) in
    let none : held r.trial.number (trials rows) ≡ false = not-true (held r.trial.number (trials rows)) parts.0 in
    rw (ne_eqb r.trial.number (get_or rows k d).trial.number (apart r.trial.number (get_or rows k d).trial.number (trials rows) none there))
    (ap (λ l. r ∷ l) (others_at rows k d (omega arith) parts.1))

-- Leaving one record out keeps the others allowed and in order, and is no more.
pub left_allowed : (s : Shape) (rows : List Row) (k : ℕ) → rows_allowed s rows ≡ true → rows_allowed s (leave_out k rows) ≡ true
unfolding leave_out rows_allowed
left_allowed s [] zero h = refl
left_allowed s [] (suc k) h = refl
left_allowed s (r ∷ rows) zero h = (both_true (row_allowed s r) (rows_allowed s rows) h).1
left_allowed s (r ∷ rows) (suc k) h =
    let parts = both_true (row_allowed s r) (rows_allowed s rows) h in
    both_intro (row_allowed s r) (rows_allowed s (take k rows ++ drop (suc k) rows)) parts.0 (left_allowed s rows k parts.1)

pub left_ordered : (rows : List Row) (k : ℕ) → ordered (trials rows) ≡ true → distinct (trials rows) ≡ true → ordered (trials (leave_out k rows)) ≡ true
left_ordered rows k o d = go (dec_lt k (length rows))
  where
    go : Dec (k < length rows) → ordered (trials (leave_out k rows)) ≡ true
    go (yes m) =
        ap (λ x. ordered (trials x)) (sym (others_at rows k blank m d))
        ∙ ascending_ordered (trials (others (get_or rows k blank).trial.number rows)) (others_ascending (get_or rows k blank).trial.number rows (ordered_ascending (trials rows) o))
    go (no m) = ap (λ x. ordered (trials x)) (leave_none rows k (omega arith)) ∙ o

pub left_fewer : (rows : List Row) (k : ℕ) → length (leave_out k rows) ≤ length rows
unfolding leave_out
left_fewer rows k =
    let size : length (take k rows ++ drop (suc k) rows) ≡ min k (length rows) + (length rows - suc k) =
    length-append (take k rows) (drop (suc k) rows) ∙ ap₂ ◌+◌ (length-take k rows) (length-drop (suc k) rows) in
    omega arith
