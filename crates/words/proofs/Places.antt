-- Laws of records by their place: the words that a record is read from, the records before a place, and what a search
-- among all records tells of the archive.
use Prim.Native.Nat.{ℕ, ◌+◌, ◌*◌, ◌≤◌, ◌<◌}
use mathlib.Core.Path.{◌≡◌, refl, sym, ap, ◌∙◌}
use mathlib.Core.List.{List, ◌∷◌, ◌++◌, []}
use native.Mathlib.Nat.{add-zero, le_refl}
use native.Mathlib.Omega.{arith}
use lib.Dec.{ltb}
use lib.ListN.{length, get_or, drop}
use lib.Seq.{drop-drop, get_or-drop}
use borrow.Author.Tests.{lt-ltb, le-ltb}
use Rattle.std.specs.Prelude.{Option, None, Some, is_some, unwrap_or, IfSome}
use Rattle.words.specs.Archive.{Row, point, trials}
use Rattle.words.specs.Format.{held, archive_rows}
use Rattle.words.specs.Layout.{word, read_row, read_rows, read}
use Rattle.words.specs.Places.{as_trial, as_record, row_at, rows_before, Found}
use Rattle.words.specs.declared.rows.Record.{Record}
use Rattle.words.proofs.Passed.{passed, passed_row, coordinates_small}
use Rattle.words.proofs.Reading.{read_rows_append, read_rows_at}

-- A record of five numbers.
abbrev pub row_by_words : ℕ → ℕ → ℕ → ℕ → ℕ → Row
row_by_words number x y z kept = record { trial = record { number = number; x = x; y = y; z = z }; kept = kept }

-- The five words of the record at a place.
pub row_at_words : (w : List ℕ) (i : ℕ) → row_by_words (word w (8 + 5 * i)) (word w (8 + 5 * i + 1)) (word w (8 + 5 * i + 2)) (word w (8 + 5 * i + 3)) (word w (8 + 5 * i + 4)) ≡ row_at w i
unfolding row_at read_row
row_at_words w i = sym (simp (get_or-drop, add-zero))

pub row_at_number : (w : List ℕ) (i : ℕ) → (row_at w i).trial.number ≡ word w (8 + 5 * i)
row_at_number w i = ap (λ r. r.trial.number) (sym (row_at_words w i))

-- The records before a place, by index, and one record more.
pub rows_before_at : (w : List ℕ) (n i : ℕ) (d : Row) → i < n → get_or (rows_before w n) i d ≡ row_at w i
unfolding row_at
rows_before_at w n i d l = read_rows_at n i (drop 8 w) d l ∙ ap read_row (drop-drop (5 * i) 8 w)

pub rows_before_more : (w : List ℕ) (i : ℕ) → rows_before w (i + 1) ≡ rows_before w i ++ (row_at w i ∷ [])
unfolding row_at read_rows
rows_before_more w i = read_rows_append i 1 (drop 8 w) ∙ rw (drop-drop (5 * i) 8 w)

-- In words that rows 1 to 3 let pass no coordinate of a record is above 1,048,576.
pub held_small : (w : List ℕ) (i : ℕ) → archive_rows w 0 ≡ 0 → i < word w 0 → (axis : ℕ) → get_or (point (row_at w i).trial) axis 0 ≤ 1048576
unfolding row_at
held_small w i p l axis = coordinates_small (row_at w i).trial (passed_row w (passed w p) i l).coordinates axis

-- A point of three numbers, taken apart for a trial or a record.
pub point_of_trial : (number : ℕ) (p : List ℕ) → length p ≡ 3 → point (as_trial number p) ≡ p
point_of_trial number [] e = absurd (let no : ⊥ = omega arith in no)
point_of_trial number (x ∷ []) e = absurd (let no : ⊥ = omega arith in no)
point_of_trial number (x ∷ y ∷ []) e = absurd (let no : ⊥ = omega arith in no)
point_of_trial number (x ∷ y ∷ z ∷ []) e = refl
point_of_trial number (x ∷ y ∷ z ∷ u ∷ p) e = absurd (let no : ⊥ = omega arith in no)

pub point_of_record : (r : Record) → length r.point.at ≡ 3 → point (as_record r).trial ≡ r.point.at
point_of_record r e = point_of_trial r.number r.point.at e

-- The point of a record read at a place.
pub point_at : (w : List ℕ) (i : ℕ) (r : Record) → length r.point.at ≡ 3 → as_record r ≡ row_at w i → r.point.at ≡ point (row_at w i).trial
point_at w i r l e = sym (point_of_record r l) ∙ ap (λ (s : Row). point s.trial) e

-- A place is found where the number is held, and none where it is not.
pub found_some : (n : ℕ) (o : Option ℕ) → IfSome o (λ place. place < n) → is_some o ≡ ltb (unwrap_or o n) n
found_some n None l = sym (le-ltb n n (le_refl n))
found_some n (Some place) l = sym (lt-ltb place n l)

-- What finding a number tells of the archive that the words hold.
pub find_held : (w : List ℕ) (number place : ℕ) → Found w (word w 0) number place → held number (trials (read w).rows) ≡ ltb place (word w 0)
unfolding read
find_held w number place f = f.holds
