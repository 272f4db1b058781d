-- What the code passes by value, read in the terms of Archive, and records by their place in the words.
use Rattle.std.specs.Prelude.{ℕ, zero, suc, ◌+◌, ◌*◌, ◌≤◌, ◌<◌, Bool, true, false, not, ◌≡◌, List, ltb, length, drop, get_or}
use Rattle.slices.specs.Choices.{both}
use Rattle.hypervolume.specs.Cells.{box}
use Rattle.words.specs.Archive.{Trial, Row, Shape, reference, trials, before}
use Rattle.words.specs.Layout.{word, read_row, read_rows, read_shape, extent}
use Rattle.words.specs.Format.{header_allowed, row_allowed, held}
use Rattle.words.specs.declared.rows.Row as code_row
use Rattle.words.specs.declared.rows.Record as code-record
use Rattle.words.specs.declared.rows.Shape as code_shape

-- The code's structs as records and a shape.
abbrev pub as_row : code_row.Row → Row
as_row r =
    record { trial = record { number = r.number; x = r.x; y = r.y; z = r.z }; kept = r.kept }

-- A number and a point's coordinates as a trial.
abbrev pub as_trial : ℕ → List ℕ → Trial
as_trial number p = record { number = number; x = get_or p 0 0; y = get_or p 1 0; z = get_or p 2 0 }

abbrev pub as_record : code-record.Record → Row
as_record r = record { trial = as_trial r.number r.point.at; kept = r.kept }

abbrev pub as_shape : code_shape.Shape → Shape
as_shape s = record { capacity = s.capacity; rx = s.rx; ry = s.ry; rz = s.rz }

-- The record at a place, counted from 0, and the records before that place.
unfoldable pub row_at : List ℕ → ℕ → Row
row_at w i = read_row (drop (8 + 5 * i) w)

abbrev pub rows_before : List ℕ → ℕ → List Row
rows_before w i = read_rows i (drop 8 w)

-- Whether the record at a place stands in order behind the one before it.
unfoldable pub follows : List ℕ → ℕ → Bool
follows w zero = true
follows w (suc i) = before (row_at w i).trial (row_at w (suc i)).trial

-- Whether a record before this place has the number of the record at it.
abbrev pub repeated : List ℕ → ℕ → Bool
repeated w i = held (row_at w i).trial.number (trials (rows_before w i))

-- Row 3 at a place: the record is allowed, stands in order, and no record before it has its number.
unfoldable pub stands : List ℕ → ℕ → Bool
stands w i =
    both (row_allowed (read_shape w) (row_at w i)) (both (follows w i) (not (repeated w i)))

-- What the test at a place is given: the box, and whether the number's bit was set by a record before.
pub record AtPlace (w : List ℕ) (cells i : ℕ) (met : Bool) : Type 0 where
  pub inside : 8 + 5 * (i + 1) ≤ length w
  pub boxed : cells ≡ box (reference (read_shape w))
  pub unmet : met ≡ false → repeated w i ≡ false

-- Words that rows 1 and 2 let pass.
pub record Headed (w : List ℕ) : Type 0 where
  pub allowed : header_allowed w ≡ true
  pub whole : extent (word w 1) ≤ length w

-- What a search for a number among the first n records finds: the first place that has it, or n where none has.
pub record Found (w : List ℕ) (n number place : ℕ) : Type 0 where
  pub inside : place ≤ n
  pub holds : held number (trials (rows_before w n)) ≡ ltb place n
  pub there : place < n → (row_at w place).trial.number ≡ number
  pub first : (k : ℕ) → k < place → (row_at w k).trial.number ≡ number → ⊥
