-- Rows 1 to 3 of the table of refusals (document 01, "Where each call is turned down"): what words must be to be
-- read as an archive. The same for every call on an archive slice but start and the card reader.
use Rattle.std.specs.Prelude.{ℕ, ◌+◌, ◌*◌, Bool, true, false, not, List, ◌∷◌, [], leb, ltb, eqb, length}
use Rattle.std.proofs.Math.Seq.{slice}
use Rattle.slices.specs.Choices.{both, either}
use Rattle.hypervolume.specs.Cells.{box}
use Rattle.words.specs.Archive.{Trial, Row, Shape, point, reference, trials, before}
use Rattle.words.specs.Layout.{word, read, read_shape, extent}

-- A row of the table: its number where its condition holds, else what the rows after it say. 0 is no refusal.
unfoldable pub guard : Bool → ℕ → ℕ → ℕ
guard true number rest = number
guard false number rest = rest

-- low to high, both allowed
unfoldable pub within : ℕ → ℕ → ℕ → Bool
within low high n = both (leb low n) (leb n high)

-- Whether the test holds of every number of the list.
unfoldable pub each : (ℕ → Bool) → List ℕ → Bool
each test [] = true
each test (n ∷ ns) = both (test n) (each test ns)

-- Row 4, and part of row 2: "capacity, 1 to 512"; the reference "has each number 1 to 1,048,576".
unfoldable pub shape_allowed : Shape → Bool
shape_allowed s = both (within 1 512 s.capacity) (each (within 1 1048576) (reference s))

-- Row 5, and part of row 3: a "trial number (1 to 9,999,999)".
unfoldable pub number_allowed : ℕ → Bool
number_allowed n = within 1 9999999 n

-- Row 6, and part of row 3: "coordinates up to 1,048,576 whatever the reference" (document 02, W-201), on every axis.
unfoldable pub coordinates_allowed : Trial → Bool
coordinates_allowed t = each (within 0 1048576) (point t)

-- Row 2: "capacity, a reference word or words 6 and 7 not as above; count above capacity; total above the box", and by document
-- 02, W-209, "row 2 now refuses word 6 above the count; word 7 is still zero".
unfoldable pub header_allowed : List ℕ → Bool
header_allowed w =
    both (shape_allowed (read_shape w))
    (both (leb (word w 6) (word w 0))
    (both (eqb (word w 7) 0)
    (both (leb (word w 0) (word w 1)) (leb (word w 5) (box (reference (read_shape w)))))))

-- Row 3, one record: "number or coordinate out of range, contribution above the box".
unfoldable pub row_allowed : Shape → Row → Bool
row_allowed s r =
    both (number_allowed r.trial.number)
    (both (coordinates_allowed r.trial) (leb r.kept (box (reference s))))

unfoldable pub rows_allowed : Shape → List Row → Bool
rows_allowed s [] = true
rows_allowed s (r ∷ rows) = both (row_allowed s r) (rows_allowed s rows)

-- Row 3: "order broken". Each trial stands before the next one.
unfoldable pub ordered : List Trial → Bool
ordered [] = true
ordered (t ∷ []) = true
ordered (t ∷ u ∷ ts) = both (before t u) (ordered (u ∷ ts))

-- Whether a trial of this number is held.
unfoldable pub held : ℕ → List Trial → Bool
held n [] = false
held n (t ∷ ts) = either (eqb t.number n) (held n ts)

-- Row 3: "a number twice".
unfoldable pub distinct : List Trial → Bool
distinct [] = true
distinct (t ∷ ts) = both (not (held t.number ts)) (distinct ts)

-- Row 3, the records: each allowed, in order, no number twice.
unfoldable pub sound_rows : Shape → List Row → Bool
sound_rows s rows = both (rows_allowed s rows) (both (ordered (trials rows)) (distinct (trials rows)))

-- Row 3: "an unused word not zero".
unfoldable pub zeros : List ℕ → Bool
zeros l = each (λ n. eqb n 0) l

-- The words of unused records: behind the records, before the extent.
unfoldable pub unused : List ℕ → List ℕ
unused w = slice (8 + 5 * word w 0) (extent (word w 1)) w

-- Row 3.
unfoldable pub records_allowed : List ℕ → Bool
records_allowed w = both (sound_rows (read_shape w) (read w).rows) (zeros (unused w))

-- Rows 1 to 3 in the table's order, row 1 in its two halves, then the rows of the call.
unfoldable pub archive_rows : List ℕ → ℕ → ℕ
archive_rows w rest =
    guard (ltb (length w) 8) 1
    (guard (not (header_allowed w)) 2
    (guard (ltb (length w) (extent (word w 1))) 1
    (guard (not (records_allowed w)) 3 rest)))
