-- One field of consecutive records: how it lies in the words, and as a list. Used by the contracts of the inner
-- functions; no exported contract cites it.
use Rattle.std.specs.Prelude.{ℕ, zero, suc, ◌+◌, List, ◌∷◌, ◌++◌, map, [], ltb, get_or, take, drop}
use Rattle.slices.specs.Choices.{pick}
use Rattle.words.specs.Archive.{Row}
use Rattle.words.specs.Layout.{record_words}

-- The first n of every five words, read from the front.
unfoldable pub fifths : ℕ → List ℕ → List ℕ
fifths zero w = []
fifths (suc n) w = get_or w 0 0 ∷ fifths n (drop 5 w)

-- A field of a record by its place: 0 the trial number, 1 to 3 the coordinates by axis, 4 the kept contribution.
unfoldable pub field_of : ℕ → Row → ℕ
field_of k r = get_or (record_words r) k 0

unfoldable pub column : ℕ → List Row → List ℕ
column k rows = map (field_of k) rows

-- The records but the one at place k; all of them where there is none.
unfoldable pub leave_out : ℕ → List Row → List Row
leave_out k rows = take k rows ++ drop (suc k) rows

-- The place among all records of the one at place p of the records but the one at place k.
unfoldable pub place_but : ℕ → ℕ → ℕ
place_but k p = pick (ltb p k) p (p + 1)

-- These records with these kept contributions.
unfoldable pub rekept : List Row → List ℕ → List Row
rekept [] vs = []
rekept (r ∷ rows) [] = r ∷ rows
rekept (r ∷ rows) (v ∷ vs) = record { trial = r.trial; kept = v } ∷ rekept rows vs
