-- The layout of an archive as words, and the reading of words as an archive (document 01, "The archive's words").
use Rattle.std.specs.Prelude.{ℕ, zero, suc, ◌+◌, ◌-◌, ◌*◌, List, ◌∷◌, ◌++◌, [], length, get_or, drop, replicate}
use Rattle.words.specs.Archive.{Row, Shape, Archive}

-- "Word 0: count of trials. 1: capacity. 2, 3, 4: rx, ry, rz. 5: total. 6 and 7: zero", where by document 02, W-209, word 6
-- "holds how many trials are on the front" and "word 7 is still zero".
abbrev pub header_words : ℕ → Shape → ℕ → ℕ → List ℕ
header_words count s total front = count ∷ s.capacity ∷ s.rx ∷ s.ry ∷ s.rz ∷ total ∷ front ∷ 0 ∷ []

unfoldable pub header : Archive → List ℕ
header a = header_words (length a.rows) a.shape a.sum a.front

-- "Records of five words: trial number, x, y, z, contribution."
unfoldable pub record_words : Row → List ℕ
record_words r = r.trial.number ∷ r.trial.x ∷ r.trial.y ∷ r.trial.z ∷ r.kept ∷ []

unfoldable pub records : List Row → List ℕ
records [] = []
records (r ∷ rows) = record_words r ++ records rows

-- How many words an archive of this capacity takes.
unfoldable pub extent : ℕ → ℕ
extent capacity = 8 + 5 * capacity

-- "From word 8 come records"; "words of unused records are zero".
unfoldable pub layout : Archive → List ℕ
layout a = header a ++ (records a.rows ++ replicate (5 * (a.shape.capacity - length a.rows)) 0)

-- The word at a place.
abbrev pub word : List ℕ → ℕ → ℕ
word w i = get_or w i 0

-- The five words at the front, read as a record.
unfoldable pub read_row : List ℕ → Row
read_row w =
    record {
      trial = record { number = word w 0; x = word w 1; y = word w 2; z = word w 3 };
      kept = word w 4;
    }

-- The first n records of these words.
unfoldable pub read_rows : ℕ → List ℕ → List Row
read_rows zero w = []
read_rows (suc n) w = read_row w ∷ read_rows n (drop 5 w)

unfoldable pub read_shape : List ℕ → Shape
read_shape w = record { capacity = word w 1; rx = word w 2; ry = word w 3; rz = word w 4 }

-- The archive that the words hold.
unfoldable pub read : List ℕ → Archive
read w =
    record { shape = read_shape w; sum = word w 5; front = word w 6; rows = read_rows (word w 0) (drop 8 w) }

-- "Words from 8 + 5 × capacity on are neither read nor written": the words behind.
unfoldable pub behind : List ℕ → List ℕ
behind w = drop (extent (word w 1)) w
