-- The line: the points passed by the sweep, seen along z, in ascending order of x. Each is one word, an entry,
-- that holds x, y, the point's index in the list and a flag. A point that two entries cover is not in the line: it
-- no longer counts (law 6).
use Rattle.std.specs.Prelude.{ℕ, ◌+◌, ◌*◌, ◌/◌, ◌%◌, ◌≤◌, ◌<◌, min, ◌≡◌, Bool, true, List, ◌∷◌, ◌++◌, [], leb, eqb, length, get_or}
use Rattle.slices.specs.Choices.{both}
use Rattle.hypervolume.specs.Cells.{holds, dominates}

-- An entry without the flag, and one with it.
abbrev pub entry_of : ℕ → ℕ → ℕ → ℕ
entry_of x y index = ((x * 2097152 + y) * 1024 + index) * 2

abbrev pub flagged : ℕ → ℕ
flagged w = w / 2 * 2 + 1

abbrev pub x_of : ℕ → ℕ
x_of w = w / 4294967296

abbrev pub y_of : ℕ → ℕ
y_of w = w / 2048 % 2097152

abbrev pub index_of : ℕ → ℕ
index_of w = w / 2 % 1024

abbrev pub flag_of : ℕ → ℕ
flag_of w = w % 2

-- The point of an entry, seen along z.
abbrev pub spot : ℕ → List ℕ
spot w = x_of w ∷ y_of w ∷ []

-- How many entries pass a test.
unfoldable pub tally : (ℕ → Bool) → List ℕ → ℕ
tally test [] = 0
tally test (w ∷ line) = holds (test w) + tally test line

-- How many entries dominate a cell of the layer, and how many of those are of the point of index j.
unfoldable pub over : List ℕ → List ℕ → ℕ
over line c = tally (λ w. dominates (spot w) c) line

unfoldable pub over_by : ℕ → List ℕ → List ℕ → ℕ
over_by j line c = tally (λ w. both (eqb (index_of w) j) (dominates (spot w) c)) line

-- How many entries are at most j on y, and how many of those are of the point of index t.
unfoldable pub low : List ℕ → ℕ → ℕ
low line j = tally (λ w. leb (y_of w) j) line

unfoldable pub low_by : ℕ → List ℕ → ℕ → ℕ
low_by t line j = tally (λ w. both (eqb (index_of w) t) (leb (y_of w) j)) line

-- The entries ascend on x, from this x on.
unfoldable pub Rising : ℕ → List ℕ → Type 0
Rising x [] = Unit {0}
Rising x (w ∷ line) = (x ≤ x_of w) × Rising (x_of w) line

-- What the flag of an entry says of the entries before it: where it is clear, none of them is below it on y; where
-- it is set, they dominate all that it dominates.
pub record FlagRight (before : List ℕ) (w : ℕ) : Type 0 where
  pub clear : flag_of w ≡ 0 → (j : ℕ) → j < y_of w → low before j ≡ 0
  pub set : flag_of w ≡ 1 → (i j : ℕ) → dominates (spot w) (i ∷ j ∷ []) ≡ true → 1 ≤ over before (i ∷ j ∷ [])

unfoldable pub Flagged : List ℕ → List ℕ → Type 0
Flagged before [] = Unit {0}
Flagged before (w ∷ line) = FlagRight before w × Flagged (before ++ (w ∷ [])) line

-- A line as the sweep keeps it.
pub record ValidLine (line : List ℕ) : Type 0 where
  pub rising : Rising 0 line
  pub flags : Flagged [] line

-- A search for the place of a point at x: it lies among `size` entries from `low` on, or right behind them.
pub record Between (line : List ℕ) (x low size : ℕ) : Type 0 where
  pub rising : Rising 0 line
  pub within : low + size ≤ length line
  pub before : (k : ℕ) → k < low → x_of (get_or line k 0) ≤ x
  pub after : (k : ℕ) → low + size ≤ k → k < length line → x < x_of (get_or line k 0)

-- Where a point at x belongs: behind the entries that are at most x.
pub record Ranked (line : List ℕ) (x at : ℕ) : Type 0 where
  pub within : at ≤ length line
  pub before : (k : ℕ) → k < at → x_of (get_or line k 0) ≤ x
  pub after : (k : ℕ) → at ≤ k → k < length line → x < x_of (get_or line k 0)

-- Two lines that count alike at a cell: as many entries dominate it, where two are as good as more, and the same ones where
-- it is at most one. Alike: at every cell of the rows below ry.
pub record AlikeAt (line other : List ℕ) (i j : ℕ) : Type 0 where
  pub many : min (over other (i ∷ j ∷ [])) 2 ≡ min (over line (i ∷ j ∷ [])) 2
  pub whose : (t : ℕ) → over line (i ∷ j ∷ []) ≤ 1 → over_by t other (i ∷ j ∷ []) ≡ over_by t line (i ∷ j ∷ [])

abbrev pub Alike : ℕ → List ℕ → List ℕ → Type 0
Alike ry line other = (i j : ℕ) → j < ry → AlikeAt line other i j
