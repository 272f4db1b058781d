-- One pass over the line, for the next point p: strips of columns that are alike.
use Rattle.std.specs.Prelude.{ℕ, ◌+◌, ◌-◌, ◌*◌, ◌≤◌, ◌<◌, max, ◌≡◌, List, ◌∷◌, [], leb, eqb, length, take, get_or, set}
use Rattle.slices.specs.Choices.{both}
use Rattle.hypervolume.specs.Cells.{dominates, count}
use Rattle.line.specs.declared.column.Column.{Column}
use Rattle.line.specs.Line.{x_of, index_of, over, over_by, Rising}
use Rattle.line.specs.Column.{ColumnState}

-- The column that the entries of a line make: how they stand, and that its owner is one of theirs (or 0).
pub record Seen (ry : ℕ) (line : List ℕ) (column : Column) : Type 0 where
  pub state : ColumnState ry line column
  pub owned : (n : ℕ) → ((k : ℕ) → index_of (get_or line k 0) < n) → column.owner < n

-- In one column: how many cells p dominates and no point passed does, and how many p and the owner alone do.
abbrev pub alone : Column → ℕ → ℕ
alone c py = c.least - py

abbrev pub shared : Column → ℕ → ℕ
shared c py = c.second - max c.least py

-- Settling the columns from `from` up to `to`, which are alike: what it asks, and what it answers and leaves.
pub record Settling (column : Column) (from to py height : ℕ) (out : List ℕ) : Type 0 where
  pub owned : column.owner < length out
  pub enough : height * ((to - from) * shared column py) ≤ get_or out column.owner 0
  pub to_small : to ≤ 1048576
  pub least_small : column.least ≤ 1048576
  pub second_small : column.second ≤ 1048576
  pub height_small : height ≤ 1048576

pub record Settled (column : Column) (from to py height : ℕ) (out left : List ℕ) (area : ℕ) : Type 0 where
  pub gained : area ≡ (to - from) * alone column py
  pub fallen : left ≡ set out column.owner (get_or out column.owner 0 - height * ((to - from) * shared column py))

-- The cells of the layer that p dominates and no entry does.
unfoldable pub gain_over : List ℕ → List ℕ → List ℕ → ℕ
gain_over r line p = count r (λ c. both (dominates p c) (eqb (over line c) 0))

-- The cells of the layer that p dominates and one entry does, that of the point of index j.
unfoldable pub shared_with : List ℕ → List ℕ → List ℕ → ℕ → ℕ
shared_with r line p j = count r (λ c. both (dominates p c) (both (eqb (over line c) 1) (leb 1 (over_by j line c))))

-- The pass, from the entry at `start` on: what it asks, and what it answers and leaves. `height` is the number of layers.
pub record Crossing (line : List ℕ) (start : ℕ) (first : Column) (px py rx ry height : ℕ) (out : List ℕ) : Type 0 where
  pub rising : Rising 0 line
  pub indices : (k : ℕ) → index_of (get_or line k 0) < length out
  pub reached : (k : ℕ) → k < start → x_of (get_or line k 0) ≤ px
  pub state : ColumnState ry (take start line) first
  pub owned : first.owner < length out
  pub rx_small : rx ≤ 1048576
  pub ry_small : ry ≤ 1048576
  pub height_small : height ≤ 1048576
  pub enough : (j : ℕ) → height * shared_with (rx ∷ ry ∷ []) line (px ∷ py ∷ []) j ≤ get_or out j 0

pub record Crossed (line : List ℕ) (px py rx ry height : ℕ) (out left : List ℕ) (area : ℕ) : Type 0 where
  pub gained : area ≡ gain_over (rx ∷ ry ∷ []) line (px ∷ py ∷ [])
  pub fallen : (j : ℕ) → get_or left j 0 + height * shared_with (rx ∷ ry ∷ []) line (px ∷ py ∷ []) j ≡ get_or out j 0
