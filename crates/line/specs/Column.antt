-- A column of cells over one x: which of the points passed are lowest there.
use Rattle.std.specs.Prelude.{ℕ, ◌≤◌, ◌<◌, ◌≡◌, List, ltb}
use Rattle.slices.specs.Choices.{pick}
use Rattle.line.specs.declared.column.Column.{Column}
use Rattle.line.specs.Line.{low, low_by}

-- The column with one more point passed, of the index `owner`, at y.
unfoldable pub column_with : Column → ℕ → ℕ → Column
column_with c y owner =
    pick (ltb y c.least) (record { least = y; owner = owner; second = c.least })
    (pick (ltb y c.second) (record { least = c.least; owner = c.owner; second = y }) c)

-- What a column's state says of the rows below ry: none of the points passed dominates the cells below `least`, the
-- owner alone does from there up to `second`, two or more do above.
pub record ColumnState (ry : ℕ) (passed : List ℕ) (column : Column) : Type 0 where
  pub ordered : column.least ≤ column.second
  pub top : column.second ≤ ry
  pub none : (j : ℕ) → j < column.least → low passed j ≡ 0
  pub one : (j : ℕ) → column.least ≤ j → j < column.second → low passed j ≡ 1
  pub owned : (j : ℕ) → column.least ≤ j → j < column.second → low_by column.owner passed j ≡ 1
  pub more : (j : ℕ) → column.second ≤ j → j < ry → 2 ≤ low passed j
