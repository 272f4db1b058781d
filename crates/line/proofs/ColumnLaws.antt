-- `Column::with`: the state (least y, its owner, second least y) of the points passed says how many of them dominate each cell
-- of the column.
use Prim.Native.Nat.{ℕ, suc, ◌+◌, ◌≤◌, ◌<◌}
use mathlib.Core.Path.{◌≡◌, refl, ◌∙◌}
use mathlib.Core.Bool.{Bool, true, false}
use mathlib.Core.List.{List, ◌∷◌, ◌++◌, []}
use native.Mathlib.Nat.{add_comm}
use native.Mathlib.Decide.{dec_le}
use native.Mathlib.Omega.{arith}
use lib.Dec.{leb, eqb, ltb}
use borrow.Author.Tests.{le-leb, lt-leb, eq-eqb}
use Rattle.slices.specs.Choices.{both, pick}
use Rattle.hypervolume.specs.Cells.{holds}
use Rattle.hypervolume.proofs.Tests.{Compared, below, above, compared, both_le_right}
use Rattle.line.specs.declared.column.Column.{Column}
use Rattle.line.specs.Line.{tally, y_of, index_of, low, low_by}
use Rattle.line.specs.Column.{column_with, ColumnState}
use Rattle.line.proofs.Tally.{low_append, low_by_append, low_more, low_by_more, low_by_le}

pub state_none : (ry : ℕ) → ColumnState ry [] (record { least = ry; owner = 0; second = ry })
unfolding low tally
state_none ry =
    record {
      ordered = omega arith;
      top = omega arith;
      none = λ j l. refl;
      one = λ j l m. absurd (let no' : ⊥ = omega arith in no');
      owned = λ j l m. absurd (let no' : ⊥ = omega arith in no');
      more = λ j l m. absurd (let no' : ⊥ = omega arith in no');
    }

-- from `least` on at least one dominates
pub state_some : {ry : ℕ} {passed : List ℕ} {column : Column} → ColumnState ry passed column → (j : ℕ) → column.least ≤ j → j < ry → 1 ≤ low passed j
state_some {ry} {passed} {column} h j l m = go (dec_le column.second j)
  where
    go : Dec (column.second ≤ j) → 1 ≤ low passed j
    go (yes p) = omega (arith, h.more j p m)
    go (no p) =
        let q : j < column.second = omega arith in
        omega (arith, h.one j l q)

pub holds_under : (y j : ℕ) → y ≤ j → holds (leb y j) ≡ 1
unfolding holds
holds_under y j l = rw (le-leb y j l)

pub holds_beyond : (y j : ℕ) → j < y → holds (leb y j) ≡ 0
unfolding holds
holds_beyond y j l = rw (lt-leb y j l)

mine : (p y j : ℕ) → y ≤ j → holds (both (eqb p p) (leb y j)) ≡ 1
unfolding both
mine p y j l = rw (eq-eqb p p refl) (holds_under y j l)

yours : (a : Bool) (y j : ℕ) → j < y → holds (both a (leb y j)) ≡ 0
yours a y j l = let less : holds (both a (leb y j)) ≤ holds (leb y j) = both_le_right a (leb y j) in omega (arith, holds_beyond y j l)

-- One more entry, behind those passed or before them.
module _ {ry : ℕ} {passed : List ℕ} {column : Column} (h : ColumnState ry passed column) (w : ℕ) {all : List ℕ} (low-all : (j : ℕ) → low all j ≡ low passed j + holds (leb (y_of w) j)) (low-by-all : (t j : ℕ) → low_by t all j ≡ low_by t passed j + holds (both (eqb (index_of w) t) (leb (y_of w) j))) where
  -- the new point is the lowest
  state_least : y_of w < column.least → ColumnState ry all (record { least = y_of w; owner = index_of w; second = column.least })
  state_least y =
      record {
        ordered = omega arith;
        top = omega arith;
        none = λ j l. omega (arith, low-all j, holds_beyond (y_of w) j l, h.none j (omega arith));
        one = λ j l m. omega (arith, low-all j, holds_under (y_of w) j l, h.none j m);
        owned = λ j l m. omega (arith, low-by-all (index_of w) j, mine (index_of w) (y_of w) j l, low_by_le (index_of w) passed j, h.none j m);
        more = λ j l m. omega (arith, low-all j, holds_under (y_of w) j (let u : y_of w ≤ j = omega arith in u), state_some h j l m);
      }

  -- the new point is the second lowest
  state_second : column.least ≤ y_of w → y_of w < column.second → ColumnState ry all (record { least = column.least; owner = column.owner; second = y_of w })
  state_second x y =
      record {
        ordered = omega arith;
        top = omega arith;
        none = λ j l. omega (arith, low-all j, holds_beyond (y_of w) j (let u : j < y_of w = omega arith in u), h.none j l);
        one = λ j l m. omega (arith, low-all j, holds_beyond (y_of w) j m, h.one j l (let u : j < column.second = omega arith in u));
        owned = λ j l m.
            omega (arith, low-by-all column.owner j, yours (eqb (index_of w) column.owner) (y_of w) j m, h.owned j l (let u : j < column.second = omega arith in u));
        more = λ j l m.
            omega (arith, low-all j, holds_under (y_of w) j l, state_some h j (let u : column.least ≤ j = omega arith in u) m);
      }

  -- the new point lies above the second lowest
  state_kept : column.second ≤ y_of w → ColumnState ry all column
  state_kept y =
      record {
        ordered = omega arith;
        top = omega arith;
        none = λ j l. omega (arith, low-all j, holds_beyond (y_of w) j (let u : j < y_of w = omega (arith, h.ordered) in u), h.none j l);
        one = λ j l m. omega (arith, low-all j, holds_beyond (y_of w) j (let u : j < y_of w = omega arith in u), h.one j l m);
        owned = λ j l m.
            omega (arith, low-by-all column.owner j, yours (eqb (index_of w) column.owner) (y_of w) j (let u : j < y_of w = omega arith in u), h.owned j l m);
        more = λ j l m. omega (arith, low-all j, h.more j l m);
      }

  state_with : ColumnState ry all (column_with column (y_of w) (index_of w))
  unfolding column_with pick
  state_with = go (ltb (y_of w) column.least) (ltb (y_of w) column.second) (compared (suc (y_of w)) column.least) (compared (suc (y_of w)) column.second)
    where
      go : (a b : Bool) → Compared (suc (y_of w)) column.least a → Compared (suc (y_of w)) column.second b → ColumnState ry all (pick a (record { least = y_of w; owner = index_of w; second = column.least }) (pick b (record { least = column.least; owner = column.owner; second = y_of w }) column))
      go true true (below p) (below q) = state_least p
      go true false (below p) (above q) = state_least p
      go false true (above p) (below q) = state_second (omega arith) q
      go false false (above p) (above q) = state_kept (omega arith)

module _ {ry : ℕ} {passed : List ℕ} {column : Column} (h : ColumnState ry passed column) where
  pub state_more : (w : ℕ) → ColumnState ry (passed ++ (w ∷ [])) (column_with column (y_of w) (index_of w))
  state_more w = state_with h w (low_more passed w) (λ t. low_by_more t passed w)

  pub state_before : (w : ℕ) → ColumnState ry (w ∷ passed) (column_with column (y_of w) (index_of w))
  unfolding low low_by tally
  state_before w =
      state_with h w
      (λ j. add_comm (holds (leb (y_of w) j)) (low passed j))
      (λ t j. add_comm (holds (both (eqb (index_of w) t) (leb (y_of w) j))) (low_by t passed j))

  -- Entries that lie no lower than the second lowest change nothing.
  pub state_behind : (earlier : List ℕ) → ((j : ℕ) → j < column.second → low earlier j ≡ 0) → ColumnState ry (earlier ++ passed) column
  state_behind earlier e =
      record {
        ordered = h.ordered;
        top = h.top;
        none = λ j l. low_append earlier passed j ∙ omega (arith, e j (let u : j < column.second = omega (arith, h.ordered) in u), h.none j l);
        one = λ j l m. low_append earlier passed j ∙ omega (arith, e j m, h.one j l m);
        owned = λ j l m.
            low_by_append column.owner earlier passed j
            ∙ omega (arith, e j m, low_by_le column.owner earlier j, h.owned j l m);
        more = λ j l m. omega (arith, low_append earlier passed j, h.more j l m);
      }

pub column_with_owned : (column : Column) (y owner n : ℕ) → column.owner < n → owner < n → (column_with column y owner).owner < n
unfolding column_with pick
column_with_owned column y owner n p q = go (ltb y column.least) (ltb y column.second)
  where
    go : (a b : Bool) → (pick a (record { least = y; owner = owner; second = column.least }) (pick b (record { least = column.least; owner = column.owner; second = y }) column)).owner < n
    go true b = q
    go false true = p
    go false false = p
