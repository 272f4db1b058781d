-- `settle`: the cells of a column that count for the next point are an interval of rows, and a strip of columns is settled by one
-- product.
use Prim.Native.Nat.{ℕ, ◌+◌, ◌-◌, ◌*◌, ◌≤◌, ◌<◌, max}
use mathlib.Core.Path.{◌≡◌, refl}
use mathlib.Core.Bool.{Bool, true, false}
use mathlib.Core.List.{List}
use native.Mathlib.Nat.{mul-le-mul}
use native.Mathlib.Decide.{dec_le}
use native.Mathlib.Omega.{arith}
use lib.Dec.{leb, eqb}
use borrow.Author.Tests.{le-leb, lt-leb, ne_eqb}
use Rattle.slices.specs.Choices.{both}
use Rattle.hypervolume.specs.Cells.{holds, sum}
use Rattle.hypervolume.proofs.Sums.{sum_none, sum_steady}
use Rattle.line.specs.declared.column.Column.{Column}
use Rattle.line.specs.Line.{low, low_by}
use Rattle.line.specs.Column.{ColumnState}
use Rattle.strips.specs.Strips.{alone, shared}
use Rattle.line.proofs.Tally.{low_by_others}
use Rattle.line.proofs.ColumnLaws.{state_some}

-- A sum of ones over an interval of rows.
pub sum_interval : (n a b : ℕ) (f : ℕ → ℕ) → b ≤ n → ((j : ℕ) → j < a → f j ≡ 0) → ((j : ℕ) → a ≤ j → j < b → f j ≡ 1) → ((j : ℕ) → b ≤ j → j < n → f j ≡ 0) → sum n f ≡ b - a
sum_interval n a b f l before inside after = go (dec_le a b)
  where
    high : sum n f ≡ sum b f
    high =
        let steady : sum n f ≡ sum b f + (n - b) * 0 = sum_steady f 0 b n l after in
        omega arith

    go : Dec (a ≤ b) → sum n f ≡ b - a
    go (yes p) =
        let steady : sum b f ≡ sum a f + (b - a) * 1 = sum_steady f 1 a b p inside in
        let nothing : sum a f ≡ 0 = sum_none a f before in
        omega (arith, high)
    go (no p) =
        let nothing : sum b f ≡ 0 = sum_none b f (λ j m. before j (omega arith)) in
        omega (arith, high)

-- The rows of the column that p, from py on, dominates and no point passed does; and those that it dominates with
-- the point of index t alone.
unfoldable pub gain_row : List ℕ → ℕ → ℕ → ℕ
gain_row passed py j = holds (both (leb py j) (eqb (low passed j) 0))

unfoldable pub shared_row : ℕ → List ℕ → ℕ → ℕ → ℕ
shared_row t passed py j = holds (both (leb py j) (both (eqb (low passed j) 1) (leb 1 (low_by t passed j))))

row_before : (py j : ℕ) (b : Bool) → j < py → holds (both (leb py j) b) ≡ 0
unfolding both holds
row_before py j b l = rw (lt-leb py j l)

row_closed : (a : Bool) → holds (both a false) ≡ 0
unfolding both holds
row_closed true = refl
row_closed false = refl

module _ {ry : ℕ} {passed : List ℕ} {column : Column} (h : ColumnState ry passed column) (py : ℕ) where
  pub gain_row_sum : sum ry (gain_row passed py) ≡ alone column py
  unfolding gain_row both holds
  gain_row_sum = sum_interval ry py column.least (gain_row passed py) (omega (arith, h.ordered, h.top)) (λ j l. row_before py j (eqb (low passed j) 0) l) inside after
    where
      inside : (j : ℕ) → py ≤ j → j < column.least → gain_row passed py j ≡ 1
      inside j l m = rw (le-leb py j l, h.none j m)

      after : (j : ℕ) → column.least ≤ j → j < ry → gain_row passed py j ≡ 0
      after j l m =
          let some : 1 ≤ low passed j = state_some h j l m in
          rw (ne_eqb (low passed j) 0 (λ e. omega arith)) (row_closed (leb py j))

  -- rows below `least` and rows from `second` on are shared with nobody
  closed_low : (t j : ℕ) → j < column.least → shared_row t passed py j ≡ 0
  unfolding shared_row both
  closed_low t j l = rw (h.none j l) (row_closed (leb py j))

  closed_high : (t j : ℕ) → column.second ≤ j → j < ry → shared_row t passed py j ≡ 0
  unfolding shared_row both
  closed_high t j l m =
      let two : 2 ≤ low passed j = h.more j l m in
      rw (ne_eqb (low passed j) 1 (λ e. omega arith)) (row_closed (leb py j))

  pub shared_row_sum : sum ry (shared_row column.owner passed py) ≡ shared column py
  unfolding shared_row both holds
  shared_row_sum =
      sum_interval ry (max column.least py) column.second (shared_row column.owner passed py) h.top before inside (closed_high column.owner)
    where
      before : (j : ℕ) → j < max column.least py → shared_row column.owner passed py j ≡ 0
      before j l = go (dec_le py j)
        where
          go : Dec (py ≤ j) → shared_row column.owner passed py j ≡ 0
          go (yes p) = closed_low column.owner j (omega arith)
          go (no p) = row_before py j (both (eqb (low passed j) 1) (leb 1 (low_by column.owner passed j))) (omega arith)

      inside : (j : ℕ) → max column.least py ≤ j → j < column.second → shared_row column.owner passed py j ≡ 1
      inside j l m =
          let at_least : column.least ≤ j = omega arith in
          rw (le-leb py j (omega arith), h.one j at_least m, h.owned j at_least m)

  pub shared_row_sum_other : (t : ℕ) → (t ≡ column.owner → ⊥) → sum ry (shared_row t passed py) ≡ 0
  unfolding shared_row both holds
  shared_row_sum_other t n = sum_none ry (shared_row t passed py) (λ j m. go j m (dec_le column.least j) (dec_le column.second j))
    where
      go : (j : ℕ) → j < ry → Dec (column.least ≤ j) → Dec (column.second ≤ j) → shared_row t passed py j ≡ 0
      go j m (no p) q = closed_low t j (omega arith)
      go j m (yes p) (yes q) = closed_high t j q m
      go j m (yes p) (no q) =
          let others : low_by t passed j + low_by column.owner passed j ≤ low passed j = low_by_others t column.owner passed j n in
          let inner : j < column.second = omega arith in
          let nobody : low_by t passed j ≡ 0 = omega (arith, h.one j p inner, h.owned j p inner) in
          rw (h.one j p inner, nobody) (row_closed (leb py j))

-- Products of two and of three numbers up to 1,048,576 fit a word.
pub two_fit : {a b : ℕ} → a ≤ 1048576 → b ≤ 1048576 → a * b ≤ 1099511627776
two_fit p q = mul-le-mul p q

pub three_fit : {a b c : ℕ} → a ≤ 1048576 → b ≤ 1048576 → c ≤ 1048576 → a * (b * c) ≤ 1152921504606846976
three_fit p q r = mul-le-mul p (two_fit q r)
