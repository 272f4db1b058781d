-- `look_back` for the column at the next point: an entry without the flag has the least y so far, so
-- the entries before it do not change a column whose second least y is at most that.
use Prim.Native.Nat.{ℕ, suc, ◌-◌, ◌≤◌, ◌<◌}
use mathlib.Core.Path.{◌≡◌}
use mathlib.Core.Bool.{true}
use mathlib.Core.List.{List, []}
use native.Mathlib.Omega.{arith}
use lib.Dec.{leb, eqb}
use lib.ListN.{length, take, drop, get_or, take-append-drop}
use lib.Seq.{drop-cons, drop-length}
use borrow.Author.Tests.{leb-true, eqb-true}
use Rattle.slices.specs.Choices.{both}
use Rattle.slices.proofs.Choices.{both_true}
use Rattle.line.specs.declared.column.Column.{Column}
use Rattle.line.specs.Line.{y_of, index_of, flag_of, Flagged}
use Rattle.line.specs.Column.{column_with, ColumnState}
use Rattle.strips.specs.Strips.{Seen}
use Rattle.line.proofs.ColumnLaws.{state_none, state_before, state_behind, column_with_owned}
use Rattle.line.proofs.Flags.{flagged_at}

-- The entries from k on have been looked at.
pub record Looked (ry : ℕ) (line : List ℕ) (column : Column) (k : ℕ) : Type 0 where
  pub flags : Flagged [] line
  pub within : k ≤ length line
  pub state : ColumnState ry (drop k line) column
  pub owned : (n : ℕ) → ((k : ℕ) → index_of (get_or line k 0) < n) → column.owner < n

pub looked_none : (ry : ℕ) (line : List ℕ) → Flagged [] line → Looked ry line (record { least = ry; owner = 0; second = ry }) (length line)
looked_none ry line f =
    record {
      flags = f;
      within = omega arith;
      state = rw (drop-length line) (state_none ry);
      owned = λ n h. omega (arith, h 0);
    }

module _ {ry : ℕ} {line : List ℕ} {column : Column} {k : ℕ} (h : Looked ry line column k) (l : 0 < k) {y index : ℕ} (e : y ≡ y_of (get_or line (k - 1) 0)) (f : index ≡ index_of (get_or line (k - 1) 0)) {column' : Column} (g : column' ≡ column_with column y index) where
  pub looked_more : Looked ry line column' (k - 1)
  looked_more =
      let back : suc (k - 1) ≡ k = omega arith in
      rw (g, e, f)
      (record {
        flags = h.flags;
        within = omega (arith, h.within);
        state =
            rw (drop-cons line (k - 1) 0 (omega (arith, h.within)), back)
            (state_before h.state (get_or line (k - 1) 0));
        owned = λ n m.
            column_with_owned column (y_of (get_or line (k - 1) 0)) (index_of (get_or line (k - 1) 0)) n (h.owned n m) (m (k - 1));
      })

  pub looked_stop : both (eqb (flag_of (get_or line (k - 1) 0)) 0) (leb column'.second (y_of (get_or line (k - 1) 0))) ≡ true → Seen ry line column'
  looked_stop d =
      let tests = both_true (eqb (flag_of (get_or line (k - 1) 0)) 0) (leb column'.second (y_of (get_or line (k - 1) 0))) d in
      let clear : flag_of (get_or line (k - 1) 0) ≡ 0 = eqb-true (flag_of (get_or line (k - 1) 0)) 0 tests.0 in
      let under : column'.second ≤ y_of (get_or line (k - 1) 0) = leb-true column'.second (y_of (get_or line (k - 1) 0)) tests.1 in
      record {
        state =
            rw (take-append-drop (k - 1) line) at
            (state_behind looked_more.state (take (k - 1) line)
            (λ j m. (flagged_at [] line h.flags (k - 1) (omega (arith, h.within))).clear clear j (omega arith)));
        owned = looked_more.owned;
      }
