-- `strips`, the pass over the line: the columns between neighbouring x's are alike; the invariant counts the columns passed.
use Prim.Native.Nat.{ℕ, zero, suc, ◌+◌, ◌-◌, ◌*◌, ◌^◌, ◌≤◌, ◌<◌, max, min}
use mathlib.Core.Path.{◌≡◌, refl, sym, ap, ◌∙◌}
use mathlib.Core.Bool.{Bool, true, false}
use mathlib.Core.List.{List, ◌∷◌, []}
use native.Mathlib.Nat.{add-zero, zero-mul, mul-zero, mul-le-mul_left, mul-add}
use native.Mathlib.Decide.{dec_le, ℕ_discrete}
use native.Mathlib.Numerals.{add-one}
use native.Mathlib.Omega.{arith}
use lib.Dec.{leb, eqb}
use lib.ListN.{length, take, get_or, length-set}
use lib.Seq.{get_or-set_same, get_or-set_other, take-suc}
use borrow.Author.Tests.{le-leb, lt-leb, ne_eqb}
use borrow.Author.Count.{below_more}
use Rattle.slices.specs.Choices.{both}
use Rattle.hypervolume.specs.Cells.{holds, dominates, sum, cells, count}
use Rattle.hypervolume.proofs.Sums.{sum_ext, sum_le, sum_const, sum_none, sum_steady}
use Rattle.hypervolume.proofs.Tests.{Compared, below, compared, holds_le_one}
use Rattle.slices.proofs.Choices.{both_comm}
use Rattle.line.specs.declared.column.Column.{Column}
use Rattle.line.specs.Line.{x_of, y_of, index_of, low, low_by, over, over_by, Rising}
use Rattle.strips.specs.Strips.{gain_over, shared_with, alone, shared, Settling, Settled, Crossing, Crossed}
use Rattle.line.specs.Column.{column_with, ColumnState}
use Rattle.line.proofs.Rising.{rising_pair}
use Rattle.line.proofs.Tally.{column_least, column_tally}
use Rattle.line.proofs.ColumnLaws.{state_more, column_with_owned}
use Rattle.strips.proofs.SettleLaws.{gain_row, shared_row, gain_row_sum, shared_row_sum, shared_row_sum_other, two_fit}

-- Column i of the layer: how many of its cells p dominates and no entry does, and how many p dominates with the point
-- of index t alone. Over all columns these are gain-over and shared-with.
unfoldable pub gain_column : List ℕ → ℕ → ℕ → ℕ → ℕ → ℕ
gain_column line px py ry i =
    sum ry (λ j. holds (both (dominates (px ∷ py ∷ []) (i ∷ j ∷ [])) (eqb (over line (i ∷ j ∷ [])) 0)))

unfoldable pub shared_column : ℕ → List ℕ → ℕ → ℕ → ℕ → ℕ → ℕ
shared_column t line px py ry i =
    sum ry (λ j. holds (both (dominates (px ∷ py ∷ []) (i ∷ j ∷ [])) (both (eqb (over line (i ∷ j ∷ [])) 1) (leb 1 (over_by t line (i ∷ j ∷ []))))))

-- What the pass has after k entries, with the columns before `at` settled.
pub record Swept (line : List ℕ) (px py rx ry height : ℕ) (out : List ℕ) (k at area : ℕ) (column : Column) (left : List ℕ) : Type 0 where
  pub from : min px rx ≤ at
  pub within : at ≤ rx
  pub passed : (a : ℕ) → a < k → min (x_of (get_or line a 0)) rx ≤ at
  pub state : ColumnState ry (take k line) column
  pub owned : column.owner < length out
  pub alike : length left ≡ length out
  pub gained : area ≡ sum at (gain_column line px py ry)
  pub fallen : (j : ℕ) → get_or left j 0 + height * sum at (shared_column j line px py ry) ≡ get_or out j 0

-- columns before p
gain_column_before : (line : List ℕ) (px py ry i : ℕ) → i < px → gain_column line px py ry i ≡ 0
unfolding gain_column dominates both holds
gain_column_before line px py ry i l = sum_none ry _ (λ j m. rw (lt-leb px i l))

shared_column_before : (t : ℕ) (line : List ℕ) (px py ry i : ℕ) → i < px → shared_column t line px py ry i ≡ 0
unfolding shared_column dominates both holds
shared_column_before t line px py ry i l = sum_none ry _ (λ j m. rw (lt-leb px i l))

pub swept_none : {line : List ℕ} {start : ℕ} {first : Column} {px py rx ry height : ℕ} {out : List ℕ} → Crossing line start first px py rx ry height out → {at : ℕ} → at ≡ min px rx → Swept line px py rx ry height out start at 0 first out
swept_none {line} {start} {first} {px} {py} {rx} {ry} {height} {out} c {at} e =
    record {
      from = omega arith;
      within = omega arith;
      passed = λ a m. omega (arith, c.reached a m);
      state = c.state;
      owned = c.owned;
      alike = refl;
      gained = sym (sum_none at (gain_column line px py ry) (λ i m. gain_column_before line px py ry i (omega arith)));
      fallen = λ j.
          rw (sum_none at (shared_column j line px py ry) (λ i m. shared_column_before j line px py ry i (omega arith)), mul-zero height)
          (add-zero (get_or out j 0));
    }

gain_column_le : (line : List ℕ) (px py ry i : ℕ) → gain_column line px py ry i ≤ ry
unfolding gain_column
gain_column_le line px py ry i =
    let rows : gain_column line px py ry i ≤ sum ry (λ j. 1) =
    sum_le ry _ (λ j. 1) (λ j l. holds_le_one (both (dominates (px ∷ py ∷ []) (i ∷ j ∷ [])) (eqb (over line (i ∷ j ∷ [])) 0))) in
    omega (arith, sum_const ry 1)

-- a sum over columns that are alike from a up to b
sum_strip : (f : ℕ → ℕ) (v a b : ℕ) → ((i : ℕ) → a ≤ i → i < b → f i ≡ v) → sum (max a b) f ≡ sum a f + (b - a) * v
sum_strip f v a b h = go (dec_le a b)
  where
    go : Dec (a ≤ b) → sum (max a b) f ≡ sum a f + (b - a) * v
    go (yes p) =
        let most : max a b ≡ b = omega arith in
        rw most (sum_steady f v a b p h)
    go (no p) =
        let most : max a b ≡ a = omega arith in
        let none : b - a ≡ 0 = omega arith in
        rw (most, none, zero-mul v) (sym (add-zero (sum a f)))

sum_longer : (f : ℕ → ℕ) (a b : ℕ) → a ≤ b → sum a f ≤ sum b f
unfolding sum
sum_longer f a zero l = let none : a ≡ 0 = omega arith in rw none (omega arith)
sum_longer f a (suc b) l = go (dec_le a b) (sum_longer f a b)
  where
    go : Dec (a ≤ b) → (a ≤ b → sum a f ≤ sum b f) → sum a f ≤ sum (suc b) f
    go (yes p) shorter = omega (arith, shorter p)
    go (no p) shorter = let same' : a ≡ suc b = omega arith in rw same' (omega arith)

-- Up to `to` the columns are alike, where no entry ahead begins before it.
module _ {line : List ℕ} {px py rx ry height : ℕ} {out : List ℕ} {k at area : ℕ} {column : Column} {left : List ℕ} (h : Swept line px py rx ry height out k at area column left) (to : ℕ) (last : to ≤ rx) (ahead : (a : ℕ) → k ≤ a → a < length line → to ≤ x_of (get_or line a 0)) where
  module _ (i : ℕ) (l : at ≤ i) (m : i < to) where
    reach : (a : ℕ) → a < k → a < length line → x_of (get_or line a 0) ≤ i
    reach a n o = omega (arith, h.passed a n, h.within)

    miss : (a : ℕ) → k ≤ a → a < length line → i < x_of (get_or line a 0)
    miss a n o = omega (arith, ahead a n o)

    over_here : (j : ℕ) → over line (i ∷ j ∷ []) ≡ low (take k line) j
    unfolding over low both
    over_here j = column_tally (λ w. true) line k i j reach miss

    over_by_here : (t j : ℕ) → over_by t line (i ∷ j ∷ []) ≡ low_by t (take k line) j
    unfolding over_by low_by
    over_by_here t j = column_tally (λ w. eqb (index_of w) t) line k i j reach miss

    right_of : px ≤ i
    right_of = omega (arith, h.from, h.within)

    dominates_here : (j : ℕ) → dominates (px ∷ py ∷ []) (i ∷ j ∷ []) ≡ leb py j
    unfolding dominates both
    dominates_here j = rw (le-leb px i right_of) (both_comm (leb py j) true)

    gain_column_here : gain_column line px py ry i ≡ alone column py
    unfolding gain_column gain_row
    gain_column_here =
        sum_ext ry _ (gain_row (take k line) py) (λ j n. rw (dominates_here j, over_here j))
        ∙ gain_row_sum h.state py

    shared_column_rows : (t : ℕ) → shared_column t line px py ry i ≡ sum ry (shared_row t (take k line) py)
    unfolding shared_column shared_row
    shared_column_rows t =
        sum_ext ry _ (shared_row t (take k line) py) (λ j n. rw (dominates_here j, over_here j, over_by_here t j))

  pub strip_gain : sum (max at to) (gain_column line px py ry) ≡ area + (to - at) * alone column py
  strip_gain = sum_strip (gain_column line px py ry) (alone column py) at to gain_column_here ∙ rw (← h.gained)

  pub strip_owner : sum (max at to) (shared_column column.owner line px py ry) ≡ sum at (shared_column column.owner line px py ry) + (to - at) * shared column py
  strip_owner =
      sum_strip (shared_column column.owner line px py ry) (shared column py) at to
      (λ i l m. shared_column_rows i l m column.owner ∙ shared_row_sum h.state py)

  pub strip_other : (t : ℕ) → (t ≡ column.owner → ⊥) → sum (max at to) (shared_column t line px py ry) ≡ sum at (shared_column t line px py ry)
  strip_other t n =
      sum_strip (shared_column t line px py ry) 0 at to (λ i l m. shared_column_rows i l m t ∙ shared_row_sum_other h.state py t n)
      ∙ rw (mul-zero (to - at)) (add-zero (sum at (shared_column t line px py ry)))

  -- What falls here is part of what falls over all columns, so the owner's contribution is large enough.
  pub swept_settling : {start : ℕ} {first : Column} → Crossing line start first px py rx ry height out → Settling column at to py height left
  unfolding shared_with count cells shared_column
  swept_settling c =
      let o = column.owner in
      let all : height * sum rx (shared_column o line px py ry) ≤ get_or out o 0 = c.enough o in
      let part : height * sum (max at to) (shared_column o line px py ry) ≤ height * sum rx (shared_column o line px py ry) =
      mul-le-mul_left height (sum_longer (shared_column o line px py ry) (max at to) rx (omega arith)) in
      let both' : height * sum (max at to) (shared_column o line px py ry) ≡ height * sum at (shared_column o line px py ry) + height * ((to - at) * shared column py) =
      ap (λ s. height * s) strip_owner ∙ mul-add height (sum at (shared_column o line px py ry)) ((to - at) * shared column py) in
      let state : ColumnState ry (take k line) column = h.state in
      record {
        owned = omega arith;
        enough = omega (arith, h.fallen o);
        to_small = omega arith;
        least_small = omega arith;
        second_small = omega arith;
        height_small = c.height_small;
      }

  module _ {left' : List ℕ} {gained : ℕ} (s : Settled column at to py height left left' gained) where
    pub swept_area : area + gained ≡ sum (max at to) (gain_column line px py ry)
    swept_area = rw s.gained (sym strip_gain)

    fallen_owner : {start : ℕ} {first : Column} → Crossing line start first px py rx ry height out → get_or left' column.owner 0 + height * sum (max at to) (shared_column column.owner line px py ry) ≡ get_or out column.owner 0
    fallen_owner c =
        let o = column.owner in
        let before : get_or left o 0 + height * sum at (shared_column o line px py ry) ≡ get_or out o 0 = h.fallen o in
        let enough : height * ((to - at) * shared column py) ≤ get_or left o 0 = (swept_settling c).enough in
        let now : get_or left' o 0 ≡ get_or left o 0 - height * ((to - at) * shared column py) =
        ap (λ l. get_or l o 0) s.fallen
        ∙ get_or-set_same left o (get_or left o 0 - height * ((to - at) * shared column py)) 0 (swept_settling c).owned in
        let both' : height * sum (max at to) (shared_column o line px py ry) ≡ height * sum at (shared_column o line px py ry) + height * ((to - at) * shared column py) =
        ap (λ s. height * s) strip_owner
        ∙ mul-add height (sum at (shared_column o line px py ry)) ((to - at) * shared column py) in
        omega arith

    fallen_other : (t : ℕ) → (t ≡ column.owner → ⊥) → get_or left' t 0 + height * sum (max at to) (shared_column t line px py ry) ≡ get_or out t 0
    fallen_other t n =
        rw (s.fallen, strip_other t n, get_or-set_other left column.owner t (get_or left column.owner 0 - height * ((to - at) * shared column py)) 0 n)
        (h.fallen t)

    pub swept_settled : {start : ℕ} {first : Column} → Crossing line start first px py rx ry height out → Swept line px py rx ry height out k (max at to) (area + gained) column left'
    swept_settled c =
        record {
          from = omega (arith, h.from);
          within = omega (arith, h.within);
          passed = λ a l. omega (arith, h.passed a l);
          state = h.state;
          owned = h.owned;
          alike =
              ap length s.fallen
              ∙ length-set left column.owner (get_or left column.owner 0 - height * ((to - at) * shared column py))
              ∙ h.alike;
          gained = swept_area;
          fallen = λ t. go t (ℕ_discrete t column.owner);
        }
      where
        go : (t : ℕ) → Dec (t ≡ column.owner) → get_or left' t 0 + height * sum (max at to) (shared_column t line px py ry) ≡ get_or out t 0
        go t (yes e) = rw e (fallen_owner c)
        go t (no n) = fallen_other t n

-- One entry passed.
swept_passed : {line : List ℕ} {px py rx ry height : ℕ} {out : List ℕ} {k at area : ℕ} {column : Column} {left : List ℕ} {start : ℕ} {first : Column} → Crossing line start first px py rx ry height out → Swept line px py rx ry height out k at area column left → k < length line → min (x_of (get_or line k 0)) rx ≤ at → Swept line px py rx ry height out (k + 1) at area (column_with column (y_of (get_or line k 0)) (index_of (get_or line k 0))) left
swept_passed {line} {px} {py} {rx} {ry} {height} {out} {k} {at} {area} {column} {left} {start} {first} c h l m =
    record {
      from = h.from;
      within = h.within;
      passed = below_more (λ a. min (x_of (get_or line a 0)) rx ≤ at) k h.passed m;
      state = rw (add-one k, take-suc line k 0 l) (state_more h.state (get_or line k 0));
      owned = column_with_owned column (y_of (get_or line k 0)) (index_of (get_or line k 0)) (length out) h.owned (c.indices k);
      alike = h.alike;
      gained = h.gained;
      fallen = h.fallen;
    }

-- A column where two entries passed are at most py on y: p gains nothing there and shares nothing.
module _ {line : List ℕ} {px py rx ry height : ℕ} {out : List ℕ} {k at area : ℕ} {column : Column} {left : List ℕ} (h : Swept line px py rx ry height out k at area column left) (stop : column.second ≤ py) where
  module _ (i : ℕ) (l : at ≤ i) (m : i < rx) where
    reach_stop : (a : ℕ) → a < k → a < length line → x_of (get_or line a 0) ≤ i
    reach_stop a n o = omega (arith, h.passed a n)

    two_over : (j : ℕ) → py ≤ j → j < ry → 2 ≤ over line (i ∷ j ∷ [])
    unfolding over low both
    two_over j n o =
        let two : 2 ≤ low (take k line) j = h.state.more j (omega arith) o in
        let most : low (take k line) j ≤ over line (i ∷ j ∷ []) = column_least (λ w. true) line k i j reach_stop in
        omega arith

    -- a row counts nothing where the rest of its test fails
    row_stop : (j : ℕ) (b : Bool) → (py ≤ j → b ≡ false) → holds (both (dominates (px ∷ py ∷ []) (i ∷ j ∷ [])) b) ≡ 0
    unfolding dominates both holds
    row_stop j b n = go (leb px i) (leb py j) (compared py j)
      where
        go : (a d : Bool) → Compared py j d → holds (both (both a (both d true)) b) ≡ 0
        go false d e = refl
        go true false e = refl
        go true true (below e) = rw (n e)

    gain_column_stop : gain_column line px py ry i ≡ 0
    unfolding gain_column
    gain_column_stop =
        sum_none ry _
        (λ j n. row_stop j (eqb (over line (i ∷ j ∷ [])) 0)
        (λ o. ne_eqb (over line (i ∷ j ∷ [])) 0 (λ e. omega (arith, two_over j o n))))

    shared_column_stop : (t : ℕ) → shared_column t line px py ry i ≡ 0
    unfolding shared_column both
    shared_column_stop t =
        sum_none ry _
        (λ j n. row_stop j (both (eqb (over line (i ∷ j ∷ [])) 1) (leb 1 (over_by t line (i ∷ j ∷ []))))
        (λ o. rw (ne_eqb (over line (i ∷ j ∷ [])) 1 (λ e. omega (arith, two_over j o n)))))

  sum_stop : (f : ℕ → ℕ) → ((i : ℕ) → at ≤ i → i < rx → f i ≡ 0) → sum at f ≡ sum rx f
  sum_stop f n =
      let steady : sum rx f ≡ sum at f + (rx - at) * 0 = sum_steady f 0 at rx h.within n in
      omega arith

  pub swept_stop : Crossed line px py rx ry height out left area
  unfolding gain_over shared_with count cells gain_column shared_column
  swept_stop =
      record {
        gained = h.gained ∙ sum_stop (gain_column line px py ry) gain_column_stop;
        fallen = λ j. rw (sum_stop (shared_column j line px py ry) (λ i l m. shared_column_stop i l m j)) at (h.fallen j);
      }

-- The area fits a word.
pub swept_fits : {line : List ℕ} {px py rx ry height : ℕ} {out : List ℕ} {k at area : ℕ} {column : Column} {left : List ℕ} {start : ℕ} {first : Column} → Crossing line start first px py rx ry height out → Swept line px py rx ry height out k at area column left → area < 2 ^ 64
swept_fits {line} {px} {py} {rx} {ry} {height} {out} {k} {at} {area} c h =
    let columns : sum at (gain_column line px py ry) ≤ sum at (λ i. ry) =
    sum_le at (gain_column line px py ry) (λ i. ry) (λ i l. gain_column_le line px py ry i) in
    let small : at * ry ≤ 1099511627776 = two_fit (let a : at ≤ 1048576 = omega arith in a) c.ry_small in
    omega (arith, sum_const at ry, h.gained)

-- All columns are settled.
pub swept_end : {line : List ℕ} {px py rx ry height : ℕ} {out : List ℕ} {k at area : ℕ} {column : Column} {left : List ℕ} → Swept line px py rx ry height out k at area column left → rx ≤ at → Crossed line px py rx ry height out left area
unfolding gain_over shared_with count cells gain_column shared_column
swept_end {line} {px} {py} {rx} {ry} {height} {out} {k} {at} h l =
    let all : at ≡ rx = omega (arith, h.within) in
    record {
      gained = h.gained ∙ ap (λ n. sum n (gain_column line px py ry)) all;
      fallen = λ j. rw all at (h.fallen j);
    }

-- no entry from k on begins before the one at k
ahead_of : (line : List ℕ) (k rx : ℕ) → Rising 0 line → (a : ℕ) → k ≤ a → a < length line → min (x_of (get_or line k 0)) rx ≤ x_of (get_or line a 0)
ahead_of line k rx h a l m =
    let rises : x_of (get_or line k 0) ≤ x_of (get_or line a 0) = rising_pair 0 line h k a l m in
    omega arith

-- A turn: the strip up to the entry at k is settled, and the entry passed.
module _ {line : List ℕ} {px py rx ry height : ℕ} {out : List ℕ} {k at area : ℕ} {column : Column} {left : List ℕ} {start : ℕ} {first : Column} (c : Crossing line start first px py rx ry height out) (h : Swept line px py rx ry height out k at area column left) where
  module _ {next : ℕ} (to : next ≡ min (x_of (get_or line k 0)) rx) where
    within_next : next ≤ rx
    within_next = omega arith

    ahead_next : (a : ℕ) → k ≤ a → a < length line → next ≤ x_of (get_or line a 0)
    ahead_next = rw to (ahead_of line k rx c.rising)

    pub turn_settling : Settling column at next py height left
    turn_settling = swept_settling h next within_next ahead_next c

    module _ {left' : List ℕ} {gained : ℕ} (s : Settled column at next py height left left' gained) where
      pub turn_settled : Swept line px py rx ry height out k (max at next) (area + gained) column left'
      turn_settled = swept_settled h next within_next ahead_next s c

      pub swept_more : {at' y index : ℕ} {column' : Column} → at' ≡ max at next → y ≡ y_of (get_or line k 0) → index ≡ index_of (get_or line k 0) → column' ≡ column_with column y index → k < length line → Swept line px py rx ry height out (k + 1) at' (area + gained) column' left'
      swept_more e f g d l = rw (e, d, f, g) (swept_passed c turn_settled l (omega arith))

  -- The end: past the last entry, the strip up to the reference.
  module _ (l : length line ≤ k) where
    none_ahead : (a : ℕ) → k ≤ a → a < length line → rx ≤ x_of (get_or line a 0)
    none_ahead a m n = absurd (let no' : ⊥ = omega arith in no')

    pub end_settling : Settling column at rx py height left
    end_settling = swept_settling h rx (omega arith) none_ahead c

    pub end_settled : {left' : List ℕ} {gained : ℕ} → Settled column at rx py height left left' gained → Swept line px py rx ry height out k (max at rx) (area + gained) column left'
    end_settled s = swept_settled h rx (omega arith) none_ahead s c

    pub end_crossed : {left' : List ℕ} {gained : ℕ} → Settled column at rx py height left left' gained → Crossed line px py rx ry height out left' (area + gained)
    end_crossed s = swept_end (end_settled s) (omega arith)
