-- `top` and `cross`: what the stairs leave free over one x, and the pass along them for the next point.
use Prim.Native.Nat.{ℕ, zero, suc, ◌+◌, ◌-◌, ◌*◌, ◌^◌, ◌≤◌, ◌<◌, min}
use mathlib.Core.Path.{◌≡◌, refl, sym, ◌∙◌}
use mathlib.Core.Bool.{Bool, true, false}
use mathlib.Core.List.{List, ◌∷◌, []}
use native.Mathlib.Nat.{mul-le-mul, add-zero, mul-zero}
use native.Mathlib.Decide.{dec_le}
use native.Mathlib.Omega.{arith}
use lib.Dec.{leb, eqb}
use lib.ListN.{length, take, get_or, length-take}
use lib.Seq.{get_or-take, length-take-le}
use borrow.Author.Tests.{le-leb, lt-leb, ne_eqb}
use Rattle.slices.specs.Choices.{both}
use Rattle.slices.proofs.Choices.{both_comm}
use Rattle.hypervolume.specs.Cells.{holds, dominates, sum, cells, count}
use Rattle.hypervolume.proofs.Sums.{sum_le, sum_const, sum_none, sum_steady}
use Rattle.hypervolume.proofs.Tests.{holds_le_one}
use Rattle.line.specs.Line.{x_of, y_of, spot, tally, over, low}
use Rattle.line.proofs.Rising.{rising_pair}
use Rattle.line.proofs.Tally.{tally_none, column_tally}
use Rattle.strips.specs.Strips.{gain_over}
use Rattle.strips.proofs.SettleLaws.{sum_interval}
use Rattle.area.specs.Area.{Falling, Topped, Crossing, Crossed}

-- ---- what the entries leave free

-- Rows below all entries.
low_none : (line : List ℕ) (j : ℕ) → ((a : ℕ) → a < length line → j < y_of (get_or line a 0)) → low line j ≡ 0
unfolding low
low_none line j h = tally_none (λ w. leb (y_of w) j) line (λ a l. lt-leb (y_of (get_or line a 0)) j (h a l))

-- Some entry passes a test: is at most j, or dominates the cell.
tally_at : (test : ℕ → Bool) (line : List ℕ) (a : ℕ) → a < length line → test (get_or line a 0) ≡ true → 1 ≤ tally test line
unfolding tally holds
tally_at test [] a l e = absurd (let no' : ⊥ = omega arith in no')
tally_at test (w ∷ line) zero l e = rw e (omega arith)
tally_at test (w ∷ line) (suc a) l e = omega (arith, tally_at test line a (let n : a < length line = omega arith in n) e)

pub low_at : (line : List ℕ) (j a : ℕ) → a < length line → y_of (get_or line a 0) ≤ j → 1 ≤ low line j
unfolding low
low_at line j a l m = tally_at (λ w. leb (y_of w) j) line a l (le-leb (y_of (get_or line a 0)) j m)

over_at : (line : List ℕ) (i j a : ℕ) → a < length line → x_of (get_or line a 0) ≤ i → y_of (get_or line a 0) ≤ j → 1 ≤ over line (i ∷ j ∷ [])
unfolding over dominates both
over_at line i j a l m n =
    tally_at (λ w. dominates (spot w) (i ∷ j ∷ [])) line a l (rw (le-leb (x_of (get_or line a 0)) i m, le-leb (y_of (get_or line a 0)) j n))

-- The front of stairs.
pub front_falls : (line : List ℕ) (k : ℕ) → Falling line → Falling (take k line)
front_falls line k f a b m n =
    let inside : b < k = omega (arith, length-take k line) in
    rw (get_or-take k line b 0 inside, get_or-take k line a 0 (let i : a < k = omega arith in i)) (f a b m (omega (arith, length-take k line)))

pub topped_none : (ry : ℕ) (line : List ℕ) → length line ≡ 0 → Topped ry line ry
unfolding low tally
topped_none ry [] e = record { most = omega arith; free = λ j l. refl; full = λ j l m. absurd (let no' : ⊥ = omega arith in no') }
topped_none ry (w ∷ line) e = absurd (let no' : ⊥ = omega arith in no')

-- The last entry is the lowest.
pub topped_last : (ry : ℕ) (line : List ℕ) (n top : ℕ) → Falling line → suc n ≡ length line → top ≡ min (y_of (get_or line n 0)) ry → Topped ry line top
topped_last ry line n top f e t =
    record {
      most = omega arith;
      free = λ j l. low_none line j (λ a m. above j l a m (dec_le (suc a) n));
      full = λ j l m. low_at line j n (omega arith) (omega arith);
    }
  where
    above : (j : ℕ) → j < top → (a : ℕ) → a < length line → Dec (a < n) → j < y_of (get_or line a 0)
    above j l a m (yes o) = omega (arith, f a n o (let i : n < length line = omega arith in i))
    above j l a m (no o) = let last : a ≡ n = omega arith in rw last (omega arith)

-- ---- one column of cells

-- How many cells of column i the point at x and y dominates and no entry does.
unfoldable pub column_of : List ℕ → (x y ry i : ℕ) → ℕ
column_of line x y ry i = sum ry (λ j. holds (both (dominates (x ∷ y ∷ []) (i ∷ j ∷ [])) (eqb (over line (i ∷ j ∷ [])) 0)))

column_before : (line : List ℕ) (x y ry i : ℕ) → i < x → column_of line x y ry i ≡ 0
unfolding column_of dominates both holds
column_before line x y ry i l = sum_none ry _ (λ j m. rw (lt-leb x i l))

column_le : (line : List ℕ) (x y ry i : ℕ) → column_of line x y ry i ≤ ry
unfolding column_of
column_le line x y ry i =
    let rows : column_of line x y ry i ≤ sum ry (λ j. 1) =
    sum_le ry _ (λ j. 1) (λ j l. holds_le_one (both (dominates (x ∷ y ∷ []) (i ∷ j ∷ [])) (eqb (over line (i ∷ j ∷ [])) 0))) in
    omega (arith, sum_const ry 1)

all_columns : (line : List ℕ) (x y rx ry : ℕ) → sum rx (column_of line x y ry) ≡ gain_over (rx ∷ ry ∷ []) line (x ∷ y ∷ [])
unfolding column_of gain_over count cells
all_columns line x y rx ry = refl

module _ (line : List ℕ) (x y ry i : ℕ) (right : x ≤ i) where
  here : (j : ℕ) → dominates (x ∷ y ∷ []) (i ∷ j ∷ []) ≡ leb y j
  unfolding dominates both
  here j = rw (le-leb x i right) (both_comm (leb y j) true)

  -- the first k entries reach the column, the others do not
  module _ (k top : ℕ) (reach : (a : ℕ) → a < k → a < length line → x_of (get_or line a 0) ≤ i) (miss : (a : ℕ) → k ≤ a → a < length line → i < x_of (get_or line a 0)) (t : Topped ry (take k line) top) where
    over_here : (j : ℕ) → over line (i ∷ j ∷ []) ≡ low (take k line) j
    unfolding over low both
    over_here j = column_tally (λ w. true) line k i j reach miss

    column_here : column_of line x y ry i ≡ top - y
    unfolding column_of both holds
    column_here =
        sum_interval ry y top _ t.most
        (λ j l. rw (here j, lt-leb y j l))
        (λ j l m. rw (here j, le-leb y j l, over_here j, t.free j m))
        (λ j l m. rw (here j, over_here j, ne_eqb (low (take k line) j) 0 (λ e. omega (arith, t.full j l m)), both_comm (leb y j) false))

  -- some entry lies lower than the point
  column_covered : (k : ℕ) → k < length line → x_of (get_or line k 0) ≤ i → y_of (get_or line k 0) < y → column_of line x y ry i ≡ 0
  unfolding column_of both holds
  column_covered k l m n = sum_none ry _ (λ j o. go j (dec_le y j))
    where
      go : (j : ℕ) → Dec (y ≤ j) → holds (both (dominates (x ∷ y ∷ []) (i ∷ j ∷ [])) (eqb (over line (i ∷ j ∷ [])) 0)) ≡ 0
      go j (yes p) = rw (ne_eqb (over line (i ∷ j ∷ [])) 0 (λ e. omega (arith, over_at line i j k l m (let q : y_of (get_or line k 0) ≤ j = omega arith in q))), both_comm (dominates (x ∷ y ∷ []) (i ∷ j ∷ [])) false)
      go j (no p) = rw (here j, lt-leb y j (omega arith))

-- ---- the pass

-- What it has after k entries, with the columns before `from` counted.
pub record Walking (line : List ℕ) (at top x y rx ry column from gain k : ℕ) : Type 0 where
  pub asked : Crossing line at top x y rx ry
  pub begun : at ≤ k
  pub within : k ≤ length line
  pub start : min x rx ≤ from
  pub bound : from ≤ rx
  pub reached : (a : ℕ) → a < k → min (x_of (get_or line a 0)) rx ≤ from
  pub ahead : (a : ℕ) → k ≤ a → a < length line → from ≤ x_of (get_or line a 0)
  pub topped : Topped ry (take k line) column
  pub higher : y ≤ column
  pub covered : (a : ℕ) → at ≤ a → a < k → y ≤ y_of (get_or line a 0)
  pub gained : gain ≡ sum from (column_of line x y ry)

pub walking_none : {line : List ℕ} {at top x y rx ry : ℕ} → Crossing line at top x y rx ry → {from : ℕ} → from ≡ min x rx → Walking line at top x y rx ry top from 0 at
walking_none {line} {at} {top} {x} {y} {rx} {ry} c {from} e =
    record {
      asked = c;
      begun = omega arith;
      within = c.ranked.within;
      start = omega arith;
      bound = omega arith;
      reached = λ a l. omega (arith, c.ranked.before a l);
      ahead = λ a l m. omega (arith, c.ranked.after a l m);
      topped = c.topped;
      higher = omega (arith, c.above);
      covered = λ a l m. absurd (let no' : ⊥ = omega arith in no');
      gained = sym (sum_none from (column_of line x y ry) (λ i m. column_before line x y ry i (omega arith)));
    }

module _ {line : List ℕ} {at top x y rx ry column from gain k : ℕ} (h : Walking line at top x y rx ry column from gain k) where
  -- up to `to` the columns are alike, where no entry ahead begins before it
  module _ (to : ℕ) (rises : from ≤ to) (last : to ≤ rx) (clear : (a : ℕ) → k ≤ a → a < length line → to ≤ x_of (get_or line a 0)) where
    pub strip : gain + (to - from) * (column - y) ≡ sum to (column_of line x y ry)
    strip =
        rw h.gained
        (sym
        (sum_steady (column_of line x y ry) (column - y) from to rises
        (λ i l m. column_here line x y ry i (omega (arith, h.start, h.bound)) k column
        (λ a n o. omega (arith, h.reached a n, h.bound))
        (λ a n o. omega (arith, clear a n o))
        h.topped)))

    -- a count of cells below 2^41
    pub strip_fits : gain + (to - from) * (column - y) < 2 ^ 64
    strip_fits =
        let rows : sum to (column_of line x y ry) ≤ sum to (λ i. ry) = sum_le to (column_of line x y ry) (λ i. ry) (λ i l. column_le line x y ry i) in
        let all : sum to (λ i. ry) ≡ to * ry = sum_const to ry in
        let wide : to ≤ 1048576 = omega (arith, h.asked.rx_small) in
        let most : to * ry ≤ 1048576 * 1048576 = mul-le-mul wide h.asked.ry_small in
        omega (arith, strip)

  pub walking_end : length line ≤ k → {all : ℕ} → all ≡ gain + (rx - from) * (column - y) → Crossed line at x y rx ry all (length line)
  walking_end l e =
      record {
        gains = e ∙ strip rx h.bound (omega arith) (λ a m n. absurd (let no' : ⊥ = omega arith in no')) ∙ all_columns line x y rx ry;
        front = omega (arith, h.begun, h.within);
        within = omega arith;
        covered = λ a m n. h.covered a m (omega arith);
        stays = λ a m n. absurd (let no' : ⊥ = omega arith in no');
      }

  -- the entry at k
  module _ (l : k < length line) {next : ℕ} (e : next ≡ min (x_of (get_or line k 0)) rx) where
    pub next_on : from ≤ next
    next_on = omega (arith, h.ahead k (let n : k ≤ k = omega arith in n) l, h.bound)

    pub next_most : next ≤ rx
    next_most = omega arith

    pub next_clear : (a : ℕ) → k ≤ a → a < length line → next ≤ x_of (get_or line a 0)
    next_clear a m n = omega (arith, rising_pair 0 line h.asked.stairs.rising k a m n)

    pub walking_stop : {all : ℕ} → all ≡ gain + (next - from) * (column - y) → y_of (get_or line k 0) < y → Crossed line at x y rx ry all k
    walking_stop {all} f g =
        record {
          gains =
              f
              ∙ strip next next_on next_most next_clear
              ∙ sym (let rest : sum rx (column_of line x y ry) ≡ sum next (column_of line x y ry) + (rx - next) * 0 =
              sum_steady (column_of line x y ry) 0 next rx next_most
              (λ i m n. column_covered line x y ry i (omega (arith, next_on, h.start, h.bound)) k l (omega arith) g) in
              rest ∙ rw (mul-zero (rx - next)) (add-zero (sum next (column_of line x y ry))))
              ∙ all_columns line x y rx ry;
          front = h.begun;
          within = h.within;
          covered = h.covered;
          stays = λ a m n. below a n (dec_le (suc k) a) m;
        }
      where
        below : (a : ℕ) → a < length line → Dec (k < a) → k ≤ a → y_of (get_or line a 0) < y
        below a n (yes o) m = omega (arith, h.asked.stairs.falling k a o n)
        below a n (no o) m = let same : a ≡ k = omega arith in rw same g

    pub walking_more : {more column' : ℕ} → more ≡ gain + (next - from) * (column - y) → column' ≡ min (y_of (get_or line k 0)) ry → y ≤ y_of (get_or line k 0) → Walking line at top x y rx ry column' next more (k + 1)
    walking_more {more} {column'} f d g =
        record {
          asked = h.asked;
          begun = omega (arith, h.begun);
          within = omega arith;
          start = omega (arith, h.start, next_on);
          bound = next_most;
          reached = λ a m. reached' a (dec_le (suc a) k) m;
          ahead = λ a m n. next_clear a (omega arith) n;
          topped = topped_last ry (take (k + 1) line) k column' (front_falls line (k + 1) h.asked.stairs.falling) (rw (length-take-le (k + 1) line (omega arith)) (omega arith)) (rw (get_or-take (k + 1) line k 0 (omega arith)) d);
          higher = omega (arith, h.asked.above, h.asked.topped.most);
          covered = λ a m n. covered' a (dec_le (suc a) k) m n;
          gained = f ∙ strip next next_on next_most next_clear;
        }
      where
        reached' : (a : ℕ) → Dec (a < k) → a < k + 1 → min (x_of (get_or line a 0)) rx ≤ next
        reached' a (yes o) m = omega (arith, h.reached a o, next_on)
        reached' a (no o) m = let same : a ≡ k = omega arith in rw same (omega arith)

        covered' : (a : ℕ) → Dec (a < k) → at ≤ a → a < k + 1 → y ≤ y_of (get_or line a 0)
        covered' a (yes o) m n = h.covered a m o
        covered' a (no o) m n = let same : a ≡ k = omega arith in rw same g
