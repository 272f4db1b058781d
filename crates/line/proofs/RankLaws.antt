-- `rank` and `narrow`: where the next point belongs in the line.
use Prim.Native.Nat.{ℕ, suc, ◌+◌, ◌-◌, ◌*◌, ◌/◌, ◌^◌, ◌≤◌, ◌<◌}
use mathlib.Core.Path.{◌≡◌}
use mathlib.Core.Bool.{Bool, true, false}
use mathlib.Core.List.{List}
use native.Mathlib.Nat.{le_trans}
use native.Mathlib.Decide.{dec_le}
use native.Mathlib.Omega.{arith}
use lib.Dec.{leb}
use lib.ListN.{length, get_or}
use Rattle.hypervolume.specs.Cells.{holds}
use Rattle.hypervolume.proofs.Tests.{Compared, below, above, compared}
use Rattle.line.specs.Line.{x_of, Between, Ranked}
use Rattle.line.proofs.Rising.{rising_pair}

-- The search for the place of a point at x: an entry that is at most x tells of those before it, one beyond x of those behind it.
module _ {line : List ℕ} {x low size : ℕ} (h : Between line x low size) where
  below_entry : (a : ℕ) → a < length line → x_of (get_or line a 0) ≤ x → (k : ℕ) → k ≤ a → x_of (get_or line k 0) ≤ x
  below_entry a l m k n = le_trans (rising_pair 0 line h.rising k a n l) m

  beyond_entry : (a : ℕ) → x < x_of (get_or line a 0) → (k : ℕ) → a ≤ k → k < length line → x < x_of (get_or line k 0)
  beyond_entry a m k n l =
      let up : x_of (get_or line a 0) ≤ x_of (get_or line k 0) = rising_pair 0 line h.rising a k n l in
      omega arith

  -- The search moves on to low + m, where the entry before it is at most x and one not too far behind is beyond x.
  moved : (m left : ℕ) → m + left ≤ size → (0 < m → x_of (get_or line (low + m - 1) 0) ≤ x) → (m + left < size → (a : ℕ) → low + m + left ≤ a → a < length line → x < x_of (get_or line a 0)) → Between line x (low + m) left
  moved m left fits under over =
      record {
        rising = h.rising;
        within = omega (arith, h.within);
        before = λ k l. before k l (dec_le (suc k) low);
        after = λ k l n. after k l n (dec_le size (m + left));
      }
    where
      before : (k : ℕ) → k < low + m → Dec (k < low) → x_of (get_or line k 0) ≤ x
      before k l (yes a) = h.before k a
      before k l (no a) =
          below_entry (low + m - 1) (omega (arith, h.within)) (under (omega arith)) k (omega arith)

      after : (k : ℕ) → low + m + left ≤ k → k < length line → Dec (size ≤ m + left) → x < x_of (get_or line k 0)
      after k l n (yes a) = h.after k (omega arith) n
      after k l n (no a) = over (omega arith) k l n

-- Three entries asked.
module _ {line : List ℕ} {x low size : ℕ} (h : Between line x low size) (l : 2 < size) {part : ℕ} (e : part ≡ (size + 1) / 4) where
  -- those that lie in order
  first_second : x_of (get_or line (low + part - 1) 0) ≤ x_of (get_or line (low + 2 * part - 1) 0)
  first_second = rising_pair 0 line h.rising (low + part - 1) (low + 2 * part - 1) (omega arith) (omega (arith, h.within))

  second_third : x_of (get_or line (low + 2 * part - 1) 0) ≤ x_of (get_or line (low + 3 * part - 1) 0)
  second_third = rising_pair 0 line h.rising (low + 2 * part - 1) (low + 3 * part - 1) (omega arith) (omega (arith, h.within))

  step : (a b c : Bool) → Compared (x_of (get_or line (low + part - 1) 0)) x a → Compared (x_of (get_or line (low + 2 * part - 1) 0)) x b → Compared (x_of (get_or line (low + 3 * part - 1) 0)) x c → Between line x (low + part * (holds a + holds b + holds c)) (size - 3 * part)
  unfolding holds
  step true true true (below p) (below q) (below r) =
      let on : part * 3 ≡ 3 * part = omega arith in
      rw on (moved h (3 * part) (size - 3 * part) (omega arith) (λ z. r) (λ z. absurd (let no' : ⊥ = omega arith in no')))
  step true true false (below p) (below q) (above r) =
      let on : part * 2 ≡ 2 * part = omega arith in
      rw on (moved h (2 * part) (size - 3 * part) (omega arith) (λ z. q) (λ z a m n. beyond_entry h (low + 3 * part - 1) r a (omega arith) n))
  step true false false (below p) (above q) (above r) =
      let on : part * 1 ≡ part = omega arith in
      rw on (moved h part (size - 3 * part) (omega arith) (λ z. p) (λ z a m n. beyond_entry h (low + 2 * part - 1) q a (omega arith) n))
  step false false false (above p) (above q) (above r) =
      let on : part * 0 ≡ 0 = omega arith in
      rw on (moved h 0 (size - 3 * part) (omega arith) (λ z. absurd (let no' : ⊥ = omega arith in no')) (λ z a m n. beyond_entry h (low + part - 1) p a (omega arith) n))
  step true false true (below p) (above q) (below r) = absurd (let no' : ⊥ = omega (arith, second_third) in no')
  step false true c (above p) (below q) r = absurd (let no' : ⊥ = omega (arith, first_second) in no')
  step false false true (above p) (above q) (below r) = absurd (let no' : ⊥ = omega (arith, second_third) in no')

  module _ {first second third : ℕ} (f : first ≡ holds (leb (x_of (get_or line (low + part - 1) 0)) x)) (g : second ≡ holds (leb (x_of (get_or line (low + 2 * part - 1) 0)) x)) (k : third ≡ holds (leb (x_of (get_or line (low + 3 * part - 1) 0)) x)) where
    pub between_more : Between line x (low + part * (first + second + third)) (size - 3 * part)
    between_more =
        rw (f, g, k)
        (step (leb (x_of (get_or line (low + part - 1) 0)) x) (leb (x_of (get_or line (low + 2 * part - 1) 0)) x) (leb (x_of (get_or line (low + 3 * part - 1) 0)) x)
        (compared (x_of (get_or line (low + part - 1) 0)) x)
        (compared (x_of (get_or line (low + 2 * part - 1) 0)) x)
        (compared (x_of (get_or line (low + 3 * part - 1) 0)) x))

    pub between_fits : part * (first + second + third) ≤ length line
    between_fits = omega (arith, between_more.within)

-- One or two entries left.
pub between_one : {line : List ℕ} {x low size bit : ℕ} → Between line x low size → size ≡ 1 → bit ≡ holds (leb (x_of (get_or line low 0)) x) → Between line x (low + bit) 0
unfolding holds
between_one {line} {x} {low} {size} {bit} h e f = rw f (go (leb (x_of (get_or line low 0)) x) (compared (x_of (get_or line low 0)) x))
  where
    go : (b : Bool) → Compared (x_of (get_or line low 0)) x b → Between line x (low + holds b) 0
    go true (below p) =
        let here : low + 1 - 1 ≡ low = omega arith in
        moved h 1 0 (omega arith) (λ z. rw here p) (λ z. absurd (let no' : ⊥ = omega arith in no'))
    go false (above p) =
        moved h 0 0 (omega arith) (λ z. absurd (let no' : ⊥ = omega arith in no')) (λ z a m n. beyond_entry h low p a (omega arith) n)

pub between_two : {line : List ℕ} {x low size first second : ℕ} → Between line x low size → size ≡ 2 → first ≡ holds (leb (x_of (get_or line low 0)) x) → second ≡ holds (leb (x_of (get_or line (low + 1) 0)) x) → Between line x (low + first + second) 0
unfolding holds
between_two {line} {x} {low} {size} {first} {second} h e f g =
    rw (f, g)
    (go (leb (x_of (get_or line low 0)) x) (leb (x_of (get_or line (low + 1) 0)) x) (compared (x_of (get_or line low 0)) x) (compared (x_of (get_or line (low + 1) 0)) x))
  where
    order : x_of (get_or line low 0) ≤ x_of (get_or line (low + 1) 0)
    order = rising_pair 0 line h.rising low (low + 1) (omega arith) (omega (arith, h.within))

    go : (a b : Bool) → Compared (x_of (get_or line low 0)) x a → Compared (x_of (get_or line (low + 1) 0)) x b → Between line x (low + holds a + holds b) 0
    go true true (below p) (below q) =
        let here : low + 2 - 1 ≡ low + 1 = omega arith in
        let on : low + 1 + 1 ≡ low + 2 = omega arith in
        rw on (moved h 2 0 (omega arith) (λ z. rw here q) (λ z. absurd (let no' : ⊥ = omega arith in no')))
    go true false (below p) (above q) =
        let here : low + 1 - 1 ≡ low = omega arith in
        let on : low + 1 + 0 ≡ low + 1 = omega arith in
        rw on (moved h 1 0 (omega arith) (λ z. rw here p) (λ z a m n. beyond_entry h (low + 1) q a (omega arith) n))
    go false false (above p) (above q) =
        let on : low + 0 + 0 ≡ low + 0 = omega arith in
        rw on (moved h 0 0 (omega arith) (λ z. absurd (let no' : ⊥ = omega arith in no')) (λ z a m n. beyond_entry h low p a (omega arith) n))
    go false true (above p) (below q) = absurd (let no' : ⊥ = omega (arith, order) in no')

pub between_none : {line : List ℕ} {x low size : ℕ} → Between line x low size → size ≤ 0 → Ranked line x low
between_none {line} {x} {low} {size} h l =
    record {
      within = omega (arith, h.within);
      before = h.before;
      after = λ k m n. h.after k (omega arith) n;
    }

-- The test by arithmetic: the difference, raised by 2^32, reaches 2^32 where the entry is at most x.
pub reaches_bit : (w x : ℕ) → x ≤ 1048576 → w < 2 ^ 64 → (x + 4294967296 - w / 4294967296) / 4294967296 ≡ holds (leb (x_of w) x)
unfolding holds
reaches_bit w x l m = go (leb (x_of w) x) (compared (x_of w) x)
  where
    go : (b : Bool) → Compared (x_of w) x b → (x + 4294967296 - w / 4294967296) / 4294967296 ≡ holds b
    go true (below n) = omega arith
    go false (above n) = omega arith
