-- The order of the line on x.
use Prim.Native.Nat.{ℕ, zero, suc, ◌≤◌, ◌<◌}
use mathlib.Core.Path.{◌≡◌}
use mathlib.Core.List.{List, ◌∷◌, ◌++◌, []}
use native.Mathlib.Nat.{le_trans}
use native.Mathlib.Omega.{arith}
use lib.ListN.{length, get_or}
use Rattle.line.specs.Line.{x_of, Rising}

-- What a line begins with at the least.
pub rising_lower : (x y : ℕ) (line : List ℕ) → y ≤ x → Rising x line → Rising y line
unfolding Rising
rising_lower x y [] l h = tt
rising_lower x y (w ∷ line) l h = (le_trans l h.0, h.1)

pub rising_pair : (x : ℕ) (line : List ℕ) → Rising x line → (a b : ℕ) → a ≤ b → b < length line → x_of (get_or line a 0) ≤ x_of (get_or line b 0)
unfolding Rising
rising_pair x [] h a b l m = absurd (let no' : ⊥ = omega arith in no')
rising_pair x (w ∷ line) h zero zero l m = omega arith
rising_pair x (w ∷ line) h zero (suc b) l m = from (x_of w) line h.1 b (omega arith)
  where
    from : (x : ℕ) (line : List ℕ) → Rising x line → (b : ℕ) → b < length line → x ≤ x_of (get_or line b 0)
    from x [] h b m = absurd (let no' : ⊥ = omega arith in no')
    from x (w ∷ line) h zero m = h.0
    from x (w ∷ line) h (suc b) m = le_trans h.0 (from (x_of w) line h.1 b (omega arith))
rising_pair x (w ∷ line) h (suc a) zero l m = absurd (let no' : ⊥ = omega arith in no')
rising_pair x (w ∷ line) h (suc a) (suc b) l m = rising_pair (x_of w) line h.1 a b (omega arith) (omega arith)

-- Two lines, one behind the other.
pub rising_front : (x : ℕ) (s t : List ℕ) → Rising x (s ++ t) → Rising x s
unfolding Rising
rising_front x [] t h = tt
rising_front x (w ∷ s) t h = (h.0, rising_front (x_of w) s t h.1)

pub rising_back : (x : ℕ) (s t : List ℕ) → Rising x (s ++ t) → Rising 0 t
unfolding Rising
rising_back x [] t h = rising_lower x 0 t (omega arith) h
rising_back x (w ∷ s) t h = rising_back (x_of w) s t h.1

pub rising_from : (x y : ℕ) (line : List ℕ) → Rising x line → ((k : ℕ) → k < length line → y ≤ x_of (get_or line k 0)) → Rising y line
unfolding Rising
rising_from x y [] h l = tt
rising_from x y (w ∷ line) h l = (l 0 (omega arith), h.1)

pub rising_join : (x y : ℕ) (s t : List ℕ) → x ≤ y → Rising x s → ((k : ℕ) → k < length s → x_of (get_or s k 0) ≤ y) → Rising y t → Rising x (s ++ t)
unfolding Rising
rising_join x y [] t l h m g = rising_lower y x t l g
rising_join x y (w ∷ s) t l h m g =
    (h.0, rising_join (x_of w) y s t (m 0 (omega arith)) h.1 (λ k n. m (suc k) (omega arith)) g)

-- One entry left out, and one put for another at the same x.
pub rising_less : (x : ℕ) (s : List ℕ) (w : ℕ) (t : List ℕ) → Rising x (s ++ (w ∷ t)) → Rising x (s ++ t)
unfolding Rising
rising_less x [] w t h = rising_lower (x_of w) x t h.0 h.1
rising_less x (v ∷ s) w t h = (h.0, rising_less (x_of v) s w t h.1)

pub rising_same : (x : ℕ) (s : List ℕ) (v w : ℕ) (t : List ℕ) → x_of v ≡ x_of w → Rising x (s ++ (w ∷ t)) → Rising x (s ++ (v ∷ t))
unfolding Rising
rising_same x [] v w t e h = rw e h
rising_same x (u ∷ s) v w t e h = (h.0, rising_same (x_of u) s v w t e h.1)
