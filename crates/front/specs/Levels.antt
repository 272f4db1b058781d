-- The least y over the places before a place, in three levels: over each 64 places, each 8 within the same 64, and each one
-- within the same 8.
use Rattle.std.specs.Prelude.{ℕ, ◌/◌, ◌*◌, ◌%◌, ◌≤◌, ◌<◌, min, ◌≡◌, Bool, List, ◌∷◌, [], leb, ltb, length, get_or}
use Rattle.slices.specs.Choices.{both, pick}
use Rattle.hypervolume.specs.Cells.{holds}
use Rattle.front.specs.Keys.{y_at}

-- The least y of those keys of the list that pass a test; more than any coordinate where there is none.
unfoldable pub least_of : (ℕ → Bool) → (ℕ → ℕ) → List ℕ → ℕ
least_of test y [] = 2097152
least_of test y (k ∷ keys) = pick (test k) (min (y k) (least_of test y keys)) (least_of test y keys)

-- The y of the point at whose place the key's equals begin.
abbrev pub y_of : List (List ℕ) → ℕ → ℕ
y_of points k = y_at points (k % 512)

-- Whether place v comes behind `at` among the same eight.
unfoldable pub behind : ℕ → ℕ → Bool
behind at v = both (leb (v / 8 * 8) at) (ltb at v)

-- All numbers of a level, a least y each.
abbrev pub Bounded : List ℕ → Type 0
Bounded level = (v : ℕ) → v < length level → get_or level v 0 ≤ 2097152

-- What is put on a y: so much that it counts for nothing, or nothing. Of these fifteen the eight from place 7 - n on are for the
-- eight places of a level among which the y has place n.
pub record Extra (table : List ℕ) : Type 0 where
  pub long : length table ≡ 15
  pub up_to : (j : ℕ) → j < 8 → get_or table j 0 ≡ 2097152
  pub further : (j : ℕ) → 8 ≤ j → get_or table j 0 ≡ 0

-- A level with one y entered.
pub record Lowered (old : List ℕ) (at y : ℕ) (new : List ℕ) : Type 0 where
  pub long : length new ≡ length old
  pub each : (v : ℕ) → get_or new v 0 ≡ pick (behind at v) (min y (get_or old v 0)) (get_or old v 0)

-- One y entered in the three levels at place g, and whether it is less than all before.
pub record Entered (high middle low : List ℕ) (g y r : ℕ) (high_after middle-after low-after : List ℕ) : Type 0 where
  pub told : r ≡ holds (ltb y (min (get_or high (g / 64) 0) (min (get_or middle (g / 8) 0) (get_or low g 0))))
  pub in_high : Lowered high (g / 64) y high_after
  pub in_middle : Lowered middle (g / 8) y middle-after
  pub in_low : Lowered low g y low-after

-- A level over the keys taken; `place` tells where a key is entered in it.
pub record Level (place : ℕ → ℕ) (points : List (List ℕ)) (taken level : List ℕ) : Type 0 where
  pub each : (v : ℕ) → v < length level → get_or level v 0 ≡ least_of (λ k. behind (place k) v) (y_of points) taken

-- The least y of the keys taken that stand before place g.
abbrev pub least_before : List (List ℕ) → List ℕ → ℕ → ℕ
least_before points taken g = least_of (λ k. ltb (k % 512) g) (y_of points) taken

-- A level of n places in which nothing is entered.
pub record Empty (n : ℕ) (level : List ℕ) : Type 0 where
  pub long : length level ≡ n
  pub each : (v : ℕ) → v < n → get_or level v 0 ≡ 2097152

-- At most 512 keys, each with the place of a point.
pub record Placed (points : List (List ℕ)) (keys : List ℕ) : Type 0 where
  pub few : length keys ≤ 512
  pub each : (i : ℕ) → i < length keys → get_or keys i 0 % 512 < length points
