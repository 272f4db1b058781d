-- Lists of points as the counting takes them.
use Rattle.std.specs.Prelude.{ℕ, suc, ◌≤◌, ◌<◌, ◌≡◌, List, [], length, get_or}

-- No number of the list is above 1,048,576. (Of a point's coordinates this does not say that they are at most
-- the reference.)
abbrev pub Small : List ℕ → Type 0
Small l = (k : ℕ) → get_or l k 0 ≤ 1048576

-- At most 512 points on three axes, with small coordinates, in ascending order of z; equal neighbours are allowed.
pub record Sorted (points : List (List ℕ)) : Type 0 where
  pub few : length points ≤ 512
  pub axes : (k : ℕ) → k < length points → length (get_or points k []) ≡ 3
  pub small : (k : ℕ) → Small (get_or points k [])
  pub rising : (k : ℕ) → suc k < length points → get_or (get_or points k []) 2 0 ≤ get_or (get_or points (suc k) []) 2 0
