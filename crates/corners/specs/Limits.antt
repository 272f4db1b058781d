-- Which corners an update counts: those at most a limit on each axis.
use Rattle.std.specs.Prelude.{ℕ, suc, ◌≤◌, ◌<◌, max, min, ◌≡◌, Bool, true, List, ◌∷◌, map, [], length, take, get_or, set}
use Rattle.slices.specs.Choices.{pick}
use Rattle.slices.specs.Spread.{Stands}
use Rattle.hypervolume.specs.Cells.{dominates, join}
use Rattle.hypervolume.specs.Counts.{cover}
use Rattle.hypervolume.specs.Sorted.{Sorted}

-- What t offers as the limit on the axis a: its coordinate, where it is at most u on all other axes; else 1,048,576,
-- which limits nothing.
unfoldable pub offer : List ℕ → List ℕ → ℕ → ℕ
offer t u a = pick (dominates (set t a 0) u) (get_or t a 0) 1048576

-- On the first k axes the two least offers, with those of t.
pub record Offered (least second t u least' second' : List ℕ) (k : ℕ) : Type 0 where
  pub on_least : (a : ℕ) → a < k → get_or least' a 0 ≡ min (get_or least a 0) (offer t u a)
  pub on_second : (a : ℕ) → a < k → get_or second' a 0 ≡ min (get_or second a 0) (max (get_or least a 0) (offer t u a))

-- On each axis the limit is at least u. Where it limits anything, at least two of the points are at most u moved
-- along that axis up to the limit.
pub record Limits (trials : List (List ℕ)) (u limit : List ℕ) : Type 0 where
  pub above : dominates u limit ≡ true
  pub twice : (a : ℕ) → a < length limit → get_or limit a 0 < 1048576 → 2 ≤ cover trials (set u a (get_or limit a 0))

-- The points that pass a test, in their order.
unfoldable pub passing : (List ℕ → Bool) → List (List ℕ) → List (List ℕ)
passing test [] = []
passing test (t ∷ trials) = pick (test t) (t ∷ passing test trials) (passing test trials)

-- What collecting the corners within a limit asks: points in ascending order of z, and room for all.
pub record Collecting (points : List (List ℕ)) (u limit : List ℕ) (corners : List (List ℕ)) (places : List ℕ) : Type 0 where
  pub sorted : Sorted points
  pub above : dominates u limit ≡ true
  pub corners_room : length points ≤ length corners
  pub places_room : length points ≤ length places

-- Of the corners with the first i points, those within the limit are the first m of `corners`. Their points stand at the
-- first m places, which ascend.
pub record Collected (points : List (List ℕ)) (u limit : List ℕ) (i : ℕ) (corners : List (List ℕ)) (places : List ℕ) (m : ℕ) : Type 0 where
  pub few : m ≤ i
  pub all : take m corners ≡ passing (λ t. dominates t limit) (take i (map (join u) points))
  pub corner : (k : ℕ) → k < m → get_or corners k [] ≡ join u (get_or points (get_or places k 0) [])
  pub inside : (k : ℕ) → k < m → get_or places k 0 < i
  pub rising : (k : ℕ) → suc k < m → get_or places k 0 < get_or places (suc k) 0
  pub every : (j : ℕ) → j < i → dominates (get_or (map (join u) points) j []) limit ≡ true → Stands places m j
