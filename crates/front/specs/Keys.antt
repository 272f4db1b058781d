-- Points in the archive's order, and the keys by which the front is counted: a point is beaten just when one that stands
-- earlier, and is not its equal, is at most it on x and y.
use Rattle.std.specs.Prelude.{ℕ, zero, suc, ◌+◌, ◌*◌, ◌/◌, ◌%◌, ◌≤◌, ◌<◌, ◌≡◌, Bool, true, not, List, ◌∷◌, ◌++◌, [], leb, ltb, eqb, length, get_or, take}
use Rattle.slices.specs.Choices.{both, pick}
use Rattle.hypervolume.specs.Cells.{holds}
use Rattle.hypervolume.specs.Sorted.{Small}
use Rattle.order.specs.Order.{some}

-- A coordinate of the point at a place.
abbrev pub x_at : List (List ℕ) → ℕ → ℕ
x_at points i = get_or (get_or points i []) 0 0

abbrev pub y_at : List (List ℕ) → ℕ → ℕ
y_at points i = get_or (get_or points i []) 1 0

abbrev pub z_at : List (List ℕ) → ℕ → ℕ
z_at points i = get_or (get_or points i []) 2 0

-- z, then y, then x, as one number.
abbrev pub standing : List (List ℕ) → ℕ → ℕ
standing points i = (z_at points i * 2097152 + y_at points i) * 2097152 + x_at points i

-- At most 512 points on three axes, with small coordinates, in ascending order of z, then y, then x.
pub record InOrder (points : List (List ℕ)) : Type 0 where
  pub few : length points ≤ 512
  pub axes : (k : ℕ) → k < length points → length (get_or points k []) ≡ 3
  pub small : (k : ℕ) → Small (get_or points k [])
  pub rising : (k : ℕ) → suc k < length points → standing points k ≤ standing points (suc k)

-- The place of the first of the points equal to the one at this place.
unfoldable pub first_at : List (List ℕ) → ℕ → ℕ
first_at points zero = 0
first_at points (suc i) = pick (eqb (standing points i) (standing points (suc i))) (first_at points i) (suc i)

-- The key of the point at a place: x, then that first place.
abbrev pub key_at : List (List ℕ) → ℕ → ℕ
key_at points i = x_at points i * 512 + first_at points i

-- By their keys: b stands earlier than k and is at most it on y.
unfoldable pub under : List (List ℕ) → ℕ → ℕ → Bool
under points b k = both (ltb (b % 512) (k % 512)) (leb (y_at points (b % 512)) (y_at points (k % 512)))

-- By their keys: b beats k.
unfoldable pub over : List (List ℕ) → ℕ → ℕ → Bool
over points b k = both (leb (b / 512) (k / 512)) (under points b k)

-- The keys of the first i points, without some that are beaten by one of those kept before.
pub data Sieved (points : List (List ℕ)) : ℕ → List ℕ → Type 0 where
  nothing : Sieved points 0 []
  kept : {i : ℕ} {keys : List ℕ} → Sieved points i keys → Sieved points (suc i) (keys ++ (key_at points i ∷ []))
  left : {i : ℕ} {keys : List ℕ} → Sieved points i keys → some (λ b. over points b (key_at points i)) keys ≡ true → Sieved points (suc i) keys

-- How many of the first i keys have none before them under them.
unfoldable pub alone : List (List ℕ) → List ℕ → ℕ → ℕ
alone points keys zero = 0
alone points keys (suc i) =
    alone points keys i + holds (not (some (λ b. under points b (get_or keys i 0)) (take i keys)))
