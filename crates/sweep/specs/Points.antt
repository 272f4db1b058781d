-- What the sweep asks.
use Rattle.std.specs.Prelude.{ℕ, ◌≤◌, List, length}
use Rattle.hypervolume.specs.Sorted.{Small, Sorted}

-- Sorted points, with room for a line of them and for as many counts.
pub record Ready (points : List (List ℕ)) (reference line out : List ℕ) : Type 0 where
  pub sorted : Sorted points
  pub reference_small : Small reference
  pub line_room : length points ≤ length line
  pub room : length points ≤ length out
