-- What an update asks.
use Rattle.std.specs.Prelude.{ℕ, ◌≤◌, List, length}
use Rattle.hypervolume.specs.Sorted.{Small}
use Rattle.sweep.specs.Points.{Ready}

-- Sorted points and one more, with room for a corner and a place of each, and for the sweep of all corners.
pub record Updating (points : List (List ℕ)) (u reference : List ℕ) (corners : List (List ℕ)) (places line counts : List ℕ) : Type 0 where
  pub ready : Ready points reference line counts
  pub small : Small u
  pub corners_room : length points ≤ length corners
  pub places_room : length points ≤ length places

-- Room to count an update of n points in.
pub record Scratch (n : ℕ) (corners : List (List ℕ)) (places line counts : List ℕ) : Type 0 where
  pub corners_room : n ≤ length corners
  pub places_room : n ≤ length places
  pub line_room : n ≤ length line
  pub counts_room : n ≤ length counts
