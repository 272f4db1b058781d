-- Points of four coordinates (document 02, W-211), and what is counted of them: total and contributions, by the definitions of
-- `hypervolume`, which are for any number of axes.
use Rattle.std.specs.Prelude.{ℕ, List, ◌∷◌, []}
use Rattle.hypervolume.specs.Counts.{total, contributions}

-- "A lent slice of four coordinates a point", as points.
unfoldable pub points_of : List ℕ → List (List ℕ)
points_of [] = []
points_of (x ∷ []) = []
points_of (x ∷ y ∷ []) = []
points_of (x ∷ y ∷ z ∷ []) = []
points_of (x ∷ y ∷ z ∷ w ∷ ns) = (x ∷ y ∷ z ∷ w ∷ []) ∷ points_of ns

-- "Total, then contributions in input order."
unfoldable pub counts_of : (reference : List ℕ) → List (List ℕ) → List ℕ
counts_of reference points = total reference points ∷ contributions reference points
