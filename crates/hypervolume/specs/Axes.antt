-- On how many axes a point is at most another. It dominates the other where it is so on all of them.
use Rattle.std.specs.Prelude.{ℕ, ◌+◌, List, ◌∷◌, [], leb}
use Rattle.hypervolume.specs.Cells.{holds}

unfoldable pub axes_within : List ℕ → List ℕ → ℕ
axes_within [] q = 0
axes_within (x ∷ p) [] = 0
axes_within (x ∷ p) (y ∷ q) = holds (leb x y) + axes_within p q
