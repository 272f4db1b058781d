-- The layers of a set of points along the last axis, for any number of axes (document 02, W-207, where that axis is z).
use Rattle.std.specs.Prelude.{ℕ, zero, suc, ◌+◌, ◌-◌, ◌*◌, ◌≤◌, ◌≡◌, Bool, false, List, ◌∷◌, ◌++◌, [], leb, eqb, length, get_or}
use Rattle.slices.specs.Choices.{either, pick}
use Rattle.hypervolume.specs.Cells.{count}
use Rattle.hypervolume.specs.Counts.{cover, total}

-- Whether one of the points has this z, the coordinate behind those of the other axes.
unfoldable pub begins : (axes : ℕ) → List (List ℕ) → ℕ → Bool
begins axes [] z = false
begins axes (p ∷ points) z = either (eqb (get_or p axes 0) z) (begins axes points z)

-- Of the n numbers from a on those that pass a test, ascending.
unfoldable pub those : (ℕ → Bool) → (a n : ℕ) → List ℕ
those test a zero = []
those test a (suc n) = pick (test a) (a ∷ those test (suc a) n) (those test (suc a) n)

-- "Each distinct z below the reference, of any point given, ascending."
unfoldable pub levels : (axes : ℕ) → ℕ → List (List ℕ) → List ℕ
levels axes r points = those (begins axes points) 0 r

-- "The area counts the cells of layer z that some point dominates": rs is the reference on the other axes.
unfoldable pub area_at : (rs : List ℕ) → List (List ℕ) → ℕ → ℕ
area_at rs points z = count rs (λ c. leb 1 (cover points (c ++ (z ∷ []))))

-- "The height runs to the next such z, or to the reference."
unfoldable pub next_level : List ℕ → ℕ → ℕ
next_level [] r = r
next_level (z ∷ zs) r = z

pub record Layer : Type 0 where
  pub area : ℕ
  pub height : ℕ

unfoldable pub layers_at : (rs : List ℕ) (r : ℕ) → List (List ℕ) → List ℕ → List Layer
layers_at rs r points [] = []
layers_at rs r points (z ∷ zs) = record { area = area_at rs points z; height = next_level zs r - z } ∷ layers_at rs r points zs

-- The layers of the points, from the lowest on.
unfoldable pub layers : (rs : List ℕ) (r : ℕ) → List (List ℕ) → List Layer
layers rs r points = layers_at rs r points (levels (length rs) r points)

-- Area × height, added up exactly.
unfoldable pub cells_of : List Layer → ℕ
cells_of [] = 0
cells_of (l ∷ ls) = l.area * l.height + cells_of ls

-- What is proved of them (proofs/Layers): their cells are the total of the points, and there are no more of them than points.
pub record LayersAddUp : Type 0 where
  pub whole : (rs : List ℕ) (r : ℕ) (points : List (List ℕ)) → cells_of (layers rs r points) ≡ total (rs ++ (r ∷ [])) points
  pub few : (rs : List ℕ) (r : ℕ) (points : List (List ℕ)) → length (layers rs r points) ≤ length points
