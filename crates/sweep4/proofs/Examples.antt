-- The definitions on points of four coordinates, counted cell by cell: document 01's card with a flat fourth axis has its
-- figures of three axes; and a set with equal and dominated points and one at the reference.
use Prim.Native.Nat.{ℕ}
use mathlib.Core.Path.{◌≡◌, refl}
use mathlib.Core.List.{List, ◌∷◌, []}
use Rattle.slices.specs.Choices.{both}
use Rattle.hypervolume.specs.Cells.{holds, dominates, sum, cells, count}
use Rattle.hypervolume.specs.Counts.{cover, total, contribution, contributions}
use Rattle.sweep4.specs.Quadruples.{points_of, counts_of}

card : List ℕ
card = 1 ∷ 2 ∷ 2 ∷ 0 ∷ 2 ∷ 1 ∷ 2 ∷ 0 ∷ 2 ∷ 2 ∷ 1 ∷ 0 ∷ 1 ∷ 1 ∷ 3 ∷ 0 ∷ []

card_counts : counts_of (4 ∷ 4 ∷ 4 ∷ 1 ∷ []) (points_of card) ≡ 21 ∷ 2 ∷ 2 ∷ 4 ∷ 1 ∷ []
unfolding counts_of points_of total contributions contribution count cells sum cover dominates both holds card
card_counts = refl

-- (0,1,1,2), (1,0,2,1), (1,1,2,2), (2,2,0,0) twice, and (0,0,0,3), which is at the reference
mixed : List ℕ
mixed = 0 ∷ 1 ∷ 1 ∷ 2 ∷ 1 ∷ 0 ∷ 2 ∷ 1 ∷ 1 ∷ 1 ∷ 2 ∷ 2 ∷ 2 ∷ 2 ∷ 0 ∷ 0 ∷ 2 ∷ 2 ∷ 0 ∷ 0 ∷ 0 ∷ 0 ∷ 0 ∷ 3 ∷ []

mixed_counts : counts_of (3 ∷ 3 ∷ 3 ∷ 3 ∷ []) (points_of mixed) ≡ 26 ∷ 7 ∷ 7 ∷ 0 ∷ 0 ∷ 0 ∷ 0 ∷ []
unfolding counts_of points_of total contributions contribution count cells sum cover dominates both holds mixed
mixed_counts = refl
