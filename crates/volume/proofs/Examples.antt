-- The points of document 01's card, in doubles: 21.
use mathlib.Core.Path.{◌≡◌, refl}
use mathlib.Core.List.{◌∷◌, []}
use lib.Ieee.{add, mul, of_int, round, sum, units, odd, size, span, climb}
use Rattle.slices.specs.Choices.{both, either, pick}
use Rattle.hypervolume.specs.Cells.{holds, dominates, sum as sum_below, cells, count}
use Rattle.hypervolume.specs.Counts.{cover}
use Rattle.layers.specs.Layers.{begins, those, levels, area_at, next_level, layers_at, layers}
use Rattle.doubles.specs.Doubles.{double, with_layer, sum_from}
use Rattle.volume.specs.Volume.{figure_of}

card : figure_of (4 ∷ 4 ∷ 4 ∷ []) ((1 ∷ 2 ∷ 2 ∷ []) ∷ (2 ∷ 1 ∷ 2 ∷ []) ∷ (2 ∷ 2 ∷ 1 ∷ []) ∷ (1 ∷ 1 ∷ 3 ∷ []) ∷ []) ≡ double 21
unfolding figure_of layers layers_at levels those begins area_at next_level with_layer sum_from double cover count cells sum_below dominates holds both either pick add mul of_int round sum units odd size span climb
card = refl
