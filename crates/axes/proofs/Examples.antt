-- A point in the six orders, by computation.
use mathlib.Core.Path.{◌≡◌, refl}
use mathlib.Core.List.{◌∷◌, map, []}
use Rattle.axes.specs.Orders.{place_of, along, orders, letters, rearranged}

in_six_orders : map (λ order. rearranged order (7 ∷ 8 ∷ 9 ∷ [])) (0 ∷ 1 ∷ 2 ∷ 3 ∷ 4 ∷ 5 ∷ [])
    ≡ (7 ∷ 8 ∷ 9 ∷ []) ∷ (7 ∷ 9 ∷ 8 ∷ []) ∷ (8 ∷ 7 ∷ 9 ∷ []) ∷ (8 ∷ 9 ∷ 7 ∷ []) ∷ (9 ∷ 7 ∷ 8 ∷ []) ∷ (9 ∷ 8 ∷ 7 ∷ []) ∷ []
unfolding rearranged letters orders along place_of
in_six_orders = refl
