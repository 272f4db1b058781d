-- The table of the code holds the places of the letters.
use Prim.Native.Nat.{ℕ, ◌<◌}
use mathlib.Core.Path.{◌≡◌, refl, sym, ap, ◌∙◌}
use mathlib.Core.List.{List, ◌∷◌, map, []}
use native.Mathlib.Omega.{arith}
use lib.ListN.{get_or, get_or-map}
use Rattle.axes.specs.Orders.{Axis, x, y, z, place_of, along, orders, letters, rearranged}
use Rattle.axes.proofs.Swaps.{by_letters}

abbrev pub entry : ℕ → ℕ → ℕ
entry order place =
    get_or (get_or ((0 ∷ 1 ∷ 2 ∷ []) ∷ (0 ∷ 2 ∷ 1 ∷ []) ∷ (1 ∷ 0 ∷ 2 ∷ []) ∷ (1 ∷ 2 ∷ 0 ∷ []) ∷ (2 ∷ 0 ∷ 1 ∷ []) ∷ (2 ∷ 1 ∷ 0 ∷ []) ∷ []) order []) place 0

by_table : (order place : ℕ) → entry order place ≡ get_or (get_or (map (map place_of) orders) order []) place 0
unfolding orders place_of
by_table order place = refl

none : place_of x ≡ 0
unfolding place_of
none = refl

pub entry_is : (order place : ℕ) → entry order place ≡ place_of (get_or (letters order) place x)
unfolding letters
entry_is order place =
    by_table order place
    ∙ ap (λ l. get_or l place 0) (get_or-map (map place_of) orders order [])
    ∙ ap (get_or (map place_of (get_or orders order [])) place) (sym none)
    ∙ get_or-map place_of (get_or orders order []) place x

pub place_low : (axis : Axis) → place_of axis < 3
unfolding place_of
place_low x = omega arith
place_low y = omega arith
place_low z = omega arith

pub coordinates_by : (order : ℕ) (p : List ℕ) (a b c : ℕ) → order < 6
    → a ≡ place_of (get_or (letters order) 0 x) → b ≡ place_of (get_or (letters order) 1 x) → c ≡ place_of (get_or (letters order) 2 x)
    → get_or p a 0 ∷ get_or p b 0 ∷ get_or p c 0 ∷ [] ≡ rearranged order p
unfolding along
coordinates_by order p a b c known ea eb ec = rw (ea, eb, ec) (sym (by_letters order known p))
