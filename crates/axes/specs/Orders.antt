-- The six orders of three axes by their letters, and a point rearranged by one of them (document 02, W-212).
use Rattle.std.specs.Prelude.{ℕ, List, ◌∷◌, map, [], get_or}

-- The axes by their letters, and the place of each in a point.
pub data Axis : Type 0 where
  x : Axis
  y : Axis
  z : Axis

unfoldable pub place_of : Axis → ℕ
place_of x = 0
place_of y = 1
place_of z = 2

-- The coordinate of a point on an axis.
unfoldable pub along : List ℕ → Axis → ℕ
along p axis = get_or p (place_of axis) 0

-- "Numbered 0 to 5: xyz, xzy, yxz, yzx, zxy, zyx, the letters naming which old axis comes first, second and third."
unfoldable pub orders : List (List Axis)
orders = (x ∷ y ∷ z ∷ []) ∷ (x ∷ z ∷ y ∷ []) ∷ (y ∷ x ∷ z ∷ []) ∷ (y ∷ z ∷ x ∷ []) ∷ (z ∷ x ∷ y ∷ []) ∷ (z ∷ y ∷ x ∷ []) ∷ []

unfoldable pub letters : (order : ℕ) → List Axis
letters order = get_or orders order []

-- "The inverse order": yzx and zxy undo each other, and each of the others undoes itself.
unfoldable pub inverse : (order : ℕ) → ℕ
inverse order = get_or (0 ∷ 1 ∷ 2 ∷ 4 ∷ 3 ∷ 5 ∷ []) order 0

-- A point rearranged: its coordinates on the old axes, in the order of the letters. Of order 3, yzx: new x is old y, new y is old
-- z, new z is old x.
unfoldable pub rearranged : (order : ℕ) → List ℕ → List ℕ
rearranged order p = map (along p) (letters order)
