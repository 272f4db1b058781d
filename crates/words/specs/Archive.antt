-- What an archive holds (document 01, "The archive's words"), apart from how it lies in memory.
use Rattle.std.specs.Prelude.{ℕ, Bool, false, List, ◌∷◌, map, [], ltb, eqb}
use Rattle.slices.specs.Choices.{both, either}

-- A trial: its number and its point.
pub record Trial : Type 0 where
  pub number : ℕ
  pub x : ℕ
  pub y : ℕ
  pub z : ℕ

-- "A point is three whole numbers, one for each axis, called x, y, z."
abbrev pub point : Trial → List ℕ
point t = t.x ∷ t.y ∷ t.z ∷ []

-- A record: a trial with its kept contribution.
pub record Row : Type 0 where
  pub trial : Trial
  pub kept : ℕ

-- What a start fixes: the capacity and the reference point (rx, ry, rz).
pub record Shape : Type 0 where
  pub capacity : ℕ
  pub rx : ℕ
  pub ry : ℕ
  pub rz : ℕ

abbrev pub reference : Shape → List ℕ
reference s = s.rx ∷ s.ry ∷ s.rz ∷ []

-- An archive: its shape, its kept total, the kept size of its front (document 02, W-209) and its records.
pub record Archive : Type 0 where
  pub shape : Shape
  pub sum : ℕ
  pub front : ℕ
  pub rows : List Row

unfoldable pub trials : List Row → List Trial
trials rows = map (λ r. r.trial) rows

unfoldable pub points : List Trial → List (List ℕ)
points ts = map point ts

-- Ascending by the first number in which two lists differ.
unfoldable pub ascends : List ℕ → List ℕ → Bool
ascends [] b = false
ascends (m ∷ a) [] = false
ascends (m ∷ a) (n ∷ b) = either (ltb m n) (both (eqb m n) (ascends a b))

-- "Records stand in ascending order of z, then y, then x, then trial number": t stands before u.
abbrev pub key : Trial → List ℕ
key t = t.z ∷ t.y ∷ t.x ∷ t.number ∷ []

unfoldable pub before : Trial → Trial → Bool
before t u = ascends (key t) (key u)
