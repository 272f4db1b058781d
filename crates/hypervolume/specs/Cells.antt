-- Points and cells (document 01, "Points and cells"), for any number of axes.
-- A point, a cell and a reference are lists of numbers, one for each axis; on three axes x, y, z.
-- Where one of two lists is shorter, the axes that it lacks are not compared.
use Rattle.std.specs.Prelude.{ℕ, zero, suc, ◌+◌, ◌-◌, ◌*◌, max, Bool, true, false, List, ◌∷◌, [], leb}
use Rattle.slices.specs.Choices.{both}

-- A test as a number, so that tests can be added up: 1 where it holds.
unfoldable pub holds : Bool → ℕ
holds true = 1
holds false = 0

-- "A point dominates it where x ≤ i, y ≤ j and z ≤ k": on every axis the point is at most the cell.
unfoldable pub dominates : List ℕ → List ℕ → Bool
dominates [] c = true
dominates (x ∷ p) [] = true
dominates (x ∷ p) (i ∷ c) = both (leb x i) (dominates p c)

-- "The upper corner of two points is taken axis by axis, the larger coordinate each time."
unfoldable pub join : List ℕ → List ℕ → List ℕ
join [] q = q
join (x ∷ p) [] = x ∷ p
join (x ∷ p) (y ∷ q) = max x y ∷ join p q

-- The sum of f over 0, 1, .., n - 1.
unfoldable pub sum : ℕ → (ℕ → ℕ) → ℕ
sum zero f = 0
sum (suc n) f = sum n f + f n

-- "A cell (i, j, k) has 0 ≤ i < rx, 0 ≤ j < ry, 0 ≤ k < rz": the sum of f over the cells below the reference.
unfoldable pub cells : List ℕ → (List ℕ → ℕ) → ℕ
cells [] f = f []
cells (r ∷ rs) f = sum r (λ i. cells rs (λ c. f (i ∷ c)))

-- How many cells below the reference pass a test.
unfoldable pub count : List ℕ → (List ℕ → Bool) → ℕ
count r test = cells r (λ c. holds (test c))

-- "The box is rx × ry × rz": the number of all cells.
unfoldable pub box : List ℕ → ℕ
box [] = 1
box (r ∷ rs) = r * box rs

-- The edge product: on each axis the reference less the coordinate, or 0 past the reference, multiplied.
-- It is the number of cells that the point dominates (proofs/Counting: edges-count).
unfoldable pub edges : List ℕ → List ℕ → ℕ
edges [] p = 1
edges (r ∷ rs) [] = r * edges rs []
edges (r ∷ rs) (x ∷ p) = (r - x) * edges rs p
