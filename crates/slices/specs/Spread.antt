-- Numbers most of which are 0: said by the places of the others.
use Rattle.std.specs.Prelude.{ℕ, suc, ◌≤◌, ◌<◌, ◌≡◌, List, ◌∷◌, [], take, get_or, set, replicate}

-- The list with these numbers at these places, and every other number as before.
unfoldable pub spread : List ℕ → List ℕ → List ℕ → List ℕ
spread l [] numbers = l
spread l (place ∷ places) [] = l
spread l (place ∷ places) (n ∷ numbers) = spread (set l place n) places numbers

-- A list of n numbers, said by the first m places and numbers: these places ascend, and all that stands elsewhere is 0.
pub record Sparse (n : ℕ) (all places numbers : List ℕ) (m : ℕ) : Type 0 where
  pub few : m ≤ n
  pub inside : (k : ℕ) → k < m → get_or places k 0 < n
  pub rising : (k : ℕ) → suc k < m → get_or places k 0 < get_or places (suc k) 0
  pub is_spread : all ≡ spread (replicate n 0) (take m places) (take m numbers)

-- j is one of the first m places.
pub record Stands (places : List ℕ) (m j : ℕ) : Type 0 where
  pub k : ℕ
  pub within : k < m
  pub here : get_or places k 0 ≡ j
