-- Values and the amounts by which they move, pair by pair. Amounts most of which are 0 are said by the places of the others.
use Rattle.std.specs.Prelude.{ℕ, suc, ◌≤◌, ◌<◌, Bool, false, ◌≡◌, List, ◌∷◌, [], length, get_or, replicate}
use Rattle.slices.specs.Choices.{either}
use Rattle.slices.specs.Spread.{spread}

-- Each value moved by its amount.
unfoldable pub moved : (ℕ → ℕ → ℕ) → List ℕ → List ℕ → List ℕ
moved op [] amounts = []
moved op (v ∷ vs) [] = []
moved op (v ∷ vs) (m ∷ amounts) = op v m ∷ moved op vs amounts

-- Some value and its amount pass the test.
unfoldable pub some_pair : (ℕ → ℕ → Bool) → List ℕ → List ℕ → Bool
some_pair test [] amounts = false
some_pair test (v ∷ vs) [] = false
some_pair test (v ∷ vs) (m ∷ amounts) = either (test v m) (some_pair test vs amounts)

-- Every number of the list is at most the limit.
abbrev pub Each : List ℕ → ℕ → Type 0
Each l limit = (i : ℕ) → get_or l i 0 ≤ limit

-- Amounts of n values, said by the places of those that are not 0: a count to each place, places inside and rising.
pub record Placed (n : ℕ) (places counts : List ℕ) : Type 0 where
  pub many : length counts ≡ length places
  pub inside : (k : ℕ) → k < length places → get_or places k 0 < n
  pub rising : (k : ℕ) → suc k < length places → get_or places k 0 < get_or places (suc k) 0

-- These amounts as a list.
abbrev pub amounts_at : ℕ → List ℕ → List ℕ → List ℕ
amounts_at n places counts = spread (replicate n 0) places counts
