-- The definitions on examples of document 01: small ones counted cell by cell, and one at the largest reference
-- by the laws, where a count cell by cell cannot be had.
use Prim.Native.Nat.{ℕ}
use mathlib.Core.Path.{◌≡◌, refl, ◌∙◌}
use mathlib.Core.List.{List, ◌∷◌, []}
use Rattle.slices.specs.Choices.{both}
use Rattle.hypervolume.specs.Cells.{holds, dominates, sum, cells, count, edges}
use Rattle.hypervolume.specs.Counts.{cover, total, contribution, joint, contributions}
use Rattle.hypervolume.proofs.Counting.{total_more, total_none, gain_first}

four : List ℕ
four = 4 ∷ 4 ∷ 4 ∷ []

-- the card of document 01, trials 1 to 4
card : List (List ℕ)
card = (1 ∷ 2 ∷ 2 ∷ []) ∷ (2 ∷ 1 ∷ 2 ∷ []) ∷ (2 ∷ 2 ∷ 1 ∷ []) ∷ (1 ∷ 1 ∷ 3 ∷ []) ∷ []

card_total : total four card ≡ 21
unfolding total count cells sum cover dominates both holds four card
card_total = refl

card_contributions : contributions four card ≡ 2 ∷ 2 ∷ 4 ∷ 1 ∷ []
unfolding contributions contribution count cells sum cover dominates both holds four card
card_contributions = refl

-- (1,1,1) twice
twice : List (List ℕ)
twice = (1 ∷ 1 ∷ 1 ∷ []) ∷ (1 ∷ 1 ∷ 1 ∷ []) ∷ []

twice_counts : (total four twice ≡ 27) × (contributions four twice ≡ 0 ∷ 0 ∷ [])
unfolding total contributions contribution count cells sum cover dominates both holds four twice
twice_counts = (refl, refl)

-- (1,1,1) with (2,2,2)
nested : List (List ℕ)
nested = (1 ∷ 1 ∷ 1 ∷ []) ∷ (2 ∷ 2 ∷ 2 ∷ []) ∷ []

nested_counts : (total four nested ≡ 27) × (contributions four nested ≡ 19 ∷ 0 ∷ []) × (joint four nested (1 ∷ 1 ∷ 1 ∷ []) (2 ∷ 2 ∷ 2 ∷ []) ≡ 8)
unfolding total contributions contribution joint count cells sum cover dominates both holds four nested
nested_counts = (refl, refl, refl)

-- the origin under the largest reference: 2^60 cells
largest : List ℕ
largest = 1048576 ∷ 1048576 ∷ 1048576 ∷ []

largest_total : total largest ((0 ∷ 0 ∷ 0 ∷ []) ∷ []) ≡ 1152921504606846976
unfolding edges largest
largest_total =
    total_more largest [] (0 ∷ 0 ∷ 0 ∷ [])
    ∙ rw (total_none largest, gain_first largest (0 ∷ 0 ∷ 0 ∷ []))
