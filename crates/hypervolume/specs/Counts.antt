-- Total, contribution, joint contribution and gain (document 01, "Points and cells"; Definitions 1 to 3 of
-- document 000). Each is a number of cells and sees the trials only through how many of them dominate a
-- cell, so equal trials count as several trials and their order does not matter.
use Rattle.std.specs.Prelude.{ℕ, ◌+◌, List, ◌∷◌, map, [], leb, eqb}
use Rattle.slices.specs.Choices.{both}
use Rattle.hypervolume.specs.Cells.{holds, dominates, count}

-- How many of the trials dominate the cell.
unfoldable pub cover : List (List ℕ) → List ℕ → ℕ
cover [] c = 0
cover (t ∷ trials) c = holds (dominates t c) + cover trials c

-- "Total: cells that at least one trial dominates." The hypervolume.
unfoldable pub total : List ℕ → List (List ℕ) → ℕ
total r trials = count r (λ c. leb 1 (cover trials c))

-- "Contribution of a trial: cells it dominates and no other trial does." t is one of the trials, so the
-- trial itself is the only one of them that dominates the cell.
unfoldable pub contribution : List ℕ → List (List ℕ) → List ℕ → ℕ
contribution r trials t = count r (λ c. both (dominates t c) (eqb (cover trials c) 1))

-- "Joint contribution of two trials: cells that both dominate and no third does." s and t are two of the
-- trials, so just two of them dominate the cell.
unfoldable pub joint : List ℕ → List (List ℕ) → List ℕ → List ℕ → ℕ
joint r trials s t = count r (λ c. both (dominates s c) (both (dominates t c) (eqb (cover trials c) 2)))

-- "Gain of a point, equal to a held trial or not: cells it dominates and no trial does."
unfoldable pub gain : List ℕ → List (List ℕ) → List ℕ → ℕ
gain r trials p = count r (λ c. both (dominates p c) (eqb (cover trials c) 0))

-- The contribution of each trial, in the trials' order.
unfoldable pub contributions : List ℕ → List (List ℕ) → List ℕ
contributions r trials = map (λ t. contribution r trials t) trials

-- The joint contribution of one more trial u with each of the trials, in their order.
unfoldable pub joints : List ℕ → List (List ℕ) → List ℕ → List ℕ
joints r trials u = map (λ t. joint r (u ∷ trials) u t) trials
