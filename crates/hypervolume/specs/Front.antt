-- The front (document 02, W-209), for any number of axes: "those for which no other trial is at most equal on all axes and
-- smaller on at least one. Equal trials can both be on it."
use Rattle.std.specs.Prelude.{ℕ, ◌+◌, ◌≤◌, ◌≡◌, Bool, false, not, ltb, length}
use mathlib.Core.List.{List, ◌∷◌, ◌++◌, Memᴰ, []}
use Rattle.slices.specs.Choices.{both, either}
use Rattle.hypervolume.specs.Cells.{holds, dominates}

-- "Smaller on at least one" axis.
unfoldable pub smaller_somewhere : List ℕ → List ℕ → Bool
smaller_somewhere [] q = false
smaller_somewhere (x ∷ p) [] = false
smaller_somewhere (x ∷ p) (y ∷ q) = either (ltb x y) (smaller_somewhere p q)

-- "At most equal on all axes and smaller on at least one": p beats q. (No trial beats itself or its equal.)
unfoldable pub beats : List ℕ → List ℕ → Bool
beats p q = both (dominates p q) (smaller_somewhere p q)

-- Whether one of the trials beats q.
unfoldable pub beaten : List (List ℕ) → List ℕ → Bool
beaten [] q = false
beaten (p ∷ trials) q = either (beats p q) (beaten trials q)

-- How many of the points ps no trial beats.
unfoldable pub unbeaten : List (List ℕ) → List (List ℕ) → ℕ
unbeaten trials [] = 0
unbeaten trials (p ∷ ps) = holds (not (beaten trials p)) + unbeaten trials ps

-- "How many trials are on the front."
unfoldable pub front : List (List ℕ) → ℕ
front trials = unbeaten trials trials

-- What it sees: the trials as a collection, whatever their order; it is at most their number, and 0 only where there is none
-- (of points with as many axes each).
pub record FrontLaws : Type 0 where
  pub order : (before : List (List ℕ)) (p : List ℕ) (behind : List (List ℕ)) → front (before ++ p ∷ behind) ≡ front (p ∷ before ++ behind)
  pub at_most : (trials : List (List ℕ)) → front trials ≤ length trials
  pub none : front [] ≡ 0
  pub some : (axes : ℕ) (p : List ℕ) (trials : List (List ℕ)) → ((q : List ℕ) → Memᴰ q (p ∷ trials) → length q ≡ axes) → 1 ≤ front (p ∷ trials)
