-- Points passed, seen along z, as stairs in a line; and one more of them.
use Rattle.std.specs.Prelude.{ℕ, ◌+◌, ◌≤◌, ◌<◌, ◌≡◌, List, ◌∷◌, [], leb, length, take, get_or}
use Rattle.hypervolume.specs.Counts.{cover, gain}
use Rattle.hypervolume.specs.Sorted.{Small}
use Rattle.line.specs.Line.{y_of, over, low, Rising, Ranked}
use Rattle.strips.specs.Strips.{gain_over}

-- A point, seen along z.
abbrev pub spot : List ℕ → List ℕ
spot p = get_or p 0 0 ∷ get_or p 1 0 ∷ []

-- Each entry lies lower than those before it.
abbrev pub Falling : List ℕ → Type 0
Falling line = (a b : ℕ) → a < b → b < length line → y_of (get_or line b 0) < y_of (get_or line a 0)

pub record Stairs (line : List ℕ) : Type 0 where
  pub rising : Rising 0 line
  pub falling : Falling line

-- The line covers what the points passed cover, in the rows below ry.
pub record Lined (ry : ℕ) (passed : List (List ℕ)) (line : List ℕ) : Type 0 where
  pub covers : (i j : ℕ) → j < ry → leb 1 (over line (i ∷ j ∷ [])) ≡ leb 1 (cover passed (i ∷ j ∷ []))

-- Of the rows below ry, these entries cover those from `top` on.
pub record Topped (ry : ℕ) (line : List ℕ) (top : ℕ) : Type 0 where
  pub most : top ≤ ry
  pub free : (j : ℕ) → j < top → low line j ≡ 0
  pub full : (j : ℕ) → top ≤ j → j < ry → 1 ≤ low line j

-- The pass for a point that belongs at `at` and is not covered there: what it asks, and what it answers.
pub record Crossing (line : List ℕ) (at top x y rx ry : ℕ) : Type 0 where
  pub stairs : Stairs line
  pub ranked : Ranked line x at
  pub topped : Topped ry (take at line) top
  pub above : y < top
  pub rx_small : rx ≤ 1048576
  pub ry_small : ry ≤ 1048576

pub record Crossed (line : List ℕ) (at x y rx ry gained end : ℕ) : Type 0 where
  pub gains : gained ≡ gain_over (rx ∷ ry ∷ []) line (x ∷ y ∷ [])
  pub front : at ≤ end
  pub within : end ≤ length line
  pub covered : (k : ℕ) → at ≤ k → k < end → y ≤ y_of (get_or line k 0)
  pub stays : (k : ℕ) → end ≤ k → k < length line → y_of (get_or line k 0) < y

-- One more point: what it asks, and what it leaves.
pub record Growing (line : List ℕ) (m : ℕ) (p : List ℕ) (rx ry : ℕ) : Type 0 where
  pub room : m < length line
  pub kept : Stairs (take m line)
  pub small : Small p
  pub rx_small : rx ≤ 1048576
  pub ry_small : ry ≤ 1048576

pub record Grew (m : ℕ) (p : List ℕ) (rx ry : ℕ) (passed : List (List ℕ)) (left : List ℕ) (held gained : ℕ) : Type 0 where
  pub few : held ≤ m + 1
  pub kept : Stairs (take held left)
  pub gains : gained ≡ gain (rx ∷ ry ∷ []) passed (spot p)
  pub lined : Lined ry (spot p ∷ passed) (take held left)
