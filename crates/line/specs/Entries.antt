-- Entering the next point in the line: the entries that it covers are flagged or left out, and its own entry put in.
use Rattle.std.specs.Prelude.{ℕ, ◌+◌, ◌-◌, ◌≤◌, ◌<◌, ◌≡◌, List, ◌∷◌, ◌++◌, [], length, take, drop, get_or}
use Rattle.line.specs.Line.{x_of, index_of, flag_of, Rising, Flagged, ValidLine, Ranked, AlikeAt, Alike}

-- Every entry is of a point of index below n.
unfoldable pub Below : ℕ → List ℕ → Type 0
Below n [] = Unit {0}
Below n (w ∷ line) = (index_of w < n) × Below n line

-- The entries `old` behind those of `front`, made ready for the entry `next` between them: the new ones ascend, are flagged as
-- they must be, and with `next` they count as the old ones did.
pub record ThinnedLine (front old : List ℕ) (next : ℕ) (new : List ℕ) : Type 0 where
  pub short : length new ≤ length old
  pub rising : Rising (x_of next) new
  pub flags : Flagged (front ++ (next ∷ [])) new
  pub alike : (i j : ℕ) → AlikeAt (next ∷ (front ++ old)) (next ∷ (front ++ new)) i j
  pub below : (n : ℕ) → Below n old → Below n new

-- The walk among the first m entries from `at` on: what it asks, and what it leaves. The entries that stay end at `to`; those from
-- `from` on are as they were.
pub record ThinningLine (line : List ℕ) (m at next : ℕ) : Type 0 where
  pub room : m ≤ length line
  pub within : at ≤ m
  pub valid : ValidLine (take m line)
  pub beyond : (k : ℕ) → at ≤ k → k < m → x_of next ≤ x_of (get_or line k 0)

pub record Walked (line : List ℕ) (m at next : ℕ) (left : List ℕ) (to from : ℕ) : Type 0 where
  pub front : at ≤ to
  pub gap : to ≤ from
  pub within : from ≤ m
  pub long : length left ≡ length line
  pub before : take at left ≡ take at line
  pub thinned : ThinnedLine (take at line) (drop at (take m line)) next (drop at (take to left) ++ drop from (take m left))

-- The gap closed.
pub record Closed (line : List ℕ) (to from m : ℕ) (left : List ℕ) (end : ℕ) : Type 0 where
  pub ends : end ≡ to + (m - from)
  pub joined : take end left ≡ take to line ++ drop from (take m line)

-- The next point: what entering it asks, and what it leaves.
pub record Entering (line : List ℕ) (m at next : ℕ) : Type 0 where
  pub room : m < length line
  pub valid : ValidLine (take m line)
  pub ranked : Ranked (take m line) (x_of next) at
  pub clear : flag_of next ≡ 0

pub record Entered (ry : ℕ) (line : List ℕ) (m next : ℕ) (left : List ℕ) (end : ℕ) : Type 0 where
  pub within : end ≤ m + 1
  pub valid : ValidLine (take end left)
  pub alike : Alike ry (next ∷ take m line) (take end left)
  pub below : (n : ℕ) → Below n (take m line) → index_of next < n → Below n (take end left)
