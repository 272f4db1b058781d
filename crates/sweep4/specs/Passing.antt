-- How the counts are worked out, for the contracts of the inner functions: the points of the coordinates in ascending w, and their counts.
use Rattle.std.specs.Prelude.{ℕ, ◌+◌, ◌/◌, ◌%◌, ◌≤◌, ◌<◌, ◌≡◌, true, List, map, [], length, take, get_or}
use Rattle.hypervolume.specs.Counts.{total, contributions}
use Rattle.order.specs.Order.{sum_of}
use Rattle.order.specs.Keys.{Taken}
use Rattle.words.specs.Format.{within, each}
use Rattle.sweep4.specs.Quadruples.{points_of}

-- Rows 17, 20 and 6 have passed.
pub record Readable (coords : List ℕ) : Type 0 where
  pub fours : length coords % 4 ≡ 0
  pub few : length coords / 4 ≤ 512
  pub allowed : each (within 0 32768) coords ≡ true

-- The points at these places.
unfoldable pub at_places : List (List ℕ) → List ℕ → List (List ℕ)
at_places points places = map (λ place. get_or points place []) places

-- The points of the coordinates in ascending w, by their keys, under a reference that row 4 lets pass.
pub record Taking (coords keys reference : List ℕ) (r₄ : ℕ) : Type 0 where
  pub readable : Readable coords
  pub taken : Taken 3 (points_of coords) keys
  pub reference_small : (axis : ℕ) → get_or reference axis 0 ≤ 32768
  pub last_small : r₄ ≤ 32768

-- The points of the first i keys stand at the places held, in some order; this is their total, and these are their
-- contributions.
pub record Swept (reference : List ℕ) (points : List (List ℕ)) (keys : List ℕ) (i : ℕ) (own held : List ℕ) (sum : ℕ) : Type 0 where
  pub same : (f : ℕ → ℕ) → sum_of f (take i held) ≡ sum_of (λ key. f (key % 512)) (take i keys)
  pub counted : sum ≡ total reference (at_places points (take i held))
  pub each : take i own ≡ contributions reference (at_places points (take i held))

-- The points of all keys stand at the places held: these are their total and their contributions.
pub record Counted (reference : List ℕ) (points : List (List ℕ)) (own held : List ℕ) (sum : ℕ) : Type 0 where
  pub keys : List ℕ
  pub taken : Taken 3 points keys
  pub swept : Swept reference points keys (length keys) own held sum

-- A number to each place, and every place, one of 512, inside the output, behind the total.
pub record Placeable (numbers places out : List ℕ) : Type 0 where
  pub many : length numbers ≡ length places
  pub some : 0 < length out
  pub inside : (k : ℕ) → k < length places → get_or places k 0 + 1 < length out
  pub few : (k : ℕ) → k < length places → get_or places k 0 < 512
