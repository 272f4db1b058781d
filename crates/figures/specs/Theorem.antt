-- What the figures are, said from outside, and what they say of the archives.
use Rattle.std.specs.Prelude.{ℕ, ◌*◌, ◌^◌, ◌≤◌, ◌<◌, ◌≡◌, List, map, leb, length, get_or}
use Rattle.order.specs.Order.{sum_of}
use Rattle.hypervolume.specs.Cells.{holds}
use Rattle.hypervolume.specs.Counts.{total}
use Rattle.words.specs.Layout.{word}
use Rattle.words.specs.Format.{archive_rows}
use Rattle.calls.specs.Calls.{reference_of, held_points}
use Rattle.calls.specs.Lent.{share, audit}
use Rattle.fleet.specs.Fleet.{archives, past}
use Rattle.figures.specs.Figures.{totals, sum, least, greatest, median, figures}

-- One of the numbers.
pub record OneOf (l : List ℕ) (v : ℕ) : Type 0 where
  pub place : ℕ
  pub inside : place < length l
  pub there : get_or l place 0 ≡ v

-- How many of the numbers are not above v, and how many are not below it.
unfoldable pub not_above : (v : ℕ) → List ℕ → ℕ
not_above v l = sum_of (λ t. holds (leb t v)) l

unfoldable pub not_below : (v : ℕ) → List ℕ → ℕ
not_below v l = sum_of (λ t. holds (leb v t)) l

-- v is the middle one, of an even count the lower: one of the numbers, at least half of them not above it, more than half not below.
pub record Middle (l : List ℕ) (v : ℕ) : Type 0 where
  pub one_of : OneOf l v
  pub half : length l ≤ 2 * not_above v l
  pub most : length l < 2 * not_below v l

-- v is the lowest of them, or the highest.
pub record Lowest (l : List ℕ) (v : ℕ) : Type 0 where
  pub one_of : OneOf l v
  pub each : (i : ℕ) → i < length l → v ≤ get_or l i 0

pub record Highest (l : List ℕ) (v : ℕ) : Type 0 where
  pub one_of : OneOf l v
  pub each : (i : ℕ) → i < length l → get_or l i 0 ≤ v

-- How the figures of some numbers lie.
pub record Spread (l : List ℕ) : Type 0 where
  pub low : least l ≤ median l
  pub high : median l ≤ greatest l
  pub sum_low : length l * least l ≤ sum l
  pub sum_high : sum l ≤ length l * greatest l

-- The median is the kept total of one of the archives, and its share is what the call share says of that archive.
pub record OfOneRun (w : List ℕ) (number : ℕ) : Type 0 where
  pub run : ℕ
  pub inside : run < number
  pub median : (figures w number).median ≡ word (past run w) 5
  pub share : (figures w number).share ≡ (share (past run w)).value

-- The figures of one archive: those of the calls share and audit, and its kept total each time.
pub record Alone (w : List ℕ) : Type 0 where
  pub refusal : (figures w 1).refusal ≡ archive_rows w 0
  pub sum : archive_rows w 0 ≡ 0 → (figures w 1).sum ≡ word w 5
  pub least : archive_rows w 0 ≡ 0 → (figures w 1).least ≡ word w 5
  pub greatest : archive_rows w 0 ≡ 0 → (figures w 1).greatest ≡ word w 5
  pub median : archive_rows w 0 ≡ 0 → (figures w 1).median ≡ word w 5
  pub share : (figures w 1).share ≡ (share w).value
  pub audits : (figures w 1).audits ≡ (audit w).value

pub record FiguresLaws : Type 0 where
  -- The median is the middle one and nothing else is; so with the least and the greatest.
  pub median_is : (l : List ℕ) → 1 ≤ length l → Middle l (median l)
  pub median_only : (l : List ℕ) (v : ℕ) → Middle l v → v ≡ median l
  pub least_is : (l : List ℕ) → 1 ≤ length l → Lowest l (least l)
  pub least_only : (l : List ℕ) (v : ℕ) → Lowest l v → v ≡ least l
  pub greatest_is : (l : List ℕ) → 1 ≤ length l → Highest l (greatest l)
  pub greatest_only : (l : List ℕ) (v : ℕ) → Highest l v → v ≡ greatest l
  pub spread : (l : List ℕ) → 1 ≤ length l → Spread l
  -- "The sum is at most 15 × 2^60 and never wraps."
  pub sum_fits : (w : List ℕ) (number : ℕ) → (figures w number).sum ≤ 15 * 2 ^ 60
  pub of_one_run : (w : List ℕ) (number : ℕ) → (figures w number).refusal ≡ 0 → OfOneRun w number
  -- Where every audit says yes, the totals are the counts of cells.
  pub counted : (w : List ℕ) (number : ℕ) → (figures w number).audits ≡ 1
      → totals (archives number w) ≡ map (λ a. total (reference_of a) (held_points a)) (archives number w)
  pub alone : (w : List ℕ) → Alone w
