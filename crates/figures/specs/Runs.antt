-- What the code asks of the runs and of their totals.
use Rattle.std.specs.Prelude.{ℕ, ◌≤◌, ◌≡◌, true, List, length, get_or}
use Rattle.fleet.specs.Fleet.{archives}
use Rattle.fleet.specs.Starts.{Starts}
use Rattle.figures.specs.Figures.{of_one_reference}

-- Words that hold 1 to 15 archives of one reference, and the places where they begin.
pub record Runs (w starts : List ℕ) : Type 0 where
  pub begun : Starts w starts
  pub some : 1 ≤ length starts
  pub few : length starts ≤ 15
  pub alike : of_one_reference (archives (length starts) w) ≡ true

-- At most 15 numbers, each at most 2^60: their sum fits a word.
pub record Totals (l : List ℕ) : Type 0 where
  pub few : length l ≤ 15
  pub small : (i : ℕ) → get_or l i 0 ≤ 1152921504606846976
