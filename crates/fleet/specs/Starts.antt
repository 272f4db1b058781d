-- Where archives begin, found once and noted.
use Rattle.std.specs.Prelude.{ℕ, ◌<◌, ◌≡◌, List, length, get_or}
use Rattle.fleet.specs.Fleet.{fleet_rows, extents}

-- As many archives as there are places noted pass rows 1 to 3, and each place is where the archive of that turn begins.
pub record Starts (w starts : List ℕ) : Type 0 where
  pub passes : fleet_rows (length starts) w 0 ≡ 0
  pub each : (k : ℕ) → k < length starts → get_or starts k 0 ≡ extents k w
