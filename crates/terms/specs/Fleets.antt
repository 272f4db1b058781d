-- Words behind the last of archives one behind the other (document 02, W-213) are not read: what Behind says of one archive. (A
-- call that only reads writes nothing.)
use Rattle.std.specs.Prelude.{ℕ, ◌≡◌, List, take}
use Rattle.fleet.specs.Fleet.{extents}
use Rattle.figures.specs.Figures.{figures}

-- Of two slices with the same words before the end of the last archive, whatever lies behind makes no difference. (Their
-- lengths need no condition: a slice that is shorter has no words behind, so the two are then equal.)
pub record FleetsBehind : Type 0 where
  pub not_read : (number : ℕ) (v w : List ℕ) → take (extents number v) v ≡ take (extents number v) w
      → figures v number ≡ figures w number
