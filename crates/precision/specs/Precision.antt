-- How close the figure is (document 02, W-207): "It equals the cell count when the box is at most 2^53. Otherwise it lies within
-- 192 × points of it, both read as whole numbers." The proof is in proofs/Precision.
use Rattle.std.specs.Prelude.{◌*◌, ◌^◌, ◌≤◌, ◌≡◌, List, [], length, Float}
use Rattle.hypervolume.specs.Cells.{box}
use Rattle.hypervolume.specs.Counts.{total}
use Rattle.doubles.specs.Doubles.{Whole, zero_double, About}
use Rattle.volume.specs.declared.Corner.{Corner}
use Rattle.volume.specs.Volume.{Cells, corner, points_of, volume_rows, figure, volume}

pub record VolumeIsPrecise : Type 0 where
  -- where the call is not refused, it answers the figure
  pub answers : (r : Corner) (ds : List Float) → volume_rows r ds ≡ 0 → volume r ds ≡ Cells (figure r ds)
  pub exact : (r : Corner) (ds : List Float) → volume_rows r ds ≡ 0 → box (corner r) ≤ 2 ^ 53 → Whole (figure r ds) (total (corner r) (points_of ds))
  pub close : (r : Corner) (ds : List Float) → volume_rows r ds ≡ 0 → About (figure r ds) (total (corner r) (points_of ds)) (192 * length (points_of ds))
  -- no points: +0
  pub none : (r : Corner) → volume_rows r [] ≡ 0 → volume r [] ≡ Cells zero_double
