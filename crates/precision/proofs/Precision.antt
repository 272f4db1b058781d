-- The figure is exact up to 2^53 cells, and within 192 × points above.
use Prim.Native.Nat.{ℕ, ◌*◌, ◌/◌, ◌%◌, ◌^◌, ◌≤◌}
use mathlib.Core.Path.{◌≡◌, ap, ◌∙◌}
use mathlib.Core.Bool.{not}
use mathlib.Core.List.{List, ◌∷◌, map, []}
use native.Mathlib.Nat.{mul-one, mul-le-mul}
use native.Mathlib.Omega.{arith}
use lib.Dec.{ltb, eqb}
use lib.ListN.{length, take, get_or}
use lib.Ieee.{Float}
use borrow.Author.Tests.{ltb-false, not-false}
use Rattle.slices.specs.Choices.{both}
use Rattle.slices.proofs.Choices.{both_true}
use Rattle.hypervolume.specs.Cells.{box}
use Rattle.hypervolume.specs.Counts.{total}
use Rattle.hypervolume.proofs.Counting.{total_le_box}
use Rattle.words.specs.Format.{within, each}
use Rattle.words.proofs.Passed.{guard_none}
use Rattle.layers.specs.Layers.{begins, levels, Layer, layers_at, layers, cells_of}
use Rattle.layers.proofs.Layers.{AllFit, layers_fit, those_none, add_up}
use Rattle.doubles.specs.Doubles.{Whole, number_of, zero_double, sum_from, About}
use Rattle.doubles.proofs.Summing.{exact, close}
use Rattle.volume.specs.declared.Corner.{Corner}
use Rattle.volume.specs.Volume.{Cells, corner, points_of, volume_rows, figure_of, figure, volume_or, volume}
use Rattle.precision.specs.Precision.{VolumeIsPrecise}
use Rattle.volume.proofs.Reading.{points_many}
use Rattle.volume.proofs.Outcomes.{corner_small}

answers : (r : Corner) (ds : List Float) → volume_rows r ds ≡ 0 → volume r ds ≡ Cells (figure r ds)
unfolding volume volume_or
answers r ds e = rw e

-- What a call that is not refused has passed.
record Passed (r : Corner) (ds : List Float) : Type 0 where
  pub few : length ds / 3 ≤ 512
  pub small : (axis : ℕ) → get_or (corner r) axis 0 ≤ 1048576

passed : (r : Corner) (ds : List Float) → volume_rows r ds ≡ 0 → Passed r ds
unfolding volume_rows
passed r ds e =
    let behind-17 = (guard_none (not (eqb (length ds % 3) 0)) 16 _ e).1 in
    let row_20 = guard_none (ltb 512 (length ds / 3)) 19 _ behind-17 in
    let row_19 = (guard_none (not (both (each (within 1 1048576) (corner r)) (each (within 0 1048576) (map number_of ds)))) 18 0 row_20.1).0 in
    record {
      few = ltb-false 512 (length ds / 3) row_20.0;
      small = corner_small (corner r) (both_true (each (within 1 1048576) (corner r)) (each (within 0 1048576) (map number_of ds)) (not-false _ row_19)).0;
    }

module _ (r : Corner) (ds : List Float) (e : volume_rows r ds ≡ 0) where
  abbrev points : List (List ℕ)
  points = points_of ds

  slices : List Layer
  slices = layers (take 2 (corner r)) (get_or (corner r) 2 0) points

  slices_whole : cells_of slices ≡ total (corner r) points
  unfolding slices corner
  slices_whole = add_up.whole (number_of r.x ∷ number_of r.y ∷ []) (number_of r.z) points

  x_small : number_of r.x ≤ 1048576
  unfolding corner
  x_small = (passed r ds e).small 0

  y_small : number_of r.y ≤ 1048576
  unfolding corner
  y_small = (passed r ds e).small 1

  z_small : number_of r.z ≤ 1048576
  unfolding corner
  z_small = (passed r ds e).small 2

  slices_fit : AllFit (2 ^ 53) (2 ^ 53) slices
  unfolding slices corner box
  slices_fit =
      layers_fit (number_of r.x ∷ number_of r.y ∷ []) (number_of r.z) points
      (let area : number_of r.x * (number_of r.y * 1) ≤ 1048576 * 1048576 = rw (mul-one (number_of r.y)) (mul-le-mul x_small y_small) in omega arith)
      (omega (arith, z_small))

  total_most : total (corner r) points ≤ 2 ^ 60
  unfolding corner box
  total_most =
      let most : total (corner r) points ≤ number_of r.x * (number_of r.y * (number_of r.z * 1)) = total_le_box (corner r) points in
      let cube : number_of r.x * (number_of r.y * (number_of r.z * 1)) ≤ 1048576 * (1048576 * 1048576) =
      rw (mul-one (number_of r.z)) (mul-le-mul x_small (mul-le-mul y_small z_small)) in
      omega arith

  slices_few : length slices ≤ length points
  unfolding slices
  slices_few = add_up.few (take 2 (corner r)) (get_or (corner r) 2 0) points

  is_exact : total (corner r) points ≤ 2 ^ 53 → Whole (figure r ds) (total (corner r) points)
  unfolding figure figure_of slices
  is_exact h = rw slices_whole at (exact slices slices_fit (rw slices_whole h))

  is_close : About (figure r ds) (total (corner r) points) (192 * length slices)
  unfolding figure figure_of slices
  is_close =
      rw slices_whole at
      (close slices slices_fit (rw slices_whole total_most) (omega (arith, slices_few, points_many ds, (passed r ds e).few)))

no_points : (r : Corner) → volume_rows r [] ≡ 0 → volume r [] ≡ Cells zero_double
unfolding figure figure_of layers levels points_of begins layers_at sum_from
no_points r e = answers r [] e ∙ ap (λ zs. Cells (sum_from zero_double (layers_at (take 2 (corner r)) (get_or (corner r) 2 0) [] zs))) (those_none 0 (get_or (corner r) 2 0))

pub precise : VolumeIsPrecise
precise =
    record {
      answers = answers;
      exact = λ r ds e h. is_exact r ds e (omega (arith, total_le_box (corner r) (points_of ds), h));
      close = λ r ds e.
          let v = is_close r ds e in
          record {
            value = v.value;
            whole = v.whole;
            within = record { above = omega (arith, slices_few r ds e, v.within.above); below = omega (arith, slices_few r ds e, v.within.below) };
          };
      none = no_points;
    }
