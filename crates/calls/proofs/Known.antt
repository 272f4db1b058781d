-- What is known of words that pass rows 1 to 3, for code that reads them.
use Prim.Native.Nat.{ℕ, ◌+◌, ◌*◌, ◌≤◌, ◌<◌}
use mathlib.Core.Path.{◌≡◌}
use mathlib.Core.Bool.{true}
use mathlib.Core.List.{List}
use native.Mathlib.Nat.{le_refl, one-le-mul}
use native.Mathlib.Omega.{arith}
use lib.ListN.{length, drop, get_or}
use Rattle.words.specs.Archive.{reference}
use Rattle.words.specs.Layout.{read_shape, read, word}
use Rattle.words.proofs.Reading.{length_read_rows}
use Rattle.words.proofs.Passed.{Passed, Sound, passed, box_bound}
use Rattle.hypervolume.specs.Cells.{box}
use Rattle.words.specs.Format.{shape_allowed, archive_rows}

pub count_rows : (w : List ℕ) → length (read w).rows ≡ word w 0
unfolding read
count_rows w = length_read_rows (word w 0) (drop 8 w)

-- What is known of words that pass, for code that reads them.
pub record Known (w : List ℕ) : Type 0 where
  pub few : word w 0 ≤ 512
  pub held_within : word w 0 ≤ word w 1
  pub records_long : 8 + 5 * word w 0 ≤ length w
  pub long : 8 + 5 * word w 1 ≤ length w
  pub shaped : shape_allowed (read_shape w) ≡ true
  pub boxed : word w 5 ≤ box (reference (read_shape w))
  pub box_small : box (reference (read_shape w)) ≤ 1152921504606846976
  pub sound : Sound (read w)

pub known : (w : List ℕ) → archive_rows w 0 ≡ 0 → Known w
unfolding read read_shape
known w e =
    let p : Passed w = passed w e in
    let capacity : word w 1 ≤ 512 = p.bounds.capacity_high in
    record {
      few = omega (arith, p.counted);
      held_within = p.counted;
      records_long = omega (arith, p.counted, p.long);
      long = p.long;
      shaped = p.sound.shaped;
      boxed = p.sound.within_box;
      box_small = box_bound (read_shape w) p.bounds;
      sound = p.sound;
    }

-- The box of words that pass has a cell.
pub box_filled : (w : List ℕ) → archive_rows w 0 ≡ 0 → 1 ≤ box (reference (read_shape w))
unfolding box
box_filled w e =
    let low : (axis : ℕ) → axis < 3 → 1 ≤ get_or (reference (read_shape w)) axis 0 = (passed w e).bounds.reference_low in
    one-le-mul (low 0 (omega arith)) (one-le-mul (low 1 (omega arith)) (one-le-mul (low 2 (omega arith)) (le_refl 1)))
