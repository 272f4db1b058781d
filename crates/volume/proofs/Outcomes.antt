-- How the call ends: by which row, or with the figure.
use Prim.Native.Nat.{ℕ, ◌/◌, ◌%◌, ◌≤◌, ◌<◌}
use mathlib.Core.Path.{◌≡◌, refl, ◌∙◌}
use mathlib.Core.Bool.{Bool, true, false, not}
use mathlib.Core.List.{List, map}
use lib.ListN.{length}
use lib.Ieee.{Float}
use borrow.Author.Tests.{lt-ltb, le-ltb, eq-eqb, ne_eqb}
use Rattle.slices.specs.Choices.{both, pick}
use Rattle.words.specs.Format.{guard, within, each}
use Rattle.hypervolume.specs.Sorted.{Small}
use Rattle.words.proofs.Passed.{each_bounds}
use Rattle.doubles.specs.Doubles.{number_of}
use Rattle.volume.specs.declared.Corner.{Corner}
use Rattle.volume.specs.Volume.{Volume, Cells, Refused, corner, points_of, volume_rows, figure_of, figure, volume_or, volume}
use Rattle.volume.specs.Layering.{Readable}

module _ (r : Corner) (ds : List Float) where
  pub row_17 : (length ds % 3 ≡ 0 → ⊥) → Refused 17 ≡ volume r ds
  unfolding volume volume_rows volume_or guard
  row_17 n = rw (ne_eqb (length ds % 3) 0 n)

  module _ (threes : length ds % 3 ≡ 0) where
    pub row_20 : 512 < length ds / 3 → Refused 20 ≡ volume r ds
    unfolding volume volume_rows volume_or guard
    row_20 l = rw (eq-eqb (length ds % 3) 0 threes, lt-ltb 512 (length ds / 3) l)

    module _ (few : length ds / 3 ≤ 512) where
      pub readable : Readable ds
      readable = record { threes = threes; few = few }

      -- p is the reference as it was read
      module _ {p : List ℕ} (here : p ≡ corner r) where
        pub row_19 : each (within 1 1048576) p ≡ false → Refused 19 ≡ volume r ds
        unfolding volume volume_rows volume_or guard both
        row_19 e = rw (eq-eqb (length ds % 3) 0 threes, le-ltb 512 (length ds / 3) few, ← here, e)

        pub measured : each (within 1 1048576) p ≡ true → {v : Volume} → v ≡ pick (each (within 0 1048576) (map number_of ds)) (Cells (figure_of p (points_of ds))) (Refused 19) → v ≡ volume r ds
        unfolding volume volume_rows volume_or guard both pick figure
        measured e {v} f = f ∙ rw (eq-eqb (length ds % 3) 0 threes, le-ltb 512 (length ds / 3) few, ← here, e) (go (each (within 0 1048576) (map number_of ds)))
          where
            go : (b : Bool) → pick b (Cells (figure_of p (points_of ds))) (Refused 19) ≡ volume_or (guard (not b) 19 0) (figure_of p (points_of ds))
            go true = refl
            go false = refl

pub corner_small : (p : List ℕ) → each (within 1 1048576) p ≡ true → Small p
corner_small p e axis = (each_bounds 1 1048576 p e axis).1

-- The points are refused, or measured.
pub refused_points : (b : Bool) (v w : Volume) → b ≡ false → w ≡ pick b v w
unfolding pick
refused_points b v w e = rw e

pub measured_points : (b : Bool) (u v w : Volume) → b ≡ true → u ≡ v → u ≡ pick b v w
unfolding pick
measured_points b u v w e f = rw e f
