-- How the figure is worked out, for the contracts of the inner functions: doubles that can be read, the points read and their keys,
-- and one level after the other.
use Rattle.std.specs.Prelude.{ℕ, ◌-◌, ◌/◌, ◌%◌, ◌≤◌, min, ◌≡◌, true, false, List, ltb, length, take, get_or, Float, Option, None, Some}
use Rattle.slices.specs.Choices.{pick}
use Rattle.hypervolume.specs.declared.Point.{Point}
use Rattle.words.specs.Format.{within, each}
use Rattle.order.specs.Keys.{Keyed, Few}
use Rattle.doubles.specs.Doubles.{with_layer}
use Rattle.volume.specs.Volume.{points_of}

-- Rows 17 and 20 have passed.
pub record Readable {A : Type 0} (ds : List A) : Type 0 where
  pub threes : length ds % 3 ≡ 0
  pub few : length ds / 3 ≤ 512

-- The points read, and their keys.
pub record Loaded (ds : List Float) (points : List (List ℕ)) (keys : List ℕ) : Type 0 where
  pub all : take (length ds / 3) points ≡ points_of ds
  pub keyed : Keyed 2 (points_of ds) (take (length ds / 3) keys)
  pub few : Few (points_of ds)

-- The z of the key at place i, or the reference's where that is lower or no key is left.
unfoldable pub level_at : List ℕ → (i rz : ℕ) → ℕ
level_at keys i rz = pick (ltb i (length keys)) (min (get_or keys i 0 / 512) rz) rz

-- The sum with the layer from z up to the next level, if that is another one.
unfoldable pub layer_or : Float → (area z next : ℕ) → Float
layer_or sum area z next = pick (ltb z next) (with_layer sum (record { area = area; height = next - z })) sum

-- Numbers that doubles were read as: a point where each is from `low` to 1,048,576, and none where one is not.
abbrev pub ReadAs : (low : ℕ) → List ℕ → Option Point → Type 0
ReadAs low numbers None = each (within low 1048576) numbers ≡ false
ReadAs low numbers (Some p) = (p.at ≡ numbers) × (each (within low 1048576) numbers ≡ true)
