-- Volume in doubles (document 02, W-207).
use Rattle.std.specs.Prelude.{ℕ, zero, suc, ◌/◌, ◌%◌, not, List, ◌∷◌, map, [], ltb, eqb, length, take, get_or, Float, Result, Ok, Err}
use Rattle.slices.specs.Choices.{both}
use Rattle.refusals.specs.declared.Refusal.{Refusal}
use Rattle.refusals.specs.Table.{number_of as number}
use Rattle.words.specs.Format.{guard, within, each}
use Rattle.layers.specs.Layers.{layers}
use Rattle.doubles.specs.Doubles.{number_of, zero_double, sum_from}
use Rattle.volume.specs.declared.Corner.{Corner}
use Rattle.volume.specs.declared.VolumeAnswer.{VolumeAnswer}

-- "The reference corner as three doubles", as numbers.
unfoldable pub corner : Corner → List ℕ
corner r = number_of r.x ∷ number_of r.y ∷ number_of r.z ∷ []

-- "A lent slice of doubles, three to a point", as points.
unfoldable pub points_of : List Float → List (List ℕ)
points_of [] = []
points_of (x ∷ []) = []
points_of (x ∷ y ∷ []) = []
points_of (x ∷ y ∷ z ∷ ds) = (number_of x ∷ number_of y ∷ number_of z ∷ []) ∷ points_of ds

-- "(17: length not a multiple of three; 19: a double not as above; 20: more than 512 points; in the order 17, 20, 19.)" As
-- above: "All are whole; reference 1 to 1,048,576, points 0 to 1,048,576, minus zero as zero." A double that is none of these
-- numbers is read as 1,048,577.
unfoldable pub volume_rows : Corner → List Float → ℕ
volume_rows r ds =
    guard (not (eqb (length ds % 3) 0)) 17
    (guard (ltb 512 (length ds / 3)) 20
    (guard (not (both (each (within 1 1048576) (corner r)) (each (within 0 1048576) (map number_of ds)))) 19 0))

-- "The sum starts at zero. For each distinct z below the reference, of any point given, ascending, the slice's area is multiplied by
-- its height and the product added, each step rounded once." The layers along z, below rx and ry.
unfoldable pub figure_of : (reference : List ℕ) → List (List ℕ) → Float
figure_of reference points = sum_from zero_double (layers (take 2 reference) (get_or reference 2 0) points)

unfoldable pub figure : Corner → List Float → Float
figure r ds = figure_of (corner r) (points_of ds)

-- "The answer is a volume in double precision or a refusal."
pub data Volume : Type 0 where
  Cells : Float → Volume
  Refused : ℕ → Volume

unfoldable pub volume_or : (row : ℕ) → Float → Volume
volume_or zero v = Cells v
volume_or (suc row) v = Refused (suc row)

unfoldable pub volume : Corner → List Float → Volume
volume r ds = volume_or (volume_rows r ds) (figure r ds)

-- This paper's number and value for each case: 0 and the volume, or the refusal and +0.
unfoldable pub answer_of : Volume → VolumeAnswer
answer_of (Cells v) = record { refusal = 0; volume = v }
answer_of (Refused n) = record { refusal = n; volume = zero_double }

-- What the code answers, as that.
abbrev pub volume_of : Result Float Refusal → Volume
volume_of (Ok v) = Cells v
volume_of (Err refusal) = Refused (number refusal)
