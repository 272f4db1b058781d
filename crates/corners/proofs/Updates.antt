-- What an update of the first n points of a list asks, and that no more move than there are.
use Prim.Native.Nat.{ℕ, ◌≤◌}
use mathlib.Core.Path.{◌≡◌}
use mathlib.Core.List.{List}
use native.Mathlib.Omega.{arith}
use lib.ListN.{length, take}
use lib.Seq.{length-take-le}
use Rattle.slices.specs.Spread.{Sparse}
use Rattle.hypervolume.specs.Sorted.{Small, Sorted}
use Rattle.corners.specs.Updating.{Updating, Scratch}

module _ (points : List (List ℕ)) (n : ℕ) (fits : n ≤ length points) where
  pub points_many : length (take n points) ≡ n
  points_many = length-take-le n points fits

  pub first_ready : {u reference : List ℕ} {corners : List (List ℕ)} {places line counts : List ℕ} → Sorted (take n points) → Small u → Small reference → Scratch n corners places line counts → Updating (take n points) u reference corners places line counts
  first_ready {u} {reference} {corners} {places} {line} {counts} sorted small reference_small s =
      record {
        ready =
            record {
              sorted = sorted;
              reference_small = reference_small;
              line_room = let r : n ≤ length line = s.line_room in omega (arith, points_many);
              room = let r : n ≤ length counts = s.counts_room in omega (arith, points_many);
            };
        small = small;
        corners_room = let r : n ≤ length corners = s.corners_room in omega (arith, points_many);
        places_room = let r : n ≤ length places = s.places_room in omega (arith, points_many);
      }

  -- No more move than there are.
  pub some_fit : {all places counts : List ℕ} {some : ℕ} → Sparse (length (take n points)) all places counts some → some ≤ n
  some_fit {some = some} s = let few : some ≤ length (take n points) = s.few in omega (arith, points_many)
