-- Arrays of 512 to count in, which calls are lent again and again and leave as long as they were.
use Prim.Native.Nat.{ℕ}
use mathlib.Core.Path.{◌≡◌, ◌∙◌}
use mathlib.Core.List.{List}
use native.Mathlib.Omega.{arith}
use lib.ListN.{length}
use Rattle.ask.specs.RecordCounts.{Room}

pub record Arrays (points corners : List (List ℕ)) (places line counts : List ℕ) : Type 0 where
  pub points_long : length points ≡ 512
  pub corners_long : length corners ≡ 512
  pub places_long : length places ≡ 512
  pub line_long : length line ≡ 512
  pub counts_long : length counts ≡ 512

module _ {points corners : List (List ℕ)} {places line counts : List ℕ} (a : Arrays points corners places line counts) where
  pub room : Room points corners places line counts
  room =
      record {
        points_long = omega (arith, a.points_long);
        corners_long = omega (arith, a.corners_long);
        places_long = omega (arith, a.places_long);
        line_long = omega (arith, a.line_long);
        counts_long = omega (arith, a.counts_long);
      }

  pub arrays_kept : {points' corners' : List (List ℕ)} {places' line' counts' : List ℕ} → length points' ≡ length points → length corners' ≡ length corners
      → length places' ≡ length places → length line' ≡ length line → length counts' ≡ length counts → Arrays points' corners' places' line' counts'
  arrays_kept p c l n k =
      record {
        points_long = p ∙ a.points_long;
        corners_long = c ∙ a.corners_long;
        places_long = l ∙ a.places_long;
        line_long = n ∙ a.line_long;
        counts_long = k ∙ a.counts_long;
      }
