-- The least contributor of the first n places, as it is noted.
use Prim.Native.Nat.{ℕ, ◌≤◌, ◌<◌}
use mathlib.Core.Path.{◌≡◌, sym, ap₂, ◌∙◌}
use mathlib.Core.List.{List, ◌∷◌, []}
use native.Mathlib.Omega.{arith}
use lib.ListN.{length, take, get_or}
use lib.Seq.{length-take-le, get_or-take}
use Rattle.slices.specs.Put.{put}
use Rattle.reduction.specs.Columns.{LeastAt, LeastNoted}

module _ (numbers kept : List ℕ) (n : ℕ) (p : n ≤ length numbers) where
  place_below : (k : ℕ) → k < length (take n numbers) → k < n
  place_below k l = omega (arith, length-take-le n numbers p)

  pub least_noted : (rule k at : ℕ) (log after : List ℕ) → (k < length (take n numbers)) × LeastAt rule (take n numbers) (take n kept) k
      → after ≡ put log at (get_or numbers k 0 ∷ get_or kept k 0 ∷ []) → (k < n) × LeastNoted rule (take n numbers) (take n kept) k log at after
  least_noted rule k at log after l e =
      let low : k < n = place_below k l.0 in (
        low,
        record {
          least = l.1;
          noted = e ∙ ap₂ (λ x y. put log at (x ∷ y ∷ [])) (sym (get_or-take n numbers k 0 low)) (sym (get_or-take n kept k 0 low));
        },
      )
