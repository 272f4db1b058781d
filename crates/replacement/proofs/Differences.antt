-- The difference of two counts fits an i64, and the code's casts keep the counts.
use Prim.Native.Nat.{ℕ, ◌^◌, ◌≤◌, ◌<◌}
use mathlib.Core.Path.{◌≡◌, ap, sym, ◌∙◌, subst}
use native.Mathlib.Nat.{le_trans}
use native.Mathlib.Omega.{arith}
use lib.IntN.{ℤ, pos, negsuc, ◌-ℤ◌, nat_abs}
use lib.Signed.{mag}
use mir.Syntax.{w64}
use mir.Val.{SFits, to_z, of_z}
use mir.Facts.{to_z_pos, to_z-of_z}
use Rattle.calls.specs.Replacement.{difference}
use Rattle.calls.proofs.Replacement.{difference_bound}

small : (n : ℕ) → n ≤ 1152921504606846976 → n < 2 ^ 63
small n h = omega arith

-- What has to fit below the sign is at most the size of the number.
mag_least : (z : ℤ) → mag z ≤ nat_abs z
mag_least (pos n) = omega arith
mag_least (negsuc n) = omega arith

module _ (a : ℕ) (h : a ≤ 1152921504606846976) where
  plain : (b : ℕ) → b ≤ 1152921504606846976 → mag (pos a -ℤ pos b) < 2 ^ 63
  unfolding difference
  plain b k =
      small (mag (pos a -ℤ pos b)) (le_trans (mag_least (pos a -ℤ pos b)) (difference_bound a b 1152921504606846976 h k))

  module _ (b : ℕ) (k : b ≤ 1152921504606846976) where
    casts : to_z w64 a -ℤ to_z w64 b ≡ pos a -ℤ pos b
    casts = ap (λ (z : ℤ). z -ℤ to_z w64 b) (to_z_pos w64 (small a h)) ∙ ap (λ (z : ℤ). pos a -ℤ z) (to_z_pos w64 (small b k))

    pub fits : SFits w64 (to_z w64 a -ℤ to_z w64 b)
    fits = subst (λ (z : ℤ). SFits w64 z) (sym casts) (record { sfits = plain b k })

    -- A number that is such a difference stays what it is on its way through a word.
    pub through : (z : ℤ) → z ≡ difference a b → to_z w64 (of_z w64 z) ≡ difference a b
    unfolding difference
    through z e = to_z-of_z (subst (λ (y : ℤ). SFits w64 y) (sym e) (record { sfits = plain b k })) ∙ e

    pub differs : to_z w64 (of_z w64 (to_z w64 a -ℤ to_z w64 b)) ≡ difference a b
    unfolding difference
    differs = to_z-of_z fits ∙ casts
