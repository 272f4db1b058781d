-- `nearest` is the nearest number, and of two as near the even one; nothing else is.
use Prim.Native.Nat.{ℕ, suc, ◌+◌, ◌*◌, ◌/◌, ◌%◌, ◌≤◌, ◌<◌}
use mathlib.Core.Path.{◌≡◌, sym, ap, subst, ◌∙◌}
use mathlib.Core.Bool.{Bool}
use native.Mathlib.Nat.{add-mul, add-zero, div-add-mod', div-eq_of_lt, eq_of_mul-eq-mul_right, le_antisymm, le_refl, mod-eq_of_lt, mod-lt, mul-add-div_right, mul-add-mod_self_right, mul-le-mul_right, one-mul}
use native.Mathlib.Omega.{arith}
use borrow.Author.Tests.{lt-ltb, le-ltb, eq-eqb, ne_eqb}
use Rattle.slices.specs.Choices.{pick}
use Rattle.hypervolume.proofs.Tests.{Compared, below, above, compared, Equated, same, differs, equated}
use Rattle.rounding.specs.Nearest.{even_of, rounded, nearest, distance, IsNearest, RoundsToNearest}

by_one : (k d : ℕ) → (k + 1) * d ≡ k * d + d
by_one k d = add-mul k 1 d ∙ ap (λ m. k * d + m) (one-mul d)

-- What is rounded is nearest.
rounded_is : (q r d : ℕ) → r < d → IsNearest (q * d + r) d (rounded q r d)
unfolding rounded even_of pick distance
rounded_is q r d l = go _ _ _ (compared (suc (2 * r)) d) (compared (suc d) (2 * r)) (equated (q % 2) 0)
  where
    go : (s t u : Bool) → Compared (suc (2 * r)) d s → Compared (suc d) (2 * r) t → Equated (q % 2) 0 u → IsNearest (q * d + r) d (rounded q r d)
    go s t u (below h) b e =
        rw (lt-ltb (2 * r) d h) (record { near = omega arith; tie_even = λ k. omega arith })
    go s t u (above h) (below k) e =
        rw (le-ltb (2 * r) d (omega arith), lt-ltb d (2 * r) k) (record { near = omega (arith, by_one q d); tie_even = λ z. omega (arith, by_one q d) })
    go s t u (above h) (above k) (same e) =
        rw (le-ltb (2 * r) d (omega arith), le-ltb d (2 * r) (omega arith), eq-eqb (q % 2) 0 e) (record { near = omega arith; tie_even = λ z. e })
    go s t u (above h) (above k) (differs e) =
        rw (le-ltb (2 * r) d (omega arith), le-ltb d (2 * r) (omega arith), ne_eqb (q % 2) 0 e) (record { near = omega (arith, by_one q d); tie_even = λ z. omega (arith, e) })

nearest_is : (n d : ℕ) → 1 ≤ d → IsNearest n d (nearest n d)
unfolding nearest
nearest_is n d one =
    subst (λ k. IsNearest k d (rounded (n / d) (n % d) d)) (div-add-mod' n d) (rounded_is (n / d) (n % d) d (mod-lt n one))

-- The quotient and the rest tell the nearest number.
pub nearest_parts : (q r d : ℕ) → r < d → rounded q r d ≡ nearest (q * d + r) d
unfolding nearest
nearest_parts q r d l =
    let quotient : (q * d + r) / d ≡ q =
    mul-add-div_right (omega arith) q r ∙ ap (λ k. q + k) (div-eq_of_lt l) ∙ add-zero q in
    let rest : (q * d + r) % d ≡ r = mul-add-mod_self_right q d r ∙ mod-eq_of_lt l in
    rw (quotient, rest)

-- More is rounded to no less: else both would be ties, and neighbours both even.
in_order : (m n d a b : ℕ) → 1 ≤ d → m ≤ n → IsNearest m d a → IsNearest n d b → a ≤ b
unfolding distance
in_order m n d a b one l h k = go _ (compared a b)
  where
    go : (t : Bool) → Compared a b t → a ≤ b
    go t (below s) = s
    go t (above s) =
        let apart : (b + 1) * d ≤ a * d = mul-le-mul_right d (let z : b + 1 ≤ a = omega arith in z) in
        let step : (b + 1) * d ≡ b * d + d = by_one b d in
        let meet : a * d ≡ (b + 1) * d = omega (arith, h.near, k.near) in
        let next : a ≡ b + 1 = eq_of_mul-eq-mul_right d one a (b + 1) meet in
        let first : a % 2 ≡ 0 = h.tie_even (omega (arith, h.near, k.near)) in
        let second : b % 2 ≡ 0 = k.tie_even (omega (arith, h.near, k.near)) in
        omega arith

nearest_only : (n d a : ℕ) → 1 ≤ d → IsNearest n d a → a ≡ nearest n d
nearest_only n d a one h =
    le_antisymm
    (in_order n n d a (nearest n d) one (le_refl n) h (nearest_is n d one))
    (in_order n n d (nearest n d) a one (le_refl n) (nearest_is n d one) h)

whole_is : (k d : ℕ) → 1 ≤ d → IsNearest (k * d) d k
unfolding distance
whole_is k d one = record { near = omega arith; tie_even = λ z. omega arith }

pub rounding : RoundsToNearest
rounding = record {
  is = nearest_is;
  only = nearest_only;
  exact = λ k d one. sym (nearest_only (k * d) d k one (whole_is k d one));
  rising = λ m n d one l. in_order m n d (nearest m d) (nearest n d) one l (nearest_is m d one) (nearest_is n d one);
}
