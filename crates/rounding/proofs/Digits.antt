-- Long division, digit by digit: total × 10^i is quotient × whole and a rest below it.
use Prim.Native.Nat.{ℕ, ◌+◌, ◌*◌, ◌/◌, ◌%◌, ◌^◌, ◌≤◌, ◌<◌}
use mathlib.Core.Path.{◌≡◌, sym, ap, ◌∙◌}
use native.Mathlib.Nat.{add-mul, div-add-mod', le_of_mul-le-mul_right, le_trans, mod-lt, mul_assoc, mul_comm, mul-le-mul_right, mul_right_comm, pow-le-pow_right, pow-suc}
use native.Mathlib.Numerals.{add-one}
use native.Mathlib.Omega.{arith}
use Rattle.rounding.specs.Nearest.{rounded, nearest}
use Rattle.rounding.proofs.Nearest.{nearest_parts}

pub record Dividing (total whole quotient rest i : ℕ) : Type 0 where
  pub part : i ≤ 6
  pub digits : total * 10 ^ i ≡ quotient * whole + rest
  pub below : rest < whole
  pub small : quotient ≤ 1000000

small_quotient : (total whole quotient rest i : ℕ) → 1 ≤ whole → total ≤ whole → i ≤ 6 → total * 10 ^ i ≡ quotient * whole + rest → quotient ≤ 1000000
small_quotient total whole quotient rest i one l six e =
    let most : total * 10 ^ i ≤ whole * 10 ^ i = mul-le-mul_right (10 ^ i) l in
    let turned : whole * 10 ^ i ≡ 10 ^ i * whole = mul_comm whole (10 ^ i) in
    let scaled : quotient * whole ≤ 10 ^ i * whole = omega arith in
    le_trans (le_of_mul-le-mul_right scaled one) (pow-le-pow_right (let p : 0 < 10 = omega arith in p) six)

next_digit : (t w q r d m : ℕ) → t ≡ q * w + r → d * w + m ≡ r * 10 → t * 10 ≡ (q * 10 + d) * w + m
next_digit t w q r d m e f =
    let ten : t * 10 ≡ (q * w + r) * 10 = ap (λ k. k * 10) e in
    let split : (q * 10 + d) * w ≡ q * 10 * w + d * w = add-mul (q * 10) d w in
    let swap : q * 10 * w ≡ q * w * 10 = mul_right_comm q 10 w in
    omega arith

pub dividing_more : {total whole quotient rest i : ℕ} → Dividing total whole quotient rest i → i < 6 → 1 ≤ whole → total ≤ whole → Dividing total whole (quotient * 10 + rest * 10 / whole) (rest * 10 % whole) (i + 1)
dividing_more {total} {whole} {quotient} {rest} {i} h l one le =
    let power : total * 10 ^ (i + 1) ≡ total * 10 ^ i * 10 =
    ap (λ k. total * 10 ^ k) (add-one i) ∙ ap (λ k. total * k) (pow-suc 10 i) ∙ sym (mul_assoc total (10 ^ i) 10) in
    let digits : total * 10 ^ (i + 1) ≡ (quotient * 10 + rest * 10 / whole) * whole + rest * 10 % whole =
    power ∙ next_digit (total * 10 ^ i) whole quotient rest (rest * 10 / whole) (rest * 10 % whole) h.digits (div-add-mod' (rest * 10) whole) in
    record {
      part = omega arith;
      digits = digits;
      below = mod-lt (rest * 10) one;
      small = small_quotient total whole _ (rest * 10 % whole) (i + 1) one le (omega arith) digits;
    }

-- Behind the last digit the quotient and the rest tell the nearest number.
pub dividing_end : {total whole quotient rest i : ℕ} → Dividing total whole quotient rest i → 6 ≤ i → rounded quotient rest whole ≡ nearest (total * 1000000) whole
dividing_end {total} {whole} {quotient} {rest} {i} h l =
    let six : i ≡ 6 = let part : i ≤ 6 = h.part in omega arith in
    let digits : quotient * whole + rest ≡ total * 10 ^ 6 = sym h.digits ∙ ap (λ k. total * 10 ^ k) six in
    nearest_parts quotient rest whole h.below ∙ ap (λ n. nearest n whole) digits
