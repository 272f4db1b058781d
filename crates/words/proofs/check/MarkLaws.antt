-- Laws of the table of numbers met: marking a number sets its bit and keeps the bits that are set.
use Prim.Native.Nat.{ℕ, ◌*◌, ◌/◌, ◌%◌, ◌^◌, ◌≤◌, ◌<◌, max}
use mathlib.Core.Path.{◌≡◌, ap, ◌∙◌}
use mathlib.Core.List.{List}
use native.Mathlib.Nat.{one-mul, div_self, mod-lt, max-le, max-eq_left, max-eq_right}
use native.Mathlib.Decide.{ℕ_discrete}
use native.Mathlib.Omega.{arith}
use lib.Arith.{digits_mod}
use lib.Bits.{bit_or, or_step, or_shr}
use lib.Dec.{lit<}
use lib.ListN.{length, get_or, set}
use lib.Pow.{pow_pos, shl_exact}
use lib.Seq.{get_or-set_same, get_or-set_other}
use borrow.Author.Tests.{eqb-true, eq-eqb}
use Rattle.words.specs.Table.{marked, Marking}

bit_small : (a : ℕ) → a % 2 ≤ 1
bit_small a = let small : a % 2 < 2 = mod-lt a (lit< tt) in omega arith

larger_small : (a b : ℕ) → max (a % 2) (b % 2) < 2
larger_small a b = let le : max (a % 2) (b % 2) ≤ 1 = max-le (bit_small a) (bit_small b) in omega arith

-- A bit of a disjunction is the larger of the two bits.
or_with_bit : (a b s : ℕ) → bit_or a b / 2 ^ s % 2 ≡ max (a / 2 ^ s % 2) (b / 2 ^ s % 2)
or_with_bit a b s =
    ap (λ n. n % 2) (or_shr a b s ∙ or_step (a / 2 ^ s) (b / 2 ^ s))
    ∙ digits_mod (bit_or (a / 2 ^ s / 2) (b / 2 ^ s / 2)) (larger_small (a / 2 ^ s) (b / 2 ^ s))

bit_or_left : (a b s : ℕ) → a / 2 ^ s % 2 ≡ 1 → bit_or a b / 2 ^ s % 2 ≡ 1
bit_or_left a b s e = or_with_bit a b s ∙ rw e (max-eq_left (bit_small (b / 2 ^ s)))

bit_or_right : (a s : ℕ) → bit_or a (2 ^ s) / 2 ^ s % 2 ≡ 1
bit_or_right a s = or_with_bit a (2 ^ s) s ∙ rw (div_self (pow_pos s)) (max-eq_right (bit_small (a / 2 ^ s)))

-- The word that the code stores at the number's place: the old one with the number's bit.
abbrev pub with_bit : List ℕ → ℕ → ℕ
with_bit t n = bit_or (get_or t (n % 65536 / 64) 0) (1 * 2 ^ (n % 64) % 2 ^ 64)

pub marking : (t : List ℕ) (n : ℕ) → length t ≡ 1024 → Marking t (set t (n % 65536 / 64) (with_bit t n)) n
unfolding marked
marking t n l =
    record {
      set = eq-eqb _ _ new;
      stays = λ m e. eq-eqb _ _ (stays m (eqb-true _ _ e) (ℕ_discrete (m % 65536 / 64) (n % 65536 / 64)));
    }
  where
    inside : n % 65536 / 64 < length t
    inside = omega arith

    one : 1 * 2 ^ (n % 64) % 2 ^ 64 ≡ 2 ^ (n % 64)
    one = shl_exact 1 (n % 64) 64 (lit< tt) (omega arith) ∙ one-mul (2 ^ (n % 64))

    new : get_or (set t (n % 65536 / 64) (with_bit t n)) (n % 65536 / 64) 0 / 2 ^ (n % 64) % 2 ≡ 1
    new =
        rw (get_or-set_same t (n % 65536 / 64) (with_bit t n) 0 inside, one)
        (bit_or_right (get_or t (n % 65536 / 64) 0) (n % 64))

    stays : (m : ℕ) → get_or t (m % 65536 / 64) 0 / 2 ^ (m % 64) % 2 ≡ 1 → Dec (m % 65536 / 64 ≡ n % 65536 / 64)
        → get_or (set t (n % 65536 / 64) (with_bit t n)) (m % 65536 / 64) 0 / 2 ^ (m % 64) % 2 ≡ 1
    stays m e (yes same) =
        let kept : get_or t (n % 65536 / 64) 0 / 2 ^ (m % 64) % 2 ≡ 1 = rw same at e in
        rw (same, get_or-set_same t (n % 65536 / 64) (with_bit t n) 0 inside)
        (bit_or_left (get_or t (n % 65536 / 64) 0) (1 * 2 ^ (n % 64) % 2 ^ 64) (m % 64) kept)
    stays m e (no differ) = rw (get_or-set_other t (n % 65536 / 64) (m % 65536 / 64) (with_bit t n) 0 differ) e
