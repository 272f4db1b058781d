-- Laws of the form of a field: what a byte in front makes of it, and what one behind its digits does.
use Prim.Native.Nat.{ℕ, zero, suc, ◌+◌, ◌-◌, ◌*◌, ◌≤◌}
use mathlib.Core.Path.{◌≡◌, refl, ◌∙◌}
use mathlib.Core.Bool.{Bool, true, false, ◌&&◌}
use mathlib.Core.List.{List, ◌∷◌, ◌++◌, []}
use mathlib.Core.Option.{none, some}
use native.Mathlib.Omega.{arith}
use lib.Dec.{leb, eqb}
use lib.ListN.{replicate}
use borrow.Author.Tests.{leb-true, le-leb, eqb-true, eqb-false, ne_eqb}
use Rattle.slices.specs.Choices.{pick}
use Rattle.text.specs.Fields.{space, is_digit, decimal, number, field}

pub digit_yes : (b : ℕ) → 48 ≤ b → b ≤ 57 → is_digit b ≡ true
unfolding is_digit
digit_yes b low high = rw (le-leb 48 b low, le-leb b 57 high)

-- What a digit is: the bounds, from the test.
pub digit_low : (b : ℕ) → is_digit b ≡ true → 48 ≤ b
unfolding is_digit
digit_low b e = go (leb 48 b) refl e
  where
    go : (t : Bool) → leb 48 b ≡ t → t && leb b 57 ≡ true → 48 ≤ b
    go true e₁ e₂ = leb-true 48 b e₁
    go false e₁ e₂ = absurd (let z : ◌≡◌ {A = ℕ} 0 1 = cc in omega arith)

pub digit_high : (b : ℕ) → is_digit b ≡ true → b ≤ 57
unfolding is_digit
digit_high b e = go (leb 48 b) e
  where
    go : (t : Bool) → t && leb b 57 ≡ true → b ≤ 57
    go true e₂ = leb-true b 57 e₂
    go false e₂ = absurd (let z : ◌≡◌ {A = ℕ} 0 1 = cc in omega arith)

-- What the first byte makes of a value: one digit more, or none.
pub decimal_digit : (v b : ℕ) (bytes : List ℕ) → is_digit b ≡ true → decimal v (b ∷ bytes) ≡ decimal (v * 10 + (b - 48)) bytes
unfolding decimal pick
decimal_digit v b bytes e = rw e

pub decimal_stop : (v b : ℕ) (bytes : List ℕ) → is_digit b ≡ false → decimal v (b ∷ bytes) ≡ none
unfolding decimal pick
decimal_stop v b bytes e = rw e

-- What a value says of the bytes.
pub decimal_end : (v n : ℕ) → decimal v [] ≡ some n → v ≡ n
unfolding decimal
decimal_end v n e = cc

pub decimal_begin : (v b : ℕ) (bytes : List ℕ) (n : ℕ) → decimal v (b ∷ bytes) ≡ some n → is_digit b ≡ true
decimal_begin v b bytes n e = go (is_digit b) refl
  where
    go : (t : Bool) → is_digit b ≡ t → is_digit b ≡ true
    go true d = d
    go false d = absurd (let z : ◌≡◌ {A = ℕ} 0 1 = cc (decimal_stop v b bytes d) in omega arith)

pub field_empty : field [] ≡ none
unfolding field
field_empty = refl

-- A space in front changes nothing; any other byte begins the number.
pub field_space : (bytes : List ℕ) → field (space ∷ bytes) ≡ field bytes
unfolding field pick
field_space bytes = refl

pub field_number : (b : ℕ) (bytes : List ℕ) → (b ≡ space → ⊥) → field (b ∷ bytes) ≡ number (b ∷ bytes)
unfolding field pick
field_number b bytes ne = rw (ne_eqb b 32 ne)

pub field_spaces : (k : ℕ) (bytes : List ℕ) → field (replicate k space ++ bytes) ≡ field bytes
field_spaces zero bytes = refl
field_spaces (suc k) bytes = field_space (replicate k space ++ bytes) ∙ field_spaces k bytes

-- One digit behind digits.
pub decimal_snoc : (v : ℕ) (bytes : List ℕ) (m b : ℕ) → decimal v bytes ≡ some m → is_digit b ≡ true
    → decimal v (bytes ++ (b ∷ [])) ≡ some (m * 10 + (b - 48))
unfolding decimal pick
decimal_snoc v [] m b e d =
    let same : v ≡ m = cc in
    rw (d, same)
decimal_snoc v (c ∷ bytes) m b e d = go (is_digit c) e (λ e'. decimal_snoc (v * 10 + (c - 48)) bytes m b e' d)
  where
    go : (t : Bool) → pick t (decimal (v * 10 + (c - 48)) bytes) none ≡ some m
        → (decimal (v * 10 + (c - 48)) bytes ≡ some m → decimal (v * 10 + (c - 48)) (bytes ++ (b ∷ [])) ≡ some (m * 10 + (b - 48)))
        → pick t (decimal (v * 10 + (c - 48)) (bytes ++ (b ∷ []))) none ≡ some (m * 10 + (b - 48))
    go true e₁ next = next e₁
    go false e₁ next = absurd (let z : ◌≡◌ {A = ℕ} 0 1 = cc in omega arith)

-- A number is a field with no space in front.
number_space : (bytes : List ℕ) → number (space ∷ bytes) ≡ none
unfolding number decimal pick is_digit
number_space [] = refl
number_space (b ∷ bytes) = refl

number_empty : number [] ≡ none
unfolding number
number_empty = refl

pub field_of_number : (bytes : List ℕ) (n : ℕ) → number bytes ≡ some n → field bytes ≡ some n
field_of_number [] n e = absurd (let z : ◌≡◌ {A = ℕ} 0 1 = cc number_empty in omega arith)
field_of_number (b ∷ bytes) n e = go (eqb b space) refl
  where
    go : (t : Bool) → eqb b space ≡ t → field (b ∷ bytes) ≡ some n
    go true e₁ =
        let here : b ≡ space = eqb-true b space e₁ in
        let gone : number (b ∷ bytes) ≡ none = rw here (number_space bytes) in
        absurd (let z : ◌≡◌ {A = ℕ} 0 1 = cc in omega arith)
    go false e₁ = field_number b bytes (eqb-false b space e₁) ∙ e
