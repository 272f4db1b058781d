-- Laws of columns: their width, that a column reads back as a field with the number's value, and that every
-- field of the form is the column of its value.
use Prim.Native.Nat.{ℕ, zero, suc, ◌+◌, ◌-◌, ◌*◌, ◌/◌, ◌%◌, ◌^◌, ◌≤◌, ◌<◌}
use mathlib.Core.Path.{◌≡◌, refl, sym, ap, ◌∙◌}
use mathlib.Core.Bool.{Bool, true, false}
use mathlib.Core.List.{List, ◌∷◌, ◌++◌, append-nil, []}
use mathlib.Core.Option.{none, some}
use native.Mathlib.Nat.{pow-suc, div-lt_iff_lt-mul, sub_self}
use native.Mathlib.Decide.{dec_lt}
use native.Mathlib.Omega.{arith}
use lib.Arith.{digits_lt, digits_div, digits_mod}
use lib.Dec.{eqb, lit<}
use lib.ListN.{length, length-append, length-replicate}
use lib.Seq.{append_snoc}
use borrow.Author.Tests.{lt-ltb, le-ltb, eqb-true, eqb-false, ne_eqb}
use Rattle.slices.specs.Choices.{pick}
use Rattle.text.specs.Fields.{space, digit, is_digit, decimal, number, field}
use Rattle.text.specs.Justified.{digits, justified}
use Rattle.text.proofs.Fields.{digit_yes, digit_low, digit_high, decimal_digit, decimal_begin, decimal_end, decimal_snoc, field_empty, field_space, field_spaces, field_number, field_of_number}

-- The digits of a number of one digit, and of a larger one.
pub digits_one : (k n : ℕ) → n < 10 → digits (suc k) n ≡ digit n ∷ []
unfolding digits pick
digits_one k n l = rw (lt-ltb n 10 l)

pub digits_more : (k n : ℕ) → 10 ≤ n → digits (suc k) n ≡ digits k (n / 10) ++ (digit (n % 10) ∷ [])
unfolding digits pick
digits_more k n l = rw (le-ltb n 10 l)

-- A number that fits one more digit fits without its last one.
fits_tenth : (k n : ℕ) → n < 10 ^ suc k → n / 10 < 10 ^ k
fits_tenth k n l = (div-lt_iff_lt-mul {k = 10} {x = n} {y = 10 ^ k} (lit< tt)).1 (rw pow-suc at l)

pub length_digits : (k n : ℕ) → length (digits k n) ≤ k
unfolding digits
length_digits zero n = omega arith
length_digits (suc k) n = go (dec_lt n 10) (length_digits k (n / 10))
  where
    go : Dec (n < 10) → length (digits k (n / 10)) ≤ k → length (digits (suc k) n) ≤ suc k
    go (yes l) shorter = rw (digits_one k n l) (omega arith)
    go (no l) shorter =
        let large : 10 ≤ n = omega arith in
        rw (digits_more k n large, length-append) (omega arith)

pub length_justified : (width n : ℕ) → length (justified width n) ≡ width
unfolding justified
length_justified width n =
    let short : length (digits width n) ≤ width = length_digits width n in
    rw (length-append, length-replicate) (omega arith)

-- Reading back.
decimal_one : (n : ℕ) → n < 10 → decimal 0 (digit n ∷ []) ≡ some n
unfolding decimal pick
decimal_one n l =
    let same : 0 * 10 + (48 + n - 48) ≡ n = omega arith in
    rw (digit_yes (digit n) (omega arith) (omega arith), same)

pub decimal_digits : (k n : ℕ) → 1 ≤ k → n < 10 ^ k → decimal 0 (digits k n) ≡ some n
decimal_digits zero n wide fits = absurd (let z : ⊥ = omega arith in z)
decimal_digits (suc k) n wide fits = go k (dec_lt n 10) fits (decimal_digits k (n / 10))
  where
    go : (k : ℕ) → Dec (n < 10) → n < 10 ^ suc k → (1 ≤ k → n / 10 < 10 ^ k → decimal 0 (digits k (n / 10)) ≡ some (n / 10))
        → decimal 0 (digits (suc k) n) ≡ some n
    go k (yes l) fits before = rw (digits_one k n l) (decimal_one n l)
    go zero (no l) fits before = absurd (l fits)
    go (suc k) (no l) fits before =
        let large : 10 ≤ n = omega arith in
        let low : 48 ≤ digit (n % 10) = omega arith in
        let high : digit (n % 10) ≤ 57 = omega arith in
        let whole : n / 10 * 10 + (digit (n % 10) - 48) ≡ n = omega arith in
        rw (digits_more (suc k) n large)
        (decimal_snoc 0 (digits (suc k) (n / 10)) (n / 10) (digit (n % 10)) (before (omega arith) (fits_tenth (suc k) n fits))
        (digit_yes (digit (n % 10)) low high)
        ∙ ap some whole)

-- The first digit of a number other than 0 is not 0.
abbrev LeadingDigit : List ℕ → Type 0
LeadingDigit [] = ⊥
LeadingDigit (b ∷ bytes) = (49 ≤ b) × (b ≤ 57)

leads_append : (a b : List ℕ) → LeadingDigit a → LeadingDigit (a ++ b)
leads_append [] b l = absurd l
leads_append (c ∷ a) b l = l

leads_digits : (k n : ℕ) → 0 < n → n < 10 ^ k → LeadingDigit (digits k n)
leads_digits zero n positive fits = absurd (let z : ⊥ = omega arith in z)
leads_digits (suc k) n positive fits = go (dec_lt n 10) (λ p. leads_digits k (n / 10) p (fits_tenth k n fits))
  where
    go : Dec (n < 10) → (0 < n / 10 → LeadingDigit (digits k (n / 10))) → LeadingDigit (digits (suc k) n)
    go (yes l) before = rw (digits_one k n l) (omega arith)
    go (no l) before =
        let large : 10 ≤ n = omega arith in
        rw (digits_more k n large) (leads_append (digits k (n / 10)) (digit (n % 10) ∷ []) (before (omega arith)))

number_leads : (bytes : List ℕ) → LeadingDigit bytes → number bytes ≡ decimal 0 bytes
unfolding number pick
number_leads [] l = absurd l
number_leads (b ∷ []) l = refl
number_leads (b ∷ c ∷ bytes) l = rw (ne_eqb b 48 (λ e. omega arith))

zero_number : number (digit 0 ∷ []) ≡ some 0
unfolding number
zero_number = decimal_one 0 (lit< tt)

pub number_digits : (k n : ℕ) → 1 ≤ k → n < 10 ^ k → number (digits k n) ≡ some n
number_digits zero n wide fits = absurd (let z : ⊥ = omega arith in z)
number_digits (suc k) zero wide fits = rw (digits_one k 0 (lit< tt)) zero_number
number_digits (suc k) (suc n) wide fits =
    number_leads (digits (suc k) (suc n)) (leads_digits (suc k) (suc n) (omega arith) fits)
    ∙ decimal_digits (suc k) (suc n) wide fits

-- A column reads back as a field with the number's value.
pub field_justified : (width n : ℕ) → 1 ≤ width → n < 10 ^ width → field (justified width n) ≡ some n
unfolding justified
field_justified width n wide fits =
    field_spaces (width - length (digits width n)) (digits width n)
    ∙ field_of_number (digits width n) n (number_digits width n wide fits)

-- So the columns of different numbers differ.
pub justified_injective : (width m n : ℕ) → 1 ≤ width → m < 10 ^ width → n < 10 ^ width → justified width m ≡ justified width n → m ≡ n
justified_injective width m n wide fits-m fits-n e =
    cc (field_justified width m wide fits-m, field_justified width n wide fits-n)

-- One digit more.
digits_snoc : (k v d : ℕ) → 1 ≤ v → d < 10 → digits (suc k) (v * 10 + d) ≡ digits k v ++ (digit d ∷ [])
digits_snoc k v d positive small =
    rw (digits_more k (v * 10 + d) (omega arith), digits_div v small, digits_mod v small)

-- The other way: bytes that spell n with no leading zero.
record Spelt (bytes : List ℕ) (n : ℕ) : Type 0 where
  spelt : bytes ≡ digits (length bytes) n
  fits : n < 10 ^ length bytes

spelt_one : (b : ℕ) → is_digit b ≡ true → Spelt (b ∷ []) (b - 48)
spelt_one b d =
    let low : 48 ≤ b = digit_low b d in
    let high : b ≤ 57 = digit_high b d in
    let one : digits 1 (b - 48) ≡ digit (b - 48) ∷ [] = digits_one 0 (b - 48) (omega arith) in
    let same : digit (b - 48) ≡ b = omega arith in
    record { spelt = sym (one ∙ ap (λ c. c ∷ []) same); fits = omega arith }

spelt_more : (p : List ℕ) (v b : ℕ) → 1 ≤ v → Spelt p v → is_digit b ≡ true → Spelt (p ++ (b ∷ [])) (v * 10 + (b - 48))
spelt_more p v b positive s d =
    let low : 48 ≤ b = digit_low b d in
    let high : b ≤ 57 = digit_high b d in
    let small : b - 48 < 10 = omega arith in
    let longer : length (p ++ (b ∷ [])) ≡ suc (length p) = length-append p (b ∷ []) ∙ omega arith in
    let same : digit (b - 48) ≡ b = omega arith in
    record {
      spelt = rw (longer, digits_snoc (length p) v (b - 48) positive small, same) (ap (λ q. q ++ (b ∷ [])) s.spelt);
      fits = rw (longer, pow-suc) (digits_lt s.fits small);
    }

spelt_decimal : (p bytes : List ℕ) (v n : ℕ) → 1 ≤ v → Spelt p v → decimal v bytes ≡ some n → Spelt (p ++ bytes) n
spelt_decimal p [] v n positive s e =
    let same : v ≡ n = decimal_end v n e in
    rw (append-nil, ← same) s
spelt_decimal p (b ∷ bytes) v n positive s e =
    let d : is_digit b ≡ true = decimal_begin v b bytes n e in
    let low : 48 ≤ b = digit_low b d in
    rw (← (append_snoc p b bytes))
    (spelt_decimal (p ++ (b ∷ [])) bytes (v * 10 + (b - 48)) n (omega arith) (spelt_more p v b positive s d)
    (sym (decimal_digit v b bytes d) ∙ e))

spelt_number : (bytes : List ℕ) (n : ℕ) → number bytes ≡ some n → Spelt bytes n
unfolding number pick
spelt_number [] n e = absurd (let z : ◌≡◌ {A = ℕ} 0 1 = cc in omega arith)
spelt_number (b ∷ []) n e =
    let d : is_digit b ≡ true = decimal_begin 0 b [] n e in
    let value : 0 * 10 + (b - 48) ≡ n = decimal_end (0 * 10 + (b - 48)) n (sym (decimal_digit 0 b [] d) ∙ e) in
    let same : b - 48 ≡ n = omega arith in
    rw (← same) (spelt_one b d)
spelt_number (b ∷ c ∷ bytes) n e = go (eqb b 48) refl e
  where
    go : (t : Bool) → eqb b 48 ≡ t → pick t none (decimal 0 (b ∷ c ∷ bytes)) ≡ some n → Spelt (b ∷ c ∷ bytes) n
    go true e₁ e₂ = absurd (let z : ◌≡◌ {A = ℕ} 0 1 = cc in omega arith)
    go false e₁ e₂ =
        let d : is_digit b ≡ true = decimal_begin 0 b (c ∷ bytes) n e₂ in
        let low : 48 ≤ b = digit_low b d in
        let not_zero : b ≡ 48 → ⊥ = eqb-false b 48 e₁ in
        let value : 0 * 10 + (b - 48) ≡ b - 48 = omega arith in
        let rest : decimal (b - 48) (c ∷ bytes) ≡ some n = rw value at (sym (decimal_digit 0 b (c ∷ bytes) d) ∙ e₂) in
        spelt_decimal (b ∷ []) (c ∷ bytes) (b - 48) n (omega arith) (spelt_one b d) rest

-- One byte more in front of a number that fits already is a space.
digits_steady : (k n : ℕ) → 1 ≤ k → n < 10 ^ k → digits (suc k) n ≡ digits k n
digits_steady zero n wide fits = absurd (let z : ⊥ = omega arith in z)
digits_steady (suc k) n wide fits = go k (dec_lt n 10) fits (digits_steady k (n / 10))
  where
    go : (k : ℕ) → Dec (n < 10) → n < 10 ^ suc k → (1 ≤ k → n / 10 < 10 ^ k → digits (suc k) (n / 10) ≡ digits k (n / 10))
        → digits (suc (suc k)) n ≡ digits (suc k) n
    go k (yes l) fits before = digits_one (suc k) n l ∙ sym (digits_one k n l)
    go zero (no l) fits before = absurd (l fits)
    go (suc k) (no l) fits before =
        let large : 10 ≤ n = omega arith in
        digits_more (suc (suc k)) n large
        ∙ ap (λ ds. ds ++ (digit (n % 10) ∷ [])) (before (omega arith) (fits_tenth (suc k) n fits))
        ∙ sym (digits_more (suc k) n large)

pub justified_wider : (width n : ℕ) → 1 ≤ width → n < 10 ^ width → justified (suc width) n ≡ space ∷ justified width n
unfolding justified
justified_wider width n wide fits =
    let short : length (digits width n) ≤ width = length_digits width n in
    let more : suc width - length (digits width n) ≡ suc (width - length (digits width n)) = omega arith in
    rw (digits_steady width n wide fits, more)

-- A field of the form is the column of its value, and its value fits.
pub record Shown (bytes : List ℕ) (n : ℕ) : Type 0 where
  pub column : bytes ≡ justified (length bytes) n
  pub fits : n < 10 ^ length bytes

shown_number : (bytes : List ℕ) (n : ℕ) → Spelt bytes n → Shown bytes n
unfolding justified
shown_number bytes n s =
    record { column = rw (← s.spelt, sub_self); fits = s.fits }

shown_space : (bytes : List ℕ) (n : ℕ) → 1 ≤ length bytes → Shown bytes n → Shown (space ∷ bytes) n
shown_space bytes n some_bytes s =
    let more : 10 ^ length bytes * 10 ≡ 10 ^ suc (length bytes) = sym (pow-suc 10 (length bytes)) in
    let less : n < 10 ^ length bytes = s.fits in
    record {
      column = rw (justified_wider (length bytes) n some_bytes less) (ap (λ rest. space ∷ rest) s.column);
      fits = omega arith;
    }

field_some : (bytes : List ℕ) (n : ℕ) → field bytes ≡ some n → 1 ≤ length bytes
field_some [] n e = absurd (let z : ◌≡◌ {A = ℕ} 0 1 = cc field_empty in omega arith)
field_some (b ∷ bytes) n e = omega arith

pub justified_field : (bytes : List ℕ) (n : ℕ) → field bytes ≡ some n → Shown bytes n
justified_field [] n e = absurd (let z : ◌≡◌ {A = ℕ} 0 1 = cc field_empty in omega arith)
justified_field (b ∷ bytes) n e = go (eqb b space) refl (justified_field bytes n)
  where
    go : (t : Bool) → eqb b space ≡ t → (field bytes ≡ some n → Shown bytes n) → Shown (b ∷ bytes) n
    go true e₁ before =
        let here : b ≡ space = eqb-true b space e₁ in
        let rest : field bytes ≡ some n = sym (field_space bytes) ∙ (rw here at e) in
        rw here (shown_space bytes n (field_some bytes n rest) (before rest))
    go false e₁ before = shown_number (b ∷ bytes) n (spelt_number (b ∷ bytes) n (sym (field_number b bytes (eqb-false b space e₁)) ∙ e))
