-- A double read as a whole number: what lies outside -1 to 2 ^ 64 is none, and what is read is what the double is.
use Rattle.std.proofs.Common.{◌≡◌, ℕ, ◌+◌, ◌-◌, ◌*◌, ◌/◌, ◌^◌, ◌<◌, ◌≤◌, min, Bool, true, false, not, ◌&&◌, ◌||◌, T, eqb, ltb, leb, pos, sym, refl, ap, ◌∙◌, subst, true≢false, le_trans, le_of_eq, lt_of_lt_of_le, lt_irrefl, add_comm, mul-pos, one-mul, le-div_iff_mul-le, zero-mul, mul-one, mul_right_comm, mul-div_cancel, le-add_left, arith, lit<, lit≤, eqb→eq, nltb→le, eq-eqb, eqb-true, le-leb, leb-true}
use native.Mathlib.Nat.{eq_of_mul-eq-mul_right}
use lib.Dec.{not_T}
use lib.Ieee.{Float, nan, inf, fin, binary64, up, down, lt, eq, to_unsigned, of_int, round, level}
use lib.Ieee.Bits.{is_false}
use lib.Ieee.Fits.{down_pos}
use lib.Ieee.Exact.{HasValue}
use lib.Ieee.Back.{round_whole}
use borrow.Author.Tests.{lt-leb}
use Rattle.slices.specs.Choices.{both, pick}
use Rattle.slices.proofs.Choices.{both_comm, both_true}
use Rattle.doubles.specs.Doubles.{Whole, number_of, double, IsNumber, plain, minus_zero, ReadsNumbers}

double_zero : double 0 ≡ fin false 0 (pos 0)
unfolding double of_int round
double_zero = refl

-- ---- how the tests end

pub read_yes : (x : Float) → to_unsigned 64 x ≤ 1048576 → eq (double (to_unsigned 64 x)) x ≡ true → to_unsigned 64 x ≡ number_of x
unfolding number_of both pick
read_yes x h k = rw (le-leb (to_unsigned 64 x) 1048576 h, k)

pub read_other : (x : Float) → eq (double (to_unsigned 64 x)) x ≡ false → 1048577 ≡ number_of x
unfolding number_of both pick
read_other x k = rw (k, both_comm (leb (to_unsigned 64 x) 1048576) false)

pub read_large : (x : Float) → 1048576 < to_unsigned 64 x → 1048577 ≡ number_of x
unfolding number_of both pick
read_large x h = rw (lt-leb (to_unsigned 64 x) 1048576 h)

-- ---- what is not below 2 ^ 64

far : (q : ℕ) → 2 ^ 64 ≤ q → 1048576 < min q (2 ^ 64 - 1)
far q h = omega arith

not_below : (m n : ℕ) → ltb m n ≡ false → n ≤ m
not_below m n e = nltb→le m n (subst (λ (b : Bool). T (not b)) (sym e) tt)

no_sum : (a b k d : ℕ) → b ≡ k * d → 0 < k → 0 < d → a + b ≤ 0 → ⊥
no_sum a b k d e h g l = lt_irrefl 0 (lt_of_lt_of_le (mul-pos h g) (le_trans (le_of_eq (sym e)) (le_trans (le-add_left b a) l)))

large_up : (x : Float) → lt x (fin false 1 (pos 64)) ≡ false → lt (fin true 1 (pos 0)) x ≡ true → 1048576 < to_unsigned 64 x
unfolding lt to_unsigned
large_up nan h k = absurd (true≢false (sym k))
large_up (inf true) h k = absurd (true≢false h)
large_up (inf false) h k = lit< tt
large_up (fin true m e) h k =
    absurd (no_sum (m * up e * 1) (1 * 2 ^ 64 * down e) (1 * 2 ^ 64) (down e) refl (lit< tt) (down_pos e) (not_below 0 (m * up e * 1 + 1 * 2 ^ 64 * down e) h))
large_up (fin false m e) h k =
    far (m * up e / down e)
    ((le-div_iff_mul-le (down_pos e)).1
    (le_trans (le_of_eq (ap (λ (x : ℕ). x * down e) (sym (one-mul (2 ^ 64)))))
    (le_trans (not_below (m * up e * 1) (1 * 2 ^ 64 * down e) h) (le_of_eq (mul-one (m * up e))))))

pub read_above : (x : Float) → lt x (fin false 1 (pos 64)) ≡ false → lt (fin true 1 (pos 0)) x ≡ true → 1048577 ≡ number_of x
read_above x h k = read_large x (large_up x h k)

-- ---- what is not above -1

unequal : (a b : ℕ) → a ≡ 0 → 0 < b → level false a true b ≡ false
unequal a b e h = ap (λ (t : Bool). t && (false || eqb a 0)) (is_false (eqb a b) (not_T (eqb a b) (λ t. lt_irrefl 0 (subst (λ (n : ℕ). 0 < n) (sym (eqb→eq a b t) ∙ e) h))))

differs : (x : Float) → lt (fin true 1 (pos 0)) x ≡ false → eq (double (to_unsigned 64 x)) x ≡ false
unfolding lt to_unsigned eq
differs nan h = ap (λ (y : Float). eq y nan) double_zero
differs (inf true) h = ap (λ (y : Float). eq y (inf true)) double_zero
differs (inf false) h = absurd (true≢false h)
differs (fin false m e) h =
    absurd
    (no_sum (m * up e * 1) (1 * 1 * down e) (1 * 1) (down e) refl (lit< tt) (down_pos e)
    (le_trans (le_of_eq (add_comm (m * up e * 1) (1 * 1 * down e))) (not_below 0 (1 * 1 * down e + m * up e * 1) h)))
differs (fin true m e) h =
    ap (λ (y : Float). eq y (fin true m e)) double_zero
    ∙ unequal (0 * down e) (m * up e * 1) (zero-mul (down e))
    (lt_of_lt_of_le (down_pos e) (le_trans (le_of_eq (sym (ap (λ (x : ℕ). x * down e) (one-mul 1) ∙ one-mul (down e)))) (not_below (m * up e * 1) (1 * 1 * down e) h)))

pub read_below : (x : Float) → lt (fin true 1 (pos 0)) x ≡ false → 1048577 ≡ number_of x
read_below x h = read_other x (differs x h)

-- ---- what is read is what the double is

pub double_whole : (n : ℕ) → n ≤ 2 ^ 53 → Whole (double n) n
unfolding double of_int
double_whole n h = round_whole binary64 false n h

-- the two ways in which the reading ends
data Read (x : Float) : ℕ → Type 0 where
  found : to_unsigned 64 x ≤ 1048576 → eq (double (to_unsigned 64 x)) x ≡ true → Read x (to_unsigned 64 x)
  none : Read x 1048577

read : (x : Float) → Read x (number_of x)
unfolding number_of pick
read x = go (both (leb (to_unsigned 64 x) 1048576) (eq (double (to_unsigned 64 x)) x)) refl
  where
    go : (b : Bool) → both (leb (to_unsigned 64 x) 1048576) (eq (double (to_unsigned 64 x)) x) ≡ b → Read x (pick b (to_unsigned 64 x) 1048577)
    go true e =
        let t = both_true (leb (to_unsigned 64 x) 1048576) (eq (double (to_unsigned 64 x)) x) e in
        found (leb-true (to_unsigned 64 x) 1048576 t.0) t.1
    go false e = none

limit : (x : Float) → number_of x ≤ 1048577
limit x = go (read x)
  where
    go : {n : ℕ} → Read x n → n ≤ 1048577
    go (found h k) = omega (arith, h)
    go none = omega arith

-- two sizes, a of the double n and b of another: equal just where b is n too
sizes : (a b n d c : ℕ) → a * 1 ≡ n * d → a * c ≡ b * d → 0 < d → b * 1 ≡ n * c
sizes a b n d c e f p =
    mul-one b
    ∙ eq_of_mul-eq-mul_right d p b (n * c) (sym f ∙ ap (λ (z : ℕ). z * c) (sym (mul-one a) ∙ e) ∙ mul_right_comm n d c)

sizes_back : (a b n d c : ℕ) → a * 1 ≡ n * d → b * 1 ≡ n * c → a * c ≡ b * d
sizes_back a b n d c e f =
    ap (λ (z : ℕ). z * c) (sym (mul-one a) ∙ e) ∙ mul_right_comm n d c ∙ ap (λ (z : ℕ). z * d) (sym (sym (mul-one b) ∙ f))

no_size : (n d : ℕ) → 0 < d → n * d ≡ 0 → n ≡ 0
no_size n d p e = eq_of_mul-eq-mul_right d p n 0 (e ∙ sym (zero-mul d))

and_both : (s t : Bool) → (s && t) ≡ true → (s ≡ true) × (t ≡ true)
and_both true t e = (refl, e)
and_both false t e = absurd (true≢false (sym e))

value_of : (x y : Float) (n : ℕ) → Whole y n → eq y x ≡ true → IsNumber x n
unfolding eq
value_of x nan n v e = absurd v
value_of x (inf s) n v e = absurd v
value_of nan (fin s m d) n v e = absurd (true≢false (sym e))
value_of (inf t) (fin s m d) n v e = absurd (true≢false (sym e))
value_of (fin false k c) (fin true m d) n v e = absurd (true≢false v.0)
value_of (fin true k c) (fin true m d) n v e = absurd (true≢false v.0)
value_of (fin false k c) (fin false m d) n v e =
    let t = and_both (eqb (m * up d * down c) (k * up c * down d)) (true || eqb (m * up d * down c) 0) e in
    plain (refl, sizes (m * up d) (k * up c) n (down d) (down c) v.1 (eqb-true (m * up d * down c) (k * up c * down d) t.0) (down_pos d))
value_of (fin true k c) (fin false m d) n v e =
    let t = and_both (eqb (m * up d * down c) (k * up c * down d)) (false || eqb (m * up d * down c) 0) e in
    let nothing : m * up d * down c ≡ 0 = eqb-true (m * up d * down c) 0 t.1 in
    let other : k * up c ≡ 0 = no_size (k * up c) (down d) (down_pos d) (sym (eqb-true (m * up d * down c) (k * up c * down d) t.0) ∙ nothing) in
    minus_zero (refl, mul-one (k * up c) ∙ other ∙ sym (zero-mul (down c)))
    (no_size n (down d) (down_pos d) (sym v.1 ∙ mul-one (m * up d) ∙ no_size (m * up d) (down c) (down_pos c) nothing))

value : (x : Float) → number_of x ≤ 1048576 → IsNumber x (number_of x)
value x = go (read x)
  where
    go : {n : ℕ} → Read x n → n ≤ 1048576 → IsNumber x n
    go (found h k) l = value_of x (double (to_unsigned 64 x)) (to_unsigned 64 x) (double_whole (to_unsigned 64 x) (le_trans h (lit≤ tt))) k
    go none l = absurd (let no' : ⊥ = omega arith in no')

-- ---- and every number up to the limit is read

and_intro : (s t : Bool) → s ≡ true → t ≡ true → (s && t) ≡ true
and_intro s t p q = rw (p, q)

equal_plain : (x y : Float) (n : ℕ) → Whole y n → Whole x n → eq y x ≡ true
unfolding eq
equal_plain x nan n v w = absurd v
equal_plain x (inf s) n v w = absurd v
equal_plain nan (fin s m d) n v w = absurd w
equal_plain (inf t) (fin s m d) n v w = absurd w
equal_plain (fin true k c) (fin s m d) n v w = absurd (true≢false w.0)
equal_plain (fin false k c) (fin true m d) n v w = absurd (true≢false v.0)
equal_plain (fin false k c) (fin false m d) n v w =
    and_intro (eqb (m * up d * down c) (k * up c * down d)) (true || eqb (m * up d * down c) 0)
    (eq-eqb (m * up d * down c) (k * up c * down d) (sizes_back (m * up d) (k * up c) n (down d) (down c) v.1 w.1))
    refl

equal_minus : (x : Float) → HasValue x true 0 1 → eq (fin false 0 (pos 0)) x ≡ true
unfolding eq
equal_minus nan w = absurd w
equal_minus (inf t) w = absurd w
equal_minus (fin false k c) w = absurd (true≢false (sym w.0))
equal_minus (fin true k c) w =
    let left : 0 * up (pos 0) * down c ≡ 0 = ap (λ (z : ℕ). z * down c) (zero-mul (up (pos 0))) ∙ zero-mul (down c) in
    let right : k * up c * down (pos 0) ≡ 0 = w.1 ∙ zero-mul (down c) in
    and_intro (eqb (0 * up (pos 0) * down c) (k * up c * down (pos 0))) (false || eqb (0 * up (pos 0) * down c) 0)
    (eq-eqb (0 * up (pos 0) * down c) (k * up c * down (pos 0)) (left ∙ sym right))
    (eq-eqb (0 * up (pos 0) * down c) 0 left)

quotient : (a n d : ℕ) → 0 < d → n ≤ 1048576 → a * 1 ≡ n * d → min (a / d) (2 ^ 64 - 1) ≡ n
quotient a n d p l e =
    let q : a / d ≡ n = ap (λ (z : ℕ). z / d) (sym (mul-one a) ∙ e) ∙ mul-div_cancel n p in
    omega (arith, q, l)

whole_part : (x : Float) (n : ℕ) → n ≤ 1048576 → Whole x n → to_unsigned 64 x ≡ n
unfolding to_unsigned
whole_part nan n l v = absurd v
whole_part (inf t) n l v = absurd v
whole_part (fin true m e) n l v = absurd (true≢false v.0)
whole_part (fin false m e) n l v = quotient (m * up e) n (down e) (down_pos e) l v.1

minus_part : (x : Float) → HasValue x true 0 1 → to_unsigned 64 x ≡ 0
unfolding to_unsigned
minus_part nan v = absurd v
minus_part (inf t) v = absurd v
minus_part (fin false m e) v = absurd (true≢false (sym v.0))
minus_part (fin true m e) v = refl

as_read : (x : Float) (n : ℕ) → n ≤ 1048576 → to_unsigned 64 x ≡ n → eq (double n) x ≡ true → number_of x ≡ n
as_read x n l u e =
    sym (read_yes x (subst (λ (k : ℕ). k ≤ 1048576) (sym u) l) (subst (λ (k : ℕ). eq (double k) x ≡ true) (sym u) e)) ∙ u

all : (x : Float) (n : ℕ) → n ≤ 1048576 → IsNumber x n → number_of x ≡ n
all x n l (plain v) = as_read x n l (whole_part x n l v) (equal_plain x (double n) n (double_whole n (le_trans l (lit≤ tt))) v)
all x n l (minus_zero v e) =
    as_read x n l (minus_part x v ∙ sym e) (subst (λ (k : ℕ). eq (double k) x ≡ true) (sym e) (ap (λ (y : Float). eq y x) double_zero ∙ equal_minus x v))

pub reads : ReadsNumbers
reads = record { limit = limit; value = value; all = all }
