-- The loop that writes a column, from its last byte to its first: what holds at each turn.
use Prim.Native.Nat.{ℕ, zero, suc, ◌+◌, ◌-◌, ◌/◌, ◌%◌, ◌≤◌, ◌<◌}
use mathlib.Core.Path.{◌≡◌, refl, sym, ap, ◌∙◌}
use mathlib.Core.List.{List, ◌∷◌, ◌++◌, append_assoc, []}
use native.Mathlib.Nat.{div-eq_of_lt, mod-eq_of_lt}
use native.Mathlib.Decide.{dec_lt}
use native.Mathlib.Omega.{arith}
use lib.Dec.{eqb}
use lib.ListN.{length, take, set, get_or, replicate, length-append}
use lib.Seq.{take-length, take-take, take_at, get_or-take, get_or-append-add}
use borrow.Author.Tests.{ne_eqb}
use Rattle.slices.specs.Choices.{pick}
use Rattle.slices.specs.Put.{put}
use Rattle.slices.proofs.Put.{put_one, put_ahead}
use Rattle.slices.proofs.Loops.{Filled, filled_none, filled_more, filled_end}
use Rattle.text.specs.Fields.{space, digit}
use Rattle.text.specs.Justified.{digits, justified, ColumnRoom}
use Rattle.text.proofs.Justified.{digits_one, digits_more}

-- The bytes in front of the last digit, when m is what is left of the number: its digits behind spaces, and
-- spaces alone where nothing is left.
unfoldable pub ahead : ℕ → ℕ → List ℕ
ahead zero m = []
ahead (suc left) m = ahead left (m / 10) ++ (pick (eqb m 0) space (digit (m % 10)) ∷ [])

ahead_zero : (m : ℕ) → ahead 0 m ≡ []
unfolding ahead
ahead_zero m = refl

length_ahead : (left m : ℕ) → length (ahead left m) ≡ left
unfolding ahead
length_ahead zero m = refl
length_ahead (suc left) m =
    let before : length (ahead left (m / 10)) ≡ left = length_ahead left (m / 10) in
    rw length-append (omega arith)

ahead_none : (left : ℕ) → ahead left 0 ≡ replicate left space
unfolding ahead pick
ahead_none zero = refl
ahead_none (suc left) = rw (ahead_none left) (spaces_more left)
  where
    spaces_more : (k : ℕ) → replicate k space ++ (space ∷ []) ≡ space ∷ replicate k space
    spaces_more zero = refl
    spaces_more (suc k) = ap (λ rest. space ∷ rest) (spaces_more k)

justified_one : (left n : ℕ) → n < 10 → justified (suc left) n ≡ replicate left space ++ (digit n ∷ [])
unfolding justified
justified_one left n l =
    let spaces : suc left - 1 ≡ left = omega arith in
    rw (digits_one left n l, spaces)

justified_more : (left n : ℕ) → 10 ≤ n → justified (suc left) n ≡ justified left (n / 10) ++ (digit (n % 10) ∷ [])
unfolding justified
justified_more left n l =
    let longer : suc left - length (digits left (n / 10) ++ (digit (n % 10) ∷ [])) ≡ left - length (digits left (n / 10)) =
    omega (arith, length-append (digits left (n / 10)) (digit (n % 10) ∷ [])) in
    rw (digits_more left n l, longer, append_assoc)

ahead_more : (left m : ℕ) → 0 < m → ahead (suc left) m ≡ ahead left (m / 10) ++ (digit (m % 10) ∷ [])
unfolding ahead pick
ahead_more left m positive = rw (ne_eqb m 0 (λ e. omega arith))

justified_none : (n : ℕ) → justified 0 n ≡ []
unfolding justified digits
justified_none n = refl

justified_step : (left n : ℕ) → (0 < n / 10 → justified left (n / 10) ≡ ahead left (n / 10))
    → justified (suc left) n ≡ ahead left (n / 10) ++ (digit (n % 10) ∷ [])
justified_step left n front = go (dec_lt n 10)
  where
    go : Dec (n < 10) → justified (suc left) n ≡ ahead left (n / 10) ++ (digit (n % 10) ∷ [])
    go (yes l) = rw (div-eq_of_lt l, mod-eq_of_lt l, ahead_none left) (justified_one left n l)
    go (no l) =
        let large : 10 ≤ n = omega arith in
        justified_more left n large ∙ ap (λ bytes. bytes ++ (digit (n % 10) ∷ [])) (front (omega arith))

justified_ahead : (left n : ℕ) → justified (suc left) n ≡ ahead left (n / 10) ++ (digit (n % 10) ∷ [])
justified_ahead zero n = justified_step zero n (λ p. justified_none (n / 10) ∙ sym (ahead_zero (n / 10)))
justified_ahead (suc left) n = justified_step (suc left) n (λ p. justified_ahead left (n / 10) ∙ sym (ahead_more left (n / 10) p))

-- Writing a column, back to front: the bytes that are left in front show `rest`.
pub record Writing (at : ℕ) (out₀ : List ℕ) (left₀ rest₀ : ℕ) (out : List ℕ) (left rest : ℕ) : Type 0 where
  pub filled : Filled out₀ at (ahead left₀ rest₀) left out
  pub shows : take left (ahead left₀ rest₀) ≡ ahead left rest

pub writing_none : (at : ℕ) (out : List ℕ) (left rest : ℕ) → at + left ≤ length out → Writing at out left rest out left rest
writing_none at out left rest room =
    let long : length (ahead left rest) ≡ left = length_ahead left rest in
    record {
      filled = filled_none out at (ahead left rest) left (rw long room) (sym long);
      shows = ap (λ k. take k (ahead left rest)) (sym long) ∙ take-length (ahead left rest);
    }

pub writing_few : {at : ℕ} {out₀ : List ℕ} {left₀ rest₀ : ℕ} {out : List ℕ} {left rest : ℕ} → Writing at out₀ left₀ rest₀ out left rest → left ≤ left₀
writing_few {left₀ = left₀} {rest₀ = rest₀} w = omega (arith, length_ahead left₀ rest₀, w.filled.part)

-- The last of the bytes left, and those in front of it.
last_left : (new : List ℕ) (left rest : ℕ) → take (suc left) new ≡ ahead (suc left) rest
    → (get_or new left 0 ≡ pick (eqb rest 0) space (digit (rest % 10))) × (take left new ≡ ahead left (rest / 10))
unfolding ahead
last_left new left rest e =
    let byte : ℕ = pick (eqb rest 0) space (digit (rest % 10)) in
    let front : List ℕ = ahead left (rest / 10) in
    let long : length front ≡ left = length_ahead left (rest / 10) in
    let place : left ≡ length front + 0 = omega arith in (
      sym (get_or-take (suc left) new left 0 (omega arith))
          ∙ ap (λ l. get_or l left 0) e
          ∙ ap (λ i. get_or (front ++ (byte ∷ [])) i 0) place
          ∙ get_or-append-add front (byte ∷ []) 0 0,
      sym (take-take left (suc left) new (omega arith)) ∙ ap (take left) e ∙ take_at front (byte ∷ []) left long,
    )

pub writing_more : {at : ℕ} {out₀ : List ℕ} {left₀ rest₀ : ℕ} {out : List ℕ} {left rest b : ℕ}
    → Writing at out₀ left₀ rest₀ out left rest → 0 < left → b ≡ pick (eqb rest 0) space (digit (rest % 10))
    → Writing at out₀ left₀ rest₀ (set out (at + (left - 1)) b) (left - 1) (rest / 10)
writing_more {at} {out₀} {left₀} {rest₀} {out} {left} {rest} {b} w some_left byte =
    let one : suc (left - 1) ≡ left = omega arith in
    let next = last_left (ahead left₀ rest₀) (left - 1) rest (rw one w.shows) in
    record { filled = filled_more w.filled (left - 1) b one (byte ∙ sym next.0); shows = next.1 }

-- The column is written when no byte is left; its last digit was written first.
pub writing_end : (n : ℕ) {at width b : ℕ} {old out : List ℕ} {left rest : ℕ} → ColumnRoom old at width → b ≡ digit (n % 10)
    → Writing at (set old (at + (width - 1)) b) (width - 1) (n / 10) out left rest → left ≤ 0
    → out ≡ put old at (justified width n)
writing_end n {at} {width} {b} {old} {out} {left} {rest} c last w none_left =
    let front : List ℕ = ahead (width - 1) (n / 10) in
    let long : length front ≡ width - 1 = length_ahead (width - 1) (n / 10) in
    let within : at + width ≤ length old = c.within in
    let wide : 1 ≤ width = c.wide in
    let one : width ≡ suc (width - 1) = omega arith in
    let shown : justified width n ≡ front ++ (b ∷ []) = ap (λ k. justified k n) one ∙ (rw last (justified_ahead (width - 1) n)) in
    filled_end w.filled (omega arith)
    ∙ ap (λ o. put o at front) (put_one old (at + (width - 1)) b (omega arith) ∙ ap (λ k. put old (at + k) (b ∷ [])) (sym long))
    ∙ put_ahead old at (b ∷ []) front (omega arith)
    ∙ ap (put old at) (sym shown)
