-- Laws of both and either.
use mathlib.Core.Path.{◌≡◌, refl}
use mathlib.Core.Bool.{Bool, true, false, not, true≢false}
use Rattle.slices.specs.Choices.{both, either}

pub both_comm : (s t : Bool) → both s t ≡ both t s
unfolding both
both_comm true true = refl
both_comm true false = refl
both_comm false true = refl
both_comm false false = refl

pub both_assoc : (s t u : Bool) → both (both s t) u ≡ both s (both t u)
unfolding both
both_assoc true t u = refl
both_assoc false t u = refl

pub both_true : (s t : Bool) → both s t ≡ true → (s ≡ true) × (t ≡ true)
unfolding both
both_true true t e = (refl, e)
both_true false t e = (e, absurd (let z : ⊥ = true≢false (cc) in z))

pub both_intro : (s t : Bool) → s ≡ true → t ≡ true → both s t ≡ true
unfolding both
both_intro s t p q = rw (p, q)

pub either_assoc : (s t u : Bool) → either (either s t) u ≡ either s (either t u)
unfolding either
either_assoc true t u = refl
either_assoc false t u = refl

-- Three tests, two of them in turn.
pub both_turn : (s t u : Bool) → both s (both t u) ≡ both t (both s u)
unfolding both
both_turn true t u = refl
both_turn false true u = refl
both_turn false false u = refl

pub either_turn : (s t u : Bool) → either s (either t u) ≡ either t (either s u)
unfolding either
either_turn true true u = refl
either_turn true false u = refl
either_turn false t u = refl

pub either_none : (s : Bool) → either s false ≡ s
unfolding either
either_none true = refl
either_none false = refl

pub either_false : (s t : Bool) → either s t ≡ false → (s ≡ false) × (t ≡ false)
unfolding either
either_false true t e = absurd (true≢false e)
either_false false t e = (refl, e)

pub neither : (s t : Bool) → s ≡ false → t ≡ false → either s t ≡ false
unfolding either
neither s t p q = rw (p, q)

pub not_both : (s t : Bool) → not (both s t) ≡ either (not s) (not t)
unfolding both either
not_both true t = refl
not_both false t = refl
