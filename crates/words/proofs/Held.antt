-- Laws of held: one list behind the other, one trial more at the end, and by index.
use Prim.Native.Nat.{ℕ, zero, suc, ◌<◌}
use mathlib.Core.Path.{◌≡◌, refl, sym, ap, ◌∙◌}
use mathlib.Core.Bool.{Bool, true, false}
use mathlib.Core.List.{List, ◌∷◌, ◌++◌, []}
use native.Mathlib.Omega.{arith}
use lib.Dec.{eqb}
use lib.ListN.{length, get_or}
use borrow.Author.Tests.{eq-eqb, ne_eqb}
use Rattle.slices.specs.Choices.{either}
use Rattle.hypervolume.proofs.Tests.{Equated, same, differs, equated}
use Rattle.slices.proofs.Choices.{either_assoc, either_none}
use Rattle.words.specs.Archive.{Trial, Row, trials}
use Rattle.words.specs.Format.{held}

pub eqb_sym : (a b : ℕ) → eqb a b ≡ eqb b a
eqb_sym a b = go (eqb b a) (equated b a)
  where
    go : (t : Bool) → Equated b a t → eqb a b ≡ t
    go true (same e) = eq-eqb a b (sym e)
    go false (differs e) = ne_eqb a b (λ f. e (sym f))

pub held_append : (n : ℕ) (a b : List Trial) → held n (a ++ b) ≡ either (held n a) (held n b)
unfolding held either
held_append n [] b = refl
held_append n (t ∷ a) b = rw (held_append n a b) (sym (either_assoc (eqb t.number n) (held n a) (held n b)))

-- One trial more at the end.
pub held_snoc : (n : ℕ) (a : List Trial) (t : Trial) → held n (a ++ (t ∷ [])) ≡ either (held n a) (eqb t.number n)
unfolding held
held_snoc n a t = held_append n a (t ∷ []) ∙ ap (either (held n a)) (either_none (eqb t.number n))

-- Held and not held, by index.
pub held_at : (rows : List Row) (i : ℕ) (d : Row) → i < length rows → held (get_or rows i d).trial.number (trials rows) ≡ true
unfolding held trials either
held_at [] i d l = absurd (let no : ⊥ = omega arith in no)
held_at (r ∷ rows) zero d l = rw (eq-eqb r.trial.number r.trial.number refl)
held_at (r ∷ rows) (suc i) d l = rw (held_at rows i d (omega arith)) (either_all (eqb r.trial.number (get_or rows i d).trial.number))
  where
    either_all : (b : Bool) → either b true ≡ true
    either_all true = refl
    either_all false = refl

pub held_nowhere : (n : ℕ) (rows : List Row) (d : Row) → ((i : ℕ) → i < length rows → (get_or rows i d).trial.number ≡ n → ⊥) → held n (trials rows) ≡ false
unfolding held trials either
held_nowhere n [] d h = refl
held_nowhere n (r ∷ rows) d h =
    rw (ne_eqb r.trial.number n (h 0 (omega arith))) (held_nowhere n rows d (λ i l. h (suc i) (omega arith)))
