-- Numbers put at places: which list they are spread over.
use Prim.Native.Nat.{ℕ, zero, suc, ◌<◌}
use mathlib.Core.Path.{◌≡◌, sym, ◌∙◌}
use mathlib.Core.List.{List, ◌∷◌, []}
use mathlib.Core.Logic.{◌⊎◌, inl, inr, ⊎_elim}
use native.Mathlib.Decide.{ℕ_discrete}
use native.Mathlib.Omega.{arith}
use lib.ListN.{length, get_or, set, length-set}
use lib.Seq.{get_or-set_same, get_or-set_other, ext_get_or}
use Rattle.slices.specs.Spread.{spread, Stands}

-- Each place holds already what `all` has there, or is one that a number is put at; the numbers are those of `all`.
pub record Due (all l places numbers : List ℕ) : Type 0 where
  pub long : length l ≡ length all
  pub many : length numbers ≡ length places
  pub inside : (k : ℕ) → k < length places → get_or places k 0 < length all
  pub right : (k : ℕ) → k < length places → get_or numbers k 0 ≡ get_or all (get_or places k 0) 0
  pub every : (j : ℕ) → j < length all → (get_or l j 0 ≡ get_or all j 0) ⊎ Stands places (length places) j

due_rest : {all l places numbers : List ℕ} {p v : ℕ} → Due all l (p ∷ places) (v ∷ numbers) → Due all (set l p v) places numbers
due_rest {all} {l} {places} {numbers} {p} {v} h =
    record {
      long = length-set l p v ∙ h.long;
      many = omega (arith, h.many);
      inside = λ k m. h.inside (suc k) (omega arith);
      right = λ k m. h.right (suc k) (omega arith);
      every = λ j m. every j (ℕ_discrete j p) (h.every j m);
    }
  where
    put : (j : ℕ) → j ≡ p → get_or (set l p v) j 0 ≡ get_or all j 0
    put j e =
        let inside : p < length all = h.inside 0 (omega arith) in
        rw (e, get_or-set_same l p v 0 (omega (arith, h.long))) (h.right 0 (omega arith))

    later : (j : ℕ) → (j ≡ p → ⊥) → (k : ℕ) → k < suc (length places) → get_or (p ∷ places) k 0 ≡ j → Stands places (length places) j
    later j d zero m e = absurd (d (sym e))
    later j d (suc k) m e = record { k = k; within = omega arith; here = e }

    every : (j : ℕ) → Dec (j ≡ p) → (get_or l j 0 ≡ get_or all j 0) ⊎ Stands (p ∷ places) (suc (length places)) j → (get_or (set l p v) j 0 ≡ get_or all j 0) ⊎ Stands places (length places) j
    every j (yes e) s = inl (put j e)
    every j (no d) (inl e) = inl (get_or-set_other l p j v 0 d ∙ e)
    every j (no d) (inr s) = inr (later j d s.k s.within s.here)

pub due_spread : (all l places numbers : List ℕ) → Due all l places numbers → all ≡ spread l places numbers
unfolding spread
due_spread all l [] numbers h =
    ext_get_or 0 all l (sym h.long)
    (λ j m. ⊎_elim (λ e. sym e) (λ s. absurd (let no' : ⊥ = omega (arith, s.within) in no')) (h.every j m))
due_spread all l (p ∷ places) [] h = absurd (let no' : ⊥ = omega (arith, h.many) in no')
due_spread all l (p ∷ places) (v ∷ numbers) h = due_spread all (set l p v) places numbers (due_rest h)
