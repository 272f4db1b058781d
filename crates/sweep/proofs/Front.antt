-- Counts written over the front of a list.
use Prim.Native.Nat.{ℕ, zero, suc, ◌+◌, ◌-◌, ◌≤◌, ◌<◌}
use mathlib.Core.Path.{◌≡◌, refl, sym, ◌∙◌}
use mathlib.Core.List.{List, ◌∷◌, ◌++◌, map, []}
use native.Mathlib.Decide.{dec_le}
use native.Mathlib.Omega.{arith}
use lib.ListN.{length, drop, get_or, length-append, length-drop, get_or-append}
use lib.Seq.{get_or-append-add, get_or-drop, ext_get_or}

pub getD_mapped : {A B : Type 0} (f : A → B) (d : A) (e : B) (l : List A) (j : ℕ) → j < length l → get_or (map f l) j e ≡ f (get_or l j d)
getD_mapped f d e [] j m = absurd (let no' : ⊥ = omega arith in no')
getD_mapped f d e (a ∷ l) zero m = refl
getD_mapped f d e (a ∷ l) (suc j) m = getD_mapped f d e l j (omega arith)

-- A list that is `front` up to its length, and `old` from there on.
pub front_then : (now front old : List ℕ) → length now ≡ length old → length front ≤ length old → ((j : ℕ) → j < length front → get_or now j 0 ≡ get_or front j 0) → ((j : ℕ) → length front ≤ j → get_or now j 0 ≡ get_or old j 0) → now ≡ front ++ drop (length front) old
front_then now front old e f before after =
    ext_get_or 0 now (front ++ drop (length front) old)
    (omega (arith, length-append front (drop (length front) old), length-drop (length front) old))
    (λ j l. go j (dec_le (suc j) (length front)))
  where
    go : (j : ℕ) → Dec (j < length front) → get_or now j 0 ≡ get_or (front ++ drop (length front) old) j 0
    go j (yes a) = before j a ∙ sym (get_or-append front (drop (length front) old) 0 j a)
    go j (no a) =
        let split : j ≡ length front + (j - length front) = omega arith in
        after j (omega arith)
        ∙ rw split (sym (get_or-append-add front (drop (length front) old) (j - length front) 0 ∙ get_or-drop (length front) old (j - length front) 0))
