-- Lists of three numbers, and of points in ascending z.
use Prim.Native.Nat.{ℕ, zero, suc, ◌<◌, ◌≤◌}
use mathlib.Core.Path.{◌≡◌, refl}
use mathlib.Core.List.{List, ◌∷◌, []}
use native.Mathlib.Omega.{arith}
use lib.ListN.{length, get_or}
use Rattle.hypervolume.specs.Sorted.{Sorted}
use native.Mathlib.Decide.{dec_le}

-- A list of three numbers.
pub three : (r : List ℕ) → length r ≡ 3 → get_or r 0 0 ∷ get_or r 1 0 ∷ get_or r 2 0 ∷ [] ≡ r
three [] e = absurd (let no' : ⊥ = omega arith in no')
three (a ∷ []) e = absurd (let no' : ⊥ = omega arith in no')
three (a ∷ b ∷ []) e = absurd (let no' : ⊥ = omega arith in no')
three (a ∷ b ∷ c ∷ []) e = refl
three (a ∷ b ∷ c ∷ d ∷ r) e = absurd (let no' : ⊥ = omega arith in no')

-- Of any two points the earlier has at most the z of the later.
pub ascending_at : {ps : List (List ℕ)} → Sorted ps → (a b : ℕ) → a ≤ b → b < length ps → get_or (get_or ps a []) 2 0 ≤ get_or (get_or ps b []) 2 0
ascending_at {ps} h a zero p q = let none : a ≡ 0 = omega arith in rw none (omega arith)
ascending_at {ps} h a (suc b) p q = go (dec_le a b) (ascending_at h a b)
  where
    go : Dec (a ≤ b) → (a ≤ b → b < length ps → get_or (get_or ps a []) 2 0 ≤ get_or (get_or ps b []) 2 0) → get_or (get_or ps a []) 2 0 ≤ get_or (get_or ps (suc b) []) 2 0
    go (yes m) earlier = omega (arith, earlier m (let n : b < length ps = omega arith in n), h.rising b q)
    go (no m) earlier = let same : a ≡ suc b = omega arith in rw same (omega arith)
