-- Laws of numbers spread over places: how long the list stays, one place more, and what stands where. Places that ascend
-- are apart, so that each keeps its number.
use Prim.Native.Nat.{ℕ, zero, suc, ◌<◌}
use mathlib.Core.Path.{◌≡◌, refl, ◌∙◌}
use mathlib.Core.List.{List, ◌∷◌, []}
use native.Mathlib.Omega.{arith}
use lib.ListN.{length, take, set, get_or, replicate, length-set, length-replicate}
use lib.Seq.{length-take-le, get_or-take, get_or-set_same, get_or-set_other}
use Rattle.slices.specs.Spread.{spread}

pub length_spread : (l places numbers : List ℕ) → length (spread l places numbers) ≡ length l
unfolding spread
length_spread l [] numbers = refl
length_spread l (p ∷ places) [] = refl
length_spread l (p ∷ places) (n ∷ numbers) = length_spread (set l p n) places numbers ∙ length-set l p n

-- One place more is one number set.
pub spread_more : (l places numbers : List ℕ) (k : ℕ) → length numbers ≡ length places → k < length places
    → spread l (take (suc k) places) (take (suc k) numbers) ≡ set (spread l (take k places) (take k numbers)) (get_or places k 0) (get_or numbers k 0)
unfolding spread
spread_more l [] numbers k e h = absurd (let no' : ⊥ = omega arith in no')
spread_more l (p ∷ places) [] k e h = absurd (let no' : ⊥ = omega arith in no')
spread_more l (p ∷ places) (n ∷ numbers) zero e h = refl
spread_more l (p ∷ places) (n ∷ numbers) (suc k) e h =
    spread_more (set l p n) places numbers k (let f : length numbers ≡ length places = omega arith in f) (omega arith)

-- What is at none of the places is as before.
pub spread_other : (l places numbers : List ℕ) (i : ℕ) → ((k : ℕ) → k < length places → i ≡ get_or places k 0 → ⊥)
    → get_or (spread l places numbers) i 0 ≡ get_or l i 0
unfolding spread
spread_other l [] numbers i apart = refl
spread_other l (p ∷ places) [] i apart = refl
spread_other l (p ∷ places) (n ∷ numbers) i apart =
    spread_other (set l p n) places numbers i (λ k h. apart (suc k) (omega arith))
    ∙ get_or-set_other l p i n 0 (apart 0 (omega arith))

-- Each place is below the next.
abbrev pub Rising : List ℕ → Type 0
Rising places = (k : ℕ) → suc k < length places → get_or places k 0 < get_or places (suc k) 0

-- A place is below every later one.
above_first : (p : ℕ) (places : List ℕ) → Rising (p ∷ places) → (k : ℕ) → k < length places → p < get_or places k 0
above_first p places up zero h = up 0 (omega arith)
above_first p places up (suc k) h =
    let before : p < get_or places k 0 = above_first p places up k (omega arith) in
    let step : get_or places k 0 < get_or places (suc k) 0 = up (suc k) (omega arith) in
    omega arith

pub rising_later : (places : List ℕ) → Rising places → (j k : ℕ) → j < k → k < length places → get_or places j 0 < get_or places k 0
rising_later [] up j k l h = absurd (let no' : ⊥ = omega arith in no')
rising_later (p ∷ places) up j zero l h = absurd (let no' : ⊥ = omega arith in no')
rising_later (p ∷ places) up zero (suc k) l h = above_first p places up k (omega arith)
rising_later (p ∷ places) up (suc j) (suc k) l h = rising_later places (λ i m. up (suc i) (omega arith)) j k (omega arith) (omega arith)

-- The k-th place has the k-th number.
pub spread_at : (l places numbers : List ℕ) (k : ℕ) → length numbers ≡ length places → Rising places → k < length places → get_or places k 0 < length l
    → get_or (spread l places numbers) (get_or places k 0) 0 ≡ get_or numbers k 0
unfolding spread
spread_at l [] numbers k e up h inside = absurd (let no' : ⊥ = omega arith in no')
spread_at l (p ∷ places) [] k e up h inside = absurd (let no' : ⊥ = omega arith in no')
spread_at l (p ∷ places) (n ∷ numbers) zero e up h inside =
    spread_other (set l p n) places numbers p
    (λ k m same. let later : p < get_or places k 0 = above_first p places up k m in omega arith)
    ∙ get_or-set_same l p n 0 inside
spread_at l (p ∷ places) (n ∷ numbers) (suc k) e up h inside =
    spread_at (set l p n) places numbers k (let f : length numbers ≡ length places = omega arith in f) (λ i m. up (suc i) (omega arith)) (omega arith)
    (let long : length (set l p n) ≡ length l = length-set l p n in omega arith)

-- The k-th place is none of the k before it.
pub spread_before : (l places numbers : List ℕ) (k : ℕ) → Rising places → k < length places
    → get_or (spread l (take k places) (take k numbers)) (get_or places k 0) 0 ≡ get_or l (get_or places k 0) 0
spread_before l places numbers k up h =
    spread_other l (take k places) (take k numbers) (get_or places k 0)
    (λ j m same.
    let size : length (take k places) ≡ k = length-take-le k places (omega arith) in
    let there : get_or (take k places) j 0 ≡ get_or places j 0 = get_or-take k places j 0 (omega arith) in
    let later : get_or places j 0 < get_or places k 0 = rising_later places up j k (omega arith) h in
    omega arith)

-- Over zeros: 0 wherever no place is.
pub zeros_at : (n i : ℕ) → ◌≡◌ {A = ℕ} (get_or (replicate n 0) i 0) 0
zeros_at zero i = refl
zeros_at (suc n) zero = refl
zeros_at (suc n) (suc i) = zeros_at n i

pub length_spread_zeros : (n : ℕ) (places numbers : List ℕ) → length (spread (replicate n 0) places numbers) ≡ n
length_spread_zeros n places numbers = length_spread (replicate n 0) places numbers ∙ length-replicate n 0
