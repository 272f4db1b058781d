-- Laws of sums over a range and over the cells below a reference: they respect equality and order, are
-- additive, may be exchanged, and a stretch on which the summand is constant is a product (law 9).
use Prim.Native.Nat.{ℕ, zero, suc, ◌+◌, ◌-◌, ◌*◌, ◌≤◌, ◌<◌, zero-le}
use mathlib.Core.Path.{◌≡◌, refl, sym, ap, ◌∙◌, fun_ext}
use mathlib.Core.List.{List, ◌∷◌, []}
use native.Mathlib.Nat.{add-zero, mul-zero, zero-mul, sub_self, suc-mul}
use native.Mathlib.Decide.{dec_le}
use native.Mathlib.Omega.{arith}
use Rattle.hypervolume.specs.Cells.{sum, cells}

pub sum_ext : (n : ℕ) (f g : ℕ → ℕ) → ((i : ℕ) → i < n → f i ≡ g i) → sum n f ≡ sum n g
unfolding sum
sum_ext zero f g h = refl
sum_ext (suc n) f g h =
    let before : sum n f ≡ sum n g = sum_ext n f g (λ i l. h i (omega arith)) in
    let last : f n ≡ g n = h n (omega arith) in
    omega arith

pub sum_add : (n : ℕ) (f g : ℕ → ℕ) → sum n (λ i. f i + g i) ≡ sum n f + sum n g
unfolding sum
sum_add zero f g = refl
sum_add (suc n) f g =
    let before : sum n (λ i. f i + g i) ≡ sum n f + sum n g = sum_add n f g in
    omega arith

pub sum_le : (n : ℕ) (f g : ℕ → ℕ) → ((i : ℕ) → i < n → f i ≤ g i) → sum n f ≤ sum n g
unfolding sum
sum_le zero f g h = zero-le
sum_le (suc n) f g h =
    let before : sum n f ≤ sum n g = sum_le n f g (λ i l. h i (omega arith)) in
    let last : f n ≤ g n = h n (omega arith) in
    omega arith

-- a summand that is constant: a product
pub sum_const : (n k : ℕ) → sum n (λ i. k) ≡ n * k
unfolding sum
sum_const zero k = sym (zero-mul k)
sum_const (suc n) k =
    let before : sum n (λ i. k) ≡ n * k = sum_const n k in
    omega (arith, suc-mul n k)

pub sum_none : (n : ℕ) (f : ℕ → ℕ) → ((i : ℕ) → i < n → f i ≡ 0) → sum n f ≡ 0
sum_none n f h = sum_ext n f (λ i. 0) h ∙ sum_const n 0 ∙ mul-zero n

pub sum_swap : (n m : ℕ) (f : ℕ → ℕ → ℕ) → sum n (λ i. sum m (λ j. f i j)) ≡ sum m (λ j. sum n (λ i. f i j))
unfolding sum
sum_swap zero m f = sym (sum_none m (λ j. 0) (λ j l. refl))
sum_swap (suc n) m f =
    let before : sum n (λ i. sum m (λ j. f i j)) ≡ sum m (λ j. sum n (λ i. f i j)) = sum_swap n m f in
    let split : sum m (λ j. sum n (λ i. f i j) + f n j) ≡ sum m (λ j. sum n (λ i. f i j)) + sum m (λ j. f n j) =
    sum_add m (λ j. sum n (λ i. f i j)) (λ j. f n j) in
    omega arith

-- Law 9. One axis: a sum over 0..b of a function that is constant k on a..b.
pub sum_steady : (f : ℕ → ℕ) (k a b : ℕ) → a ≤ b → ((i : ℕ) → a ≤ i → i < b → f i ≡ k) → sum b f ≡ sum a f + (b - a) * k
unfolding sum
sum_steady f k a zero l h = go a l
  where
    go : (a : ℕ) → a ≤ 0 → sum 0 f ≡ sum a f + (0 - a) * k
    go zero l = simp (sub_self, zero-mul)
    go (suc a) l = absurd (let x : ⊥ = omega arith in x)
sum_steady f k a (suc b) l h = go (λ m. sum_steady f k a b m (λ i p q. h i p (omega arith))) (dec_le a b)
  where
    go : (a ≤ b → sum b f ≡ sum a f + (b - a) * k) → Dec (a ≤ b) → sum (suc b) f ≡ sum a f + (suc b - a) * k
    go earlier (yes m) =
        let before : sum b f ≡ sum a f + (b - a) * k = earlier m in
        let last : f b ≡ k = h b m (omega arith) in
        let more : suc b - a ≡ suc (b - a) = omega arith in
        rw more (omega (arith, suc-mul (b - a) k))
    go earlier (no m) =
        let same : a ≡ suc b = omega arith in
        rw (same, sub_self, zero-mul, add-zero)

-- Nothing before z, and from z on constant.
pub sum_cut : (r z k : ℕ) (f : ℕ → ℕ) → ((i : ℕ) → i < z → f i ≡ 0) → ((i : ℕ) → z ≤ i → f i ≡ k) → sum r f ≡ (r - z) * k
sum_cut r z k f low high = go (dec_le z r)
  where
    go : Dec (z ≤ r) → sum r f ≡ (r - z) * k
    go (yes l) =
        let steady : sum r f ≡ sum z f + (r - z) * k = sum_steady f k z r l (λ i p q. high i p) in
        let nothing : sum z f ≡ 0 = sum_none z f low in
        omega arith
    go (no l) =
        let nothing : sum r f ≡ 0 = sum_none r f (λ i q. low i (omega arith)) in
        let cut : r - z ≡ 0 = omega arith in
        rw (nothing, cut, zero-mul)

-- Sums over cells.
pub cells_ext : (r : List ℕ) (f g : List ℕ → ℕ) → ((c : List ℕ) → f c ≡ g c) → cells r f ≡ cells r g
cells_ext r f g h = ap (cells r) (fun_ext h)

pub cells_add : (r : List ℕ) (f g : List ℕ → ℕ) → cells r (λ c. f c + g c) ≡ cells r f + cells r g
unfolding cells
cells_add [] f g = refl
cells_add (r ∷ rs) f g =
    ap (sum r) (fun_ext (λ i. cells_add rs (λ c. f (i ∷ c)) (λ c. g (i ∷ c))))
    ∙ sum_add r (λ i. cells rs (λ c. f (i ∷ c))) (λ i. cells rs (λ c. g (i ∷ c)))

pub cells_le : (r : List ℕ) (f g : List ℕ → ℕ) → ((c : List ℕ) → f c ≤ g c) → cells r f ≤ cells r g
unfolding cells
cells_le [] f g h = h []
cells_le (r ∷ rs) f g h =
    sum_le r (λ i. cells rs (λ c. f (i ∷ c))) (λ i. cells rs (λ c. g (i ∷ c)))
    (λ i l. cells_le rs (λ c. f (i ∷ c)) (λ c. g (i ∷ c)) (λ c. h (i ∷ c)))

pub cells_none : (r : List ℕ) → cells r (λ c. 0) ≡ 0
unfolding cells
cells_none [] = refl
cells_none (r ∷ rs) = sum_none r (λ i. cells rs (λ c. 0)) (λ i l. cells_none rs)
