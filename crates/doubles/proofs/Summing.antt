-- The layers in turn: exact up to 2 ^ 53 cells, and within 192 a layer up to 2 ^ 60.
use Rattle.std.proofs.Common.{◌≡◌, ℕ, suc, ◌+◌, ◌*◌, ◌^◌, ◌≤◌, false, List, [], ◌∷◌, length, sym, refl, ap, ◌∙◌, subst, add-zero, zero-add, arith, lit≤}
use lib.Ieee.{Float, binary64, round, add, mul}
use lib.Ieee.Back.{round_whole}
use Rattle.layers.specs.Layers.{Layer, cells_of}
use Rattle.layers.proofs.Layers.{Fits, AllFit}
use Rattle.doubles.specs.Doubles.{Whole, double, zero_double, with_layer, sum_from, Within, About}
use Rattle.doubles.proofs.Rounding.{Half, Near, near, add_whole, mul_whole}
use Rattle.doubles.proofs.Reading.{double_whole}

-- One layer: the two roundings.
layer_is : (s : Float) (m : ℕ) (l : Layer) → Whole s m → Fits (2 ^ 53) (2 ^ 53) l → (p : ℕ) → Whole (round binary64 false (l.area * l.height) 1) p → with_layer s l ≡ round binary64 false (m + p) 1
unfolding with_layer
layer_is s m l v f p w =
    let e : mul binary64 (double l.area) (double l.height) ≡ round binary64 false (l.area * l.height) 1 =
    mul_whole (double l.area) (double l.height) l.area l.height (double_whole l.area f.area) (double_whole l.height f.height) in
    ap (λ (x : Float). add binary64 s x) e ∙ add_whole s (round binary64 false (l.area * l.height) 1) m p v w

-- What is left to add, with the layer or behind it.
module _ (a p r b : ℕ) (h : a + (p + r) ≤ b) where
  product_fits : p ≤ b
  product_fits = omega arith

  sum_fits : a + p ≤ b
  sum_fits = omega arith

  rest_fits : a + p + r ≤ b
  rest_fits = omega arith

regroup : (a p r : ℕ) → a + p + r ≡ a + (p + r)
regroup a p r = omega arith

-- ---- exact

pub sum_exact : (s : Float) (a : ℕ) (ls : List Layer) → Whole s a → AllFit (2 ^ 53) (2 ^ 53) ls → a + cells_of ls ≤ 2 ^ 53 → Whole (sum_from s ls) (a + cells_of ls)
unfolding sum_from cells_of AllFit
sum_exact s a [] v f h = subst (λ (n : ℕ). Whole s n) (sym (add-zero a)) v
sum_exact s a (l ∷ ls) v f h =
    let p = l.area * l.height in
    let r = cells_of ls in
    let one : Whole (round binary64 false p 1) p = round_whole binary64 false p (product_fits a p r (2 ^ 53) h) in
    let two : Whole (with_layer s l) (a + p) =
    subst (λ (x : Float). Whole x (a + p)) (sym (layer_is s a l v f.0 p one)) (round_whole binary64 false (a + p) (sum_fits a p r (2 ^ 53) h)) in
    subst (λ (n : ℕ). Whole (sum_from (with_layer s l) ls) n) (regroup a p r) (sum_exact (with_layer s l) (a + p) ls two f.1 (rest_fits a p r (2 ^ 53) h))

-- ---- within 192 a layer

-- At most so far apart, whichever is named first.
pub within_turned : (m n d : ℕ) → Within m n d → Within n m d
within_turned m n d w = record { above = w.below; below = w.above }

-- q is within 64 of p and t within 128 of m + q, m being within 192 * i of a
one_more : (a m p q t i : ℕ) → Within m a (192 * i) → Half q p (2 ^ 7) → Half t (m + q) (2 ^ 8) → Within t (a + p) (192 * (i + 1))
one_more a m p q t i u v w =
    record { above = omega (arith, u.above, v.above, w.above); below = omega (arith, u.below, v.below, w.below) }

small : (a m p q r i n : ℕ) → a + (p + r) ≤ 2 ^ 60 → Within m a (192 * i) → Half q p (2 ^ 7) → i + suc n ≤ 512 → m + q ≤ 2 ^ (53 + 8)
small a m p q r i n h u v k = omega (arith, h, u.above, v.above, k)

shift : (i n : ℕ) → i + 1 + n ≡ i + suc n
shift i n = omega arith

pub sum_about : (s : Float) (a i : ℕ) (ls : List Layer) → About s a (192 * i) → AllFit (2 ^ 53) (2 ^ 53) ls → a + cells_of ls ≤ 2 ^ 60 → i + length ls ≤ 512 → About (sum_from s ls) (a + cells_of ls) (192 * (i + length ls))
unfolding sum_from cells_of AllFit
sum_about s a i [] v f h k = subst (λ (n : ℕ). About s n (192 * (i + 0))) (sym (add-zero a)) (subst (λ (n : ℕ). About s a (192 * n)) (sym (add-zero i)) v)
sum_about s a i (l ∷ ls) v f h k =
    let p = l.area * l.height in
    let r = cells_of ls in
    let m = v.value in
    let one : Near (round binary64 false p 1) p 7 = near p 7 (lit≤ tt) (product_fits a p r (2 ^ 60) h) in
    let q = one.value in
    let two : Near (round binary64 false (m + q) 1) (m + q) 8 = near (m + q) 8 (lit≤ tt) (small a m p q r i (length ls) h v.within one.half k) in
    let here : About (with_layer s l) (a + p) (192 * (i + 1)) =
    subst (λ (x : Float). About x (a + p) (192 * (i + 1))) (sym (layer_is s m l v.whole f.0 q one.whole))
    (record { value = two.value; whole = two.whole; within = one_more a m p q two.value i v.within one.half two.half }) in
    subst (λ (n : ℕ). About (sum_from (with_layer s l) ls) n (192 * (i + suc (length ls)))) (regroup a p r)
    (subst (λ (n : ℕ). About (sum_from (with_layer s l) ls) (a + p + r) (192 * n)) (shift i (length ls))
    (sum_about (with_layer s l) (a + p) (i + 1) ls here f.1 (rest_fits a p r (2 ^ 60) h) (subst (λ (n : ℕ). n ≤ 512) (sym (shift i (length ls))) k)))

-- ---- from zero

pub exact : (ls : List Layer) → AllFit (2 ^ 53) (2 ^ 53) ls → cells_of ls ≤ 2 ^ 53 → Whole (sum_from zero_double ls) (cells_of ls)
exact ls f h = rw (zero-add (cells_of ls)) at (sum_exact zero_double 0 ls (refl, refl) f (rw (zero-add (cells_of ls)) h))

start_about : About zero_double 0 (192 * 0)
start_about = record { value = 0; whole = (refl, refl); within = record { above = omega arith; below = omega arith } }

pub close : (ls : List Layer) → AllFit (2 ^ 53) (2 ^ 53) ls → cells_of ls ≤ 2 ^ 60 → length ls ≤ 512 → About (sum_from zero_double ls) (cells_of ls) (192 * length ls)
close ls f h k =
    rw (zero-add (cells_of ls), zero-add (length ls)) at
    (sum_about zero_double 0 0 ls start_about f (rw (zero-add (cells_of ls)) h) (rw (zero-add (length ls)) k))
