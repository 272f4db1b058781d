-- The orders of the axes as swaps of two adjacent ones. One test over the table says that each order is such swaps and that its
-- inverse undoes it; the rest holds for whatever passes the test.
use Prim.Native.Nat.{ℕ, zero, suc, ◌+◌, ◌≤◌, ◌<◌}
use mathlib.Core.Path.{◌≡◌, refl, sym, ap, ◌∙◌}
use mathlib.Core.Bool.{Bool, true, false, true≢false}
use mathlib.Core.List.{List, ◌∷◌, map, []}
use native.Mathlib.Omega.{arith}
use lib.Dec.{leb, ltb, eqb}
use lib.ListN.{length, get_or, length-map}
use borrow.Author.Tests.{leb-true, ltb-true, eqb-true}
use Rattle.slices.specs.Choices.{both}
use Rattle.slices.proofs.Choices.{both_true}
use Rattle.hypervolume.proofs.Tests.{by_order}
use Rattle.hypervolume.proofs.Dominance.{first, rest}
use Rattle.hypervolume.proofs.Axes.{swap_at, swapped, Swaps, length_swap, length_swaps}
use Rattle.calls.proofs.Members.{map_on, map-map}
use Rattle.axes.specs.Orders.{Axis, x, y, z, place_of, along, orders, letters, rearranged, inverse}

-- The orders as swaps: yzx swaps x with y, and then x with z.
unfoldable pub swaps : ℕ → List ℕ
swaps order = get_or ([] ∷ (1 ∷ []) ∷ (0 ∷ []) ∷ (0 ∷ 1 ∷ []) ∷ (1 ∷ 0 ∷ []) ∷ (0 ∷ 1 ∷ 0 ∷ []) ∷ []) order []

-- ---- the test

alike : List ℕ → List ℕ → Bool
alike [] [] = true
alike [] (n ∷ b) = false
alike (m ∷ a) [] = false
alike (m ∷ a) (n ∷ b) = both (eqb m n) (alike a b)

small : ℕ → List ℕ → Bool
small n [] = true
small n (k ∷ ks) = both (leb (k + 2) n) (small n ks)

every : (ℕ → Bool) → ℕ → Bool
every test zero = true
every test (suc n) = both (test n) (every test n)

-- the axes, as a point whose coordinates are their places
axes : List ℕ
axes = 0 ∷ 1 ∷ 2 ∷ []

right : ℕ → Bool
right order =
    both (alike (rearranged order axes) (swapped (swaps order) axes))
    (both (small 3 (swaps order))
    (both (alike (rearranged (inverse order) (rearranged order axes)) axes) (ltb (inverse order) 6)))

all_right : every right 6 ≡ true
unfolding every right alike small swaps axes rearranged letters orders along place_of inverse swapped swap_at first rest both
all_right = refl

-- ---- what it tells

alike_true : (a b : List ℕ) → alike a b ≡ true → a ≡ b
unfolding alike
alike_true [] [] e = refl
alike_true [] (n ∷ b) e = absurd (true≢false (sym e))
alike_true (m ∷ a) [] e = absurd (true≢false (sym e))
alike_true (m ∷ a) (n ∷ b) e =
    let parts = both_true _ _ e in
    rw (eqb-true m n parts.0, alike_true a b parts.1)

small_true : (n : ℕ) (ks : List ℕ) → small n ks ≡ true → Swaps n ks
unfolding small Swaps
small_true n [] e = tt
small_true n (k ∷ ks) e =
    let parts = both_true _ _ e in
    (leb-true (k + 2) n parts.0, small_true n ks parts.1)

every_true : (test : ℕ → Bool) (n k : ℕ) → every test n ≡ true → k < n → test k ≡ true
unfolding every
every_true test zero k e l = absurd (let no' : ⊥ = omega arith in no')
every_true test (suc n) k e l =
    by_order n k (λ m. let last : k ≡ n = omega arith in rw last (both_true _ _ e).0) (λ m. every_true test n k (both_true _ _ e).1 m)

-- ---- for every point of three axes

-- swapping and rearranging see only where a coordinate stands
swap_map : (f : ℕ → ℕ) (k : ℕ) (p : List ℕ) → k + 2 ≤ length p → swap_at k (map f p) ≡ map f (swap_at k p)
unfolding swap_at first rest
swap_map f k [] l = absurd (let no' : ⊥ = omega arith in no')
swap_map f zero (a ∷ []) l = absurd (let no' : ⊥ = omega arith in no')
swap_map f zero (a ∷ b ∷ p) l = refl
swap_map f (suc k) (a ∷ p) l = ap (λ q. f a ∷ q) (swap_map f k p (omega arith))

swaps_map : (f : ℕ → ℕ) (ks p : List ℕ) → Swaps (length p) ks → swapped ks (map f p) ≡ map f (swapped ks p)
unfolding swapped Swaps
swaps_map f [] p s = refl
swaps_map f (k ∷ ks) p s =
    ap (swapped ks) (swap_map f k p s.0) ∙ swaps_map f ks (swap_at k p) (rw (length_swap k p s.0) s.1)

-- a list of three, place by place
pub three_of : {A : Type 0} (d : A) (l : List A) → length l ≡ 3 → l ≡ get_or l 0 d ∷ get_or l 1 d ∷ get_or l 2 d ∷ []
three_of d (a ∷ b ∷ c ∷ []) e = refl
three_of d [] e = absurd (let no' : ⊥ = omega arith in no')
three_of d (a ∷ []) e = absurd (let no' : ⊥ = omega arith in no')
three_of d (a ∷ b ∷ []) e = absurd (let no' : ⊥ = omega arith in no')
three_of d (a ∷ b ∷ c ∷ f ∷ l) e = absurd (let no' : ⊥ = omega arith in no')

along_map : (f : ℕ → ℕ) (p : List ℕ) (axis : Axis) → length p ≡ 3 → along (map f p) axis ≡ f (along p axis)
unfolding along
along_map f p axis e = rw (three_of 0 p e) (three (get_or p 0 0) (get_or p 1 0) (get_or p 2 0) axis)
  where
    three : (a b c : ℕ) (axis : Axis) → get_or (f a ∷ f b ∷ f c ∷ []) (place_of axis) 0 ≡ f (get_or (a ∷ b ∷ c ∷ []) (place_of axis) 0)
    three a b c x = unfold place_of in refl
    three a b c y = unfold place_of in refl
    three a b c z = unfold place_of in refl

by_axes : (p : List ℕ) → length p ≡ 3 → map (λ k. get_or p k 0) axes ≡ p
unfolding axes
by_axes p e = sym (three_of 0 p e)

-- What the test tells of one order.
record Right (order : ℕ) : Type 0 where
  as_swaps : rearranged order axes ≡ swapped (swaps order) axes
  within : Swaps 3 (swaps order)
  back : rearranged (inverse order) (rearranged order axes) ≡ axes
  inverse_low : inverse order < 6

is_right : (order : ℕ) → order < 6 → Right order
unfolding right
is_right order known =
    let first = both_true _ _ (every_true right 6 order all_right known) in
    let second = both_true _ _ first.1 in
    let third = both_true _ _ second.1 in
    record {
      as_swaps = alike_true _ _ first.0;
      within = small_true 3 (swaps order) second.0;
      back = alike_true _ _ third.0;
      inverse_low = ltb-true (inverse order) 6 third.1;
    }

axes_three : length axes ≡ 3
unfolding axes
axes_three = refl

module _ (order : ℕ) (known : order < 6) where
  pub inverse_known : inverse order < 6
  inverse_known = (is_right order known).inverse_low

  pub swaps_here : (p : List ℕ) → length p ≡ 3 → Swaps (length p) (swaps order)
  swaps_here p e = rw e (is_right order known).within

  pub rearranged_map : (f : ℕ → ℕ) (p : List ℕ) → length p ≡ 3 → rearranged order (map f p) ≡ map f (rearranged order p)
  unfolding rearranged
  rearranged_map f p e = map_on _ _ (letters order) (λ axis m. along_map f p axis e) ∙ sym (map-map (along p) f (letters order))

  -- An order is its swaps, and so every law of swaps is one of the orders.
  pub rearranged_swaps : (p : List ℕ) → length p ≡ 3 → rearranged order p ≡ swapped (swaps order) p
  rearranged_swaps p e =
      let f : ℕ → ℕ = λ k. get_or p k 0 in
      ap (rearranged order) (sym (by_axes p e))
      ∙ rearranged_map f axes axes_three
      ∙ ap (map f) (is_right order known).as_swaps
      ∙ sym (swaps_map f (swaps order) axes (swaps_here axes axes_three))
      ∙ ap (swapped (swaps order)) (by_axes p e)

  pub length_rearranged : (p : List ℕ) → length p ≡ 3 → length (rearranged order p) ≡ 3
  length_rearranged p e = ap length (rearranged_swaps p e) ∙ length_swaps (swaps order) p (swaps_here p e) ∙ e

-- The inverse order undoes an order.
pub rearranged_back : (order : ℕ) → order < 6 → (p : List ℕ) → length p ≡ 3 → rearranged (inverse order) (rearranged order p) ≡ p
rearranged_back order known p e =
    let f : ℕ → ℕ = λ k. get_or p k 0 in
    ap (λ q. rearranged (inverse order) (rearranged order q)) (sym (by_axes p e))
    ∙ ap (rearranged (inverse order)) (rearranged_map order known f axes axes_three)
    ∙ rearranged_map (inverse order) (inverse_known order known) f (rearranged order axes) (length_rearranged order known axes axes_three)
    ∙ ap (map f) (is_right order known).back
    ∙ by_axes p e

-- Each order names three axes, and the point rearranged has at each place its coordinate on the axis named there.
pub letters_three : (order : ℕ) → order < 6 → length (letters order) ≡ 3
unfolding rearranged
letters_three order known =
    sym (length-map (letters order) (along axes)) ∙ length_rearranged order known axes axes_three

pub by_letters : (order : ℕ) → order < 6 → (p : List ℕ)
    → rearranged order p ≡ along p (get_or (letters order) 0 x) ∷ along p (get_or (letters order) 1 x) ∷ along p (get_or (letters order) 2 x) ∷ []
unfolding rearranged
by_letters order known p = ap (map (along p)) (three_of x (letters order) (letters_three order known))
