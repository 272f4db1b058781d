-- The layers add up to the total.
use Prim.Native.Nat.{ℕ, zero, suc, ◌+◌, ◌-◌, ◌*◌, ◌≤◌, ◌<◌, zero-le}
use mathlib.Core.Path.{◌≡◌, refl, sym, ap, ◌∙◌}
use mathlib.Core.Bool.{Bool, true, false}
use mathlib.Core.List.{List, ◌∷◌, ◌++◌, []}
use native.Mathlib.Nat.{add_assoc, add-zero, mul_comm, suc-add, zero-add}
use native.Mathlib.Decide.{dec_le}
use native.Mathlib.Omega.{arith}
use lib.Dec.{leb, eqb}
use lib.ListN.{length, get_or}
use borrow.Author.Tests.{eqb-false}
use Rattle.slices.specs.Choices.{either, pick}
use Rattle.slices.proofs.Choices.{either_false}
use Rattle.hypervolume.specs.Cells.{holds, sum, count, box}
use Rattle.hypervolume.specs.Counts.{cover, total}
use Rattle.hypervolume.proofs.Sums.{sum_none, sum_steady, cells_none}
use Rattle.hypervolume.proofs.Counting.{count_le_box}
use Rattle.hypervolume.proofs.Last.{dominates_last, dominates_before, cells_last, cells_alike}
use Rattle.hypervolume.proofs.Tests.{Compared, compared, below, above, Equated, equated, same, holds_le_one}
use Rattle.layers.specs.Layers.{begins, those, levels, area_at, next_level, Layer, layers_at, layers, cells_of, LayersAddUp}

-- The total, layer by layer.
total_last : (rs : List ℕ) (r : ℕ) (points : List (List ℕ)) → total (rs ++ (r ∷ [])) points ≡ sum r (area_at rs points)
unfolding total count area_at
total_last rs r points = cells_last rs r (λ c. holds (leb 1 (cover points c)))

-- ---- between two levels nothing changes

-- No point begins from a up to b.
abbrev pub Quiet : ℕ → List (List ℕ) → (a b : ℕ) → Type 0
Quiet axes points a b = (k : ℕ) → a ≤ k → k < b → begins axes points k ≡ false

-- Where a coordinate is not in between, it is at most both ends or neither.
alike : (x a b : ℕ) → a ≤ b → ((k : ℕ) → a < k → k ≤ b → eqb x k ≡ false) → leb x a ≡ leb x b
alike x a b l h = go (leb x a) (leb x b) (compared x a) (compared x b)
  where
    go : (s t : Bool) → Compared x a s → Compared x b t → s ≡ t
    go true true p q = refl
    go false false p q = refl
    go true false (below p) (above q) = absurd (let no' : ⊥ = omega arith in no')
    go false true (above p) (below q) = absurd (eqb-false x x (h x p q) refl)

cover_alike : (points : List (List ℕ)) (c : List ℕ) (a b : ℕ) → a ≤ b → ((k : ℕ) → a < k → k ≤ b → begins (length c) points k ≡ false) → cover points (c ++ (b ∷ [])) ≡ cover points (c ++ (a ∷ []))
unfolding cover begins
cover_alike [] c a b l h = refl
cover_alike (p ∷ points) c a b l h =
    rw (dominates_last p c a, dominates_last p c b, alike (get_or p (length c) 0) a b l (λ k m n. (either_false (eqb (get_or p (length c) 0) k) (begins (length c) points k) (h k m n)).0), cover_alike points c a b l (λ k m n. (either_false (eqb (get_or p (length c) 0) k) (begins (length c) points k) (h k m n)).1))

area_steady : (rs : List ℕ) (points : List (List ℕ)) (a b : ℕ) → a ≤ b → ((k : ℕ) → a < k → k ≤ b → begins (length rs) points k ≡ false) → area_at rs points b ≡ area_at rs points a
unfolding area_at count
area_steady rs points a b l h =
    cells_alike rs (λ c. holds (leb 1 (cover points (c ++ (b ∷ []))))) (λ c. holds (leb 1 (cover points (c ++ (a ∷ [])))))
    (λ c e. ap (λ n. holds (leb 1 n)) (cover_alike points c a b l (λ k m n. rw e (h k m n))))

-- Below the first level there is nothing.
uncovered : (points : List (List ℕ)) (c : List ℕ) (z : ℕ) → ((k : ℕ) → k ≤ z → begins (length c) points k ≡ false) → cover points (c ++ (z ∷ [])) ≡ 0
unfolding cover begins holds
uncovered [] c z h = refl
uncovered (p ∷ points) c z h =
    rw (dominates_before (length c) c z refl p (past (compared (get_or p (length c) 0) z)), uncovered points c z (λ k m. (either_false (eqb (get_or p (length c) 0) k) (begins (length c) points k) (h k m)).1))
  where
    past : {t : Bool} → Compared (get_or p (length c) 0) z t → z < get_or p (length c) 0
    past (above l) = l
    past (below l) = absurd (eqb-false (get_or p (length c) 0) (get_or p (length c) 0) (either_false (eqb (get_or p (length c) 0) (get_or p (length c) 0)) (begins (length c) points (get_or p (length c) 0)) (h (get_or p (length c) 0) l)).0 refl)

area_none : (rs : List ℕ) (points : List (List ℕ)) (z : ℕ) → ((k : ℕ) → k ≤ z → begins (length rs) points k ≡ false) → area_at rs points z ≡ 0
unfolding area_at count holds
area_none rs points z h =
    cells_alike rs (λ c. holds (leb 1 (cover points (c ++ (z ∷ []))))) (λ c. 0)
    (λ c e. ap (λ n. holds (leb 1 n)) (uncovered points c z (λ k m. rw e (h k m))))
    ∙ cells_none rs

-- ---- what is left of the levels

skip : (test : ℕ → Bool) (d a n : ℕ) → ((k : ℕ) → a ≤ k → k < a + d → test k ≡ false) → those test a (d + n) ≡ those test (a + d) n
unfolding those pick
skip test zero a n q = rw (zero-add n, add-zero a)
skip test (suc d) a n q =
    rw (suc-add d n, q a (omega arith) (omega arith), skip test d (suc a) n (λ k l m. q k (omega arith) (omega arith)))
    (let same' : suc a + d ≡ a + suc d = omega arith in rw same')

-- The numbers below r that pass a test, from a on: from b on, where none does in between.
pub those_from : (test : ℕ → Bool) (a b r : ℕ) → a ≤ b → b ≤ r → ((k : ℕ) → a ≤ k → k < b → test k ≡ false) → those test a (r - a) ≡ those test b (r - b)
those_from test a b r l m q =
    let split : r - a ≡ (b - a) + (r - b) = omega arith in
    let end : a + (b - a) ≡ b = omega arith in
    rw split (skip test (b - a) a (r - b) (λ k n o. q k n (omega arith)) ∙ rw end)

-- ---- the sum, from one level to the next

module _ (rs : List ℕ) (r : ℕ) (points : List (List ℕ)) where
  abbrev starts : ℕ → Bool
  starts = begins (length rs) points

  abbrev upto : ℕ → ℕ
  upto z = sum z (area_at rs points)

  -- from the level z, where no point begins behind it and before k
  one_slice : (z k : ℕ) → z < k → Quiet (length rs) points (suc z) k → upto k ≡ upto z + area_at rs points z * (k - z)
  one_slice z k l q =
      sum_steady (area_at rs points) (area_at rs points z) z k (omega arith)
      (λ i m n. area_steady rs points z i m (λ j o p. q j o (omega arith)))
      ∙ ap (λ n. sum z (area_at rs points) + n) (mul_comm (k - z) (area_at rs points z))

  more_quiet : (a k : ℕ) → Quiet (length rs) points a k → starts k ≡ false → Quiet (length rs) points a (suc k)
  more_quiet a k q e j m n = go (dec_le (suc j) k)
    where
      go : Dec (j < k) → begins (length rs) points j ≡ false
      go (yes l) = q j m l
      go (no l) = let last : j ≡ k = omega arith in rw last e

  no_quiet : (k : ℕ) → Quiet (length rs) points (suc k) (suc k)
  no_quiet k j m n = absurd (let no' : ⊥ = omega arith in no')

  from_level : (z k n : ℕ) → z < k → k + n ≡ r → Quiet (length rs) points (suc z) k → upto r ≡ upto z + cells_of (layers_at rs r points (z ∷ those starts k n))
  unfolding cells_of layers_at those next_level pick
  from_level z k zero l e q =
      let end : k ≡ r = omega arith in
      rw (← end) (one_slice z k l q ∙ ap (λ n. sum z (area_at rs points) + n) (sym (add-zero (area_at rs points z * (k - z)))))
  from_level z k (suc n) l e q = go (starts k) refl (from_level z (suc k) n (omega arith) (omega arith)) (from_level k (suc k) n (omega arith) (omega arith) (no_quiet k))
    where
      go : (b : Bool) → starts k ≡ b
          → (Quiet (length rs) points (suc z) (suc k) → upto r ≡ upto z + cells_of (layers_at rs r points (z ∷ those starts (suc k) n)))
          → upto r ≡ upto k + cells_of (layers_at rs r points (k ∷ those starts (suc k) n))
          → upto r ≡ upto z + cells_of (layers_at rs r points (z ∷ pick b (k ∷ those starts (suc k) n) (those starts (suc k) n)))
      go false f further level = further (more_quiet (suc z) k q f)
      go true f further level =
          level
          ∙ ap (λ m. m + cells_of (layers_at rs r points (k ∷ those starts (suc k) n))) (one_slice z k l q)
          ∙ add_assoc (sum z (area_at rs points)) (area_at rs points z * (k - z)) (cells_of (layers_at rs r points (k ∷ those starts (suc k) n)))

  -- from the ground, where no point begins before k
  from_ground : (k n : ℕ) → k + n ≡ r → Quiet (length rs) points 0 k → upto r ≡ cells_of (layers_at rs r points (those starts k n))
  unfolding cells_of layers_at those pick
  from_ground k zero e q =
      sum_none r (area_at rs points) (λ i l. area_none rs points i (λ j m. q j zero-le (omega arith)))
  from_ground k (suc n) e q = go (starts k) refl (from_ground (suc k) n (omega arith)) (from_level k (suc k) n (omega arith) (omega arith) (no_quiet k))
    where
      bare : upto k ≡ 0
      bare = sum_none k (area_at rs points) (λ i l. area_none rs points i (λ j m. q j zero-le (omega arith)))

      go : (b : Bool) → starts k ≡ b
          → (Quiet (length rs) points 0 (suc k) → upto r ≡ cells_of (layers_at rs r points (those starts (suc k) n)))
          → upto r ≡ upto k + cells_of (layers_at rs r points (k ∷ those starts (suc k) n))
          → upto r ≡ cells_of (layers_at rs r points (pick b (k ∷ those starts (suc k) n) (those starts (suc k) n)))
      go false f further level = further (more_quiet 0 k q f)
      go true f further level =
          level
          ∙ ap (λ m. m + cells_of (layers_at rs r points (k ∷ those starts (suc k) n))) bare
          ∙ zero-add (cells_of (layers_at rs r points (k ∷ those starts (suc k) n)))

whole : (rs : List ℕ) (r : ℕ) (points : List (List ℕ)) → cells_of (layers rs r points) ≡ total (rs ++ (r ∷ [])) points
unfolding layers levels
whole rs r points =
    sym (total_last rs r points ∙ from_ground rs r points 0 r (zero-add r) (λ k l m. absurd (let no' : ⊥ = omega arith in no')))

-- ---- no more layers than points

-- one point more makes at most one level more, and none where it begins before a
one_more : (v : ℕ) (test : ℕ → Bool) (a n : ℕ) → length (those (λ k. either (eqb v k) (test k)) a n) ≤ length (those test a n) + holds (leb a v)
unfolding those pick either holds
one_more v test a zero = zero-le
one_more v test a (suc n) =
    go (test a) (eqb v a) (leb a v) (equated v a) (compared a v) (leb (suc a) v) (compared (suc a) v) (one_more v test (suc a) n)
  where
    later : (c d : Bool) → Compared a v c → Compared (suc a) v d → holds d ≤ holds c
    later true d q s = holds_le_one d
    later false false q s = zero-le
    later false true (above q) (below s) = absurd (let no' : ⊥ = omega arith in no')

    go : (t b c : Bool) → Equated v a b → Compared a v c → (d : Bool) → Compared (suc a) v d
        → length (those (λ k. either (eqb v k) (test k)) (suc a) n) ≤ length (those test (suc a) n) + holds d
        → length (pick (either b t) (a ∷ those (λ k. either (eqb v k) (test k)) (suc a) n) (those (λ k. either (eqb v k) (test k)) (suc a) n)) ≤ length (pick t (a ∷ those test (suc a) n) (those test (suc a) n)) + holds c
    go t true false (same p) (above q) d s h = absurd (let no' : ⊥ = omega arith in no')
    go t true true (same p) q true (below s) h = absurd (let no' : ⊥ = omega arith in no')
    go true true true p q false s h = omega (arith, h)
    go false true true p q false s h = omega (arith, h)
    go true false c p q d s h = omega (arith, h, later c d q s)
    go false false c p q d s h = omega (arith, h, later c d q s)

pub those_none : (a n : ℕ) → those (λ k. false) a n ≡ []
unfolding those pick
those_none a zero = refl
those_none a (suc n) = those_none (suc a) n

begins_few : (axes : ℕ) (points : List (List ℕ)) (a n : ℕ) → length (those (begins axes points) a n) ≤ length points
unfolding begins
begins_few axes [] a n = rw (those_none a n) zero-le
begins_few axes (p ∷ points) a n =
    omega (arith, one_more (get_or p axes 0) (begins axes points) a n, begins_few axes points a n, holds_le_one (leb a (get_or p axes 0)))

layers_many : (rs : List ℕ) (r : ℕ) (points : List (List ℕ)) (zs : List ℕ) → length (layers_at rs r points zs) ≡ length zs
unfolding layers_at
layers_many rs r points [] = refl
layers_many rs r points (z ∷ zs) = ap suc (layers_many rs r points zs)

few : (rs : List ℕ) (r : ℕ) (points : List (List ℕ)) → length (layers rs r points) ≤ length points
unfolding layers levels
few rs r points = rw (layers_many rs r points (those (begins (length rs) points) 0 r)) (begins_few (length rs) points 0 r)

-- ---- how large a layer can be

pub record Fits (wide high : ℕ) (l : Layer) : Type 0 where
  pub area : l.area ≤ wide
  pub height : l.height ≤ high

unfoldable pub AllFit : (wide high : ℕ) → List Layer → Type 0
AllFit wide high [] = Unit {0}
AllFit wide high (l ∷ ls) = Fits wide high l × AllFit wide high ls

next_most : (test : ℕ → Bool) (a n r : ℕ) → a + n ≤ r → next_level (those test a n) r ≤ r
unfolding those next_level pick
next_most test a zero r h = omega arith
next_most test a (suc n) r h = go (test a) (next_most test (suc a) n r (omega arith))
  where
    go : (b : Bool) → next_level (those test (suc a) n) r ≤ r → next_level (pick b (a ∷ those test (suc a) n) (those test (suc a) n)) r ≤ r
    go true k = omega arith
    go false k = k

area_most : (rs : List ℕ) (points : List (List ℕ)) (z : ℕ) → area_at rs points z ≤ box rs
unfolding area_at
area_most rs points z = count_le_box rs (λ c. leb 1 (cover points (c ++ (z ∷ []))))

module _ (rs : List ℕ) (r : ℕ) (points : List (List ℕ)) {wide high : ℕ} (across : box rs ≤ wide) (up : r ≤ high) where
  fit : (test : ℕ → Bool) (a n : ℕ) → a + n ≤ r → AllFit wide high (layers_at rs r points (those test a n))
  unfolding AllFit layers_at those pick
  fit test a zero h = tt
  fit test a (suc n) h = go (test a) (fit test (suc a) n (omega arith))
    where
      here : Fits wide high (record { area = area_at rs points a; height = next_level (those test (suc a) n) r - a })
      here =
          record {
            area = omega (arith, area_most rs points a);
            height = omega (arith, next_most test (suc a) n r (let i : suc a + n ≤ r = omega arith in i));
          }

      go : (b : Bool) → AllFit wide high (layers_at rs r points (those test (suc a) n)) → AllFit wide high (layers_at rs r points (pick b (a ∷ those test (suc a) n) (those test (suc a) n)))
      go true k = (here, k)
      go false k = k

  pub layers_fit : AllFit wide high (layers rs r points)
  unfolding layers levels
  layers_fit = fit (begins (length rs) points) 0 r (omega arith)

pub add_up : LayersAddUp
add_up = record { whole = whole; few = few }
