-- Laws of the least y: one key more, two tests together, what it tells; and of the loop that enters a y in a level.
use Prim.Native.Nat.{ℕ, ◌+◌, ◌-◌, ◌/◌, ◌*◌, ◌%◌, ◌≤◌, ◌<◌, min}
use mathlib.Core.Path.{◌≡◌, refl, sym, ap, subst, ◌∙◌}
use mathlib.Core.Bool.{Bool, true, false, not}
use mathlib.Core.Logic.{◌⊎◌, inl, inr}
use mathlib.Core.List.{List, ◌∷◌, ◌++◌, []}
use native.Mathlib.Numerals.{add-one}
use native.Mathlib.Omega.{arith}
use lib.Dec.{leb, ltb}
use lib.ListN.{length, get_or, set, take, drop, replicate, length-set, length-append, length-drop, length-replicate, get_or-replicate, get_or-append}
use lib.Seq.{get_or-set_same, get_or-set_other, take-suc, length-take-le, get_or-append-add}
use borrow.Author.Tests.{lt-ltb, le-ltb, le-leb, lt-leb}
use Rattle.std.specs.Int.{from_bool}
use Rattle.slices.specs.Choices.{both, either, pick}
use Rattle.slices.proofs.Spread.{zeros_at}
use Rattle.hypervolume.specs.Cells.{holds}
use Rattle.hypervolume.proofs.Tests.{by_order, holds_le_one}
use Rattle.order.specs.Order.{some}
use Rattle.front.specs.Keys.{InOrder, under, alone}
use Rattle.front.specs.Levels.{least_of, y_of, behind, Bounded, Extra, Lowered, Entered, Level, least_before, Empty}

module _ (y : ℕ → ℕ) where
  -- One key more, at the end.
  pub least_more : (test : ℕ → Bool) (keys : List ℕ) (k : ℕ) → least_of test y (keys ++ (k ∷ [])) ≡ pick (test k) (min (y k) (least_of test y keys)) (least_of test y keys)
  unfolding least_of pick
  least_more test [] k = refl
  least_more test (a ∷ keys) k = go (test a) (test k) (least_more test keys k)
    where
      go : (s t : Bool) → least_of test y (keys ++ (k ∷ [])) ≡ pick t (min (y k) (least_of test y keys)) (least_of test y keys)
          → pick s (min (y a) (least_of test y (keys ++ (k ∷ [])))) (least_of test y (keys ++ (k ∷ [])))
          ≡ pick t (min (y k) (pick s (min (y a) (least_of test y keys)) (least_of test y keys))) (pick s (min (y a) (least_of test y keys)) (least_of test y keys))
      go true true e = omega (arith, e)
      go true false e = omega (arith, e)
      go false true e = e
      go false false e = e

  pub least_alike : (f g : ℕ → Bool) → ((k : ℕ) → f k ≡ g k) → (keys : List ℕ) → least_of f y keys ≡ least_of g y keys
  unfolding least_of
  least_alike f g e [] = refl
  least_alike f g e (k ∷ keys) = rw (e k, least_alike f g e keys)

  -- Two tests together.
  pub least_either : (f g : ℕ → Bool) (keys : List ℕ) → min (least_of f y keys) (least_of g y keys) ≡ least_of (λ k. either (f k) (g k)) y keys
  unfolding least_of pick either
  least_either f g [] = refl
  least_either f g (k ∷ keys) = go (f k) (g k) (least_either f g keys)
    where
      go : (s t : Bool) → min (least_of f y keys) (least_of g y keys) ≡ least_of (λ k. either (f k) (g k)) y keys
          → min (pick s (min (y k) (least_of f y keys)) (least_of f y keys)) (pick t (min (y k) (least_of g y keys)) (least_of g y keys))
          ≡ pick (either s t) (min (y k) (least_of (λ k. either (f k) (g k)) y keys)) (least_of (λ k. either (f k) (g k)) y keys)
      go true true e = omega (arith, e)
      go true false e = omega (arith, e)
      go false true e = omega (arith, e)
      go false false e = e

  -- It is more than v just when no key that passes has a y of at most v.
  pub least_tells : (test : ℕ → Bool) (v : ℕ) → v < 2097152 → (keys : List ℕ) → ltb v (least_of test y keys) ≡ not (some (λ k. both (test k) (leb (y k) v)) keys)
  unfolding least_of pick some both either
  least_tells test v l [] = lt-ltb v 2097152 l
  least_tells test v l (k ∷ keys) = go (test k) (least_tells test v l keys)
    where
      go : (t : Bool) → ltb v (least_of test y keys) ≡ not (some (λ k. both (test k) (leb (y k) v)) keys)
          → ltb v (pick t (min (y k) (least_of test y keys)) (least_of test y keys)) ≡ not (either (both t (leb (y k) v)) (some (λ k. both (test k) (leb (y k) v)) keys))
      go true e =
          by_order (y k) v
          (λ a. rw (le-leb (y k) v a) (le-ltb v (min (y k) (least_of test y keys)) (omega arith)))
          (λ a. rw (lt-leb (y k) v a) (cut a ∙ e))
        where
          cut : v < y k → ltb v (min (y k) (least_of test y keys)) ≡ ltb v (least_of test y keys)
          cut a =
              by_order (least_of test y keys) v
              (λ b. le-ltb v (min (y k) (least_of test y keys)) (omega arith) ∙ sym (le-ltb v (least_of test y keys) b))
              (λ b. lt-ltb v (min (y k) (least_of test y keys)) (omega arith) ∙ sym (lt-ltb v (least_of test y keys) b))
      go false e = e

-- One key more, entered in a level.
pub level_more : (place : ℕ → ℕ) (points : List (List ℕ)) (taken level new : List ℕ) (k : ℕ) → Level place points taken level → Lowered level (place k) (y_of points k) new
    → Level place points (taken ++ (k ∷ [])) new
level_more place points taken level new k h l =
    record {
      each = λ v s.
          l.each v ∙ ap (λ n. pick (behind (place k) v) (min (y_of points k) n) n) (h.each v (omega (arith, l.long)))
          ∙ sym (least_more (y_of points) (λ a. behind (place a) v) taken k);
    }

behind_off : (a g : ℕ) → (g ≤ a) ⊎ (a / 8 * 8 + 8 ≤ g) → behind a g ≡ false
unfolding behind both
behind_off a g (inl l) = go (leb (g / 8 * 8) a)
  where
    go : (t : Bool) → both t (ltb a g) ≡ false
    go true = le-ltb a g l
    go false = refl
behind_off a g (inr l) = rw (lt-leb (g / 8 * 8) a (omega arith))

behind_on : (a g : ℕ) → a < g → g / 8 * 8 ≤ a → behind a g ≡ true
unfolding behind both
behind_on a g l m = rw (le-leb (g / 8 * 8) a m, lt-ltb a g l)

-- The three levels part the places before g.
levels_part : (a g : ℕ) → a < 512 → g < 512 → either (behind (a / 64) (g / 64)) (either (behind (a / 8) (g / 8)) (behind a g)) ≡ ltb a g
unfolding either
levels_part a g i j =
    by_order g a
    (λ l. rw (behind_off (a / 64) (g / 64) (inl (omega arith)), behind_off (a / 8) (g / 8) (inl (omega arith)), behind_off a g (inl l)) (sym (le-ltb a g l)))
    (λ l. by_order (g / 64) (a / 64)
    (λ m. by_order (g / 8) (a / 8)
    (λ n. rw (behind_off (a / 64) (g / 64) (inl m), behind_off (a / 8) (g / 8) (inl n), behind_on a g l (omega arith)) (sym (lt-ltb a g l)))
    (λ n. rw (behind_off (a / 64) (g / 64) (inl m), behind_on (a / 8) (g / 8) n (omega arith)) (sym (lt-ltb a g l))))
    (λ m. rw (behind_on (a / 64) (g / 64) m (omega arith)) (sym (lt-ltb a g l))))

-- What the three levels tell of the key k.
pub levels_tell : (points : List (List ℕ)) (taken high middle low : List ℕ) (k : ℕ)
    → length high ≡ 8 → length middle ≡ 64 → length low ≡ 512
    → Level (λ a. a % 512 / 64) points taken high → Level (λ a. a % 512 / 8) points taken middle → Level (λ a. a % 512) points taken low
    → min (get_or high (k % 512 / 64) 0) (min (get_or middle (k % 512 / 8) 0) (get_or low (k % 512) 0)) ≡ least_before points taken (k % 512)
levels_tell points taken high middle low k a b c h m l =
    rw (h.each (k % 512 / 64) (omega arith), m.each (k % 512 / 8) (omega arith), l.each (k % 512) (omega arith))
    (ap (min (least_of (λ n. behind (n % 512 / 64) (k % 512 / 64)) (y_of points) taken)) (least_either (y_of points) (λ n. behind (n % 512 / 8) (k % 512 / 8)) (λ n. behind (n % 512) (k % 512)) taken)
    ∙ least_either (y_of points) (λ n. behind (n % 512 / 64) (k % 512 / 64)) (λ n. either (behind (n % 512 / 8) (k % 512 / 8)) (behind (n % 512) (k % 512))) taken
    ∙ least_alike (y_of points) _ (λ n. ltb (n % 512) (k % 512)) (λ n. levels_part (n % 512) (k % 512) (omega arith) (omega arith)) taken)

-- A key counts where none taken before is under it.
pub counts_alone : (points : List (List ℕ)) (taken : List ℕ) (k : ℕ) → y_of points k < 2097152
    → ltb (y_of points k) (least_before points taken (k % 512)) ≡ not (some (λ b. under points b k) taken)
unfolding under
counts_alone points taken k s = least_tells (y_of points) (λ b. ltb (b % 512) (k % 512)) (y_of points k) s taken

pub least_bound : (test : ℕ → Bool) (y : ℕ → ℕ) (keys : List ℕ) → least_of test y keys ≤ 2097152
unfolding least_of pick
least_bound test y [] = omega arith
least_bound test y (k ∷ keys) = go (test k) (least_bound test y keys)
  where
    go : (t : Bool) → least_of test y keys ≤ 2097152 → pick t (min (y k) (least_of test y keys)) (least_of test y keys) ≤ 2097152
    go true l = omega (arith, l)
    go false l = l

pub level_bounded : {place : ℕ → ℕ} {points : List (List ℕ)} {taken level : List ℕ} → Level place points taken level → Bounded level
level_bounded {place} {points} {taken} h v l =
    rw (h.each v l) (least_bound (λ k. behind (place k) v) (y_of points) taken)

-- The loop that enters a y: the first n of the eight are done.
pub record Lowering (old : List ℕ) (at y n : ℕ) (now : List ℕ) : Type 0 where
  pub part : n ≤ 8
  pub long : length now ≡ length old
  pub done : (v : ℕ) → v < at / 8 * 8 + n → get_or now v 0 ≡ pick (behind at v) (min y (get_or old v 0)) (get_or old v 0)
  pub ahead : (v : ℕ) → at / 8 * 8 + n ≤ v → get_or now v 0 ≡ get_or old v 0

not_behind : (at v n o : ℕ) → (v ≤ at) ⊎ (at / 8 * 8 + 8 ≤ v) → pick (behind at v) n o ≡ o
unfolding pick
not_behind at v n o l = rw (behind_off at v l)

pub lowering_none : (old : List ℕ) (at y : ℕ) → Lowering old at y 0 old
lowering_none old at y =
    record {
      part = omega arith;
      long = refl;
      done = λ v l. sym (not_behind at v (min y (get_or old v 0)) (get_or old v 0) (inl (omega arith)));
      ahead = λ v l. refl;
    }

is_behind : (at v n o : ℕ) → at < v → v / 8 * 8 ≤ at → pick (behind at v) n o ≡ n
unfolding pick
is_behind at v n o l k = rw (behind_on at v l k)

pub lowering_more : {old : List ℕ} {at y n : ℕ} {now table : List ℕ} (v m : ℕ) → Bounded old → Extra table → Lowering old at y n now → n < 8 → v ≡ at / 8 * 8 + n → v < length old
    → m ≡ min (y + get_or table (7 - at % 8 + n) 0) (get_or now v 0) → Lowering old at y (n + 1) (set now v m)
lowering_more {old} {at} {y} {n} {now} {table} v m b p h l e s f =
    record {
      part = omega arith;
      long = length-set now v m ∙ h.long;
      done = λ u a.
          by_order v u
          (λ b. let q : u ≡ v = omega arith in
          rw q (get_or-set_same now v m 0 (omega (arith, h.long)) ∙ f ∙ ap (min (y + get_or table (7 - at % 8 + n) 0)) (h.ahead v (omega arith)) ∙ here))
          (λ b. get_or-set_other now v u m 0 (λ q. omega arith) ∙ h.done u (omega arith));
      ahead = λ u a. get_or-set_other now v u m 0 (λ q. omega arith) ∙ h.ahead u (omega arith);
    }
  where
    here : min (y + get_or table (7 - at % 8 + n) 0) (get_or old v 0) ≡ pick (behind at v) (min y (get_or old v 0)) (get_or old v 0)
    here =
        by_order v at
        (λ a. (let q : min (y + get_or table (7 - at % 8 + n) 0) (get_or old v 0) ≡ get_or old v 0 = omega (arith, p.up_to (7 - at % 8 + n) (omega arith), b v s) in q) ∙ sym (not_behind at v (min y (get_or old v 0)) (get_or old v 0) (inl a)))
        (λ a. (let q : min (y + get_or table (7 - at % 8 + n) 0) (get_or old v 0) ≡ min y (get_or old v 0) = omega (arith, p.further (7 - at % 8 + n) (omega arith)) in q) ∙ sym (is_behind at v (min y (get_or old v 0)) (get_or old v 0) a (omega arith)))

pub lowering_end : {old : List ℕ} {at y n : ℕ} {now : List ℕ} → Lowering old at y n now → 8 ≤ n → Lowered old at y now
lowering_end {old} {at} {y} {n} {now} h l =
    record {
      long = h.long;
      each = λ v.
          by_order (at / 8 * 8 + n) v
          (λ a. h.ahead v a ∙ sym (not_behind at v (min y (get_or old v 0)) (get_or old v 0) (inr (omega arith))))
          (λ a. h.done v a);
    }

-- The loop over the keys.
pub record Counting (points : List (List ℕ)) (keys : List ℕ) (i : ℕ) (high middle low : List ℕ) (unbeaten : ℕ) : Type 0 where
  pub part : i ≤ length keys
  pub high_long : length high ≡ 8
  pub middle_long : length middle ≡ 64
  pub low_long : length low ≡ 512
  pub in_high : Level (λ k. k % 512 / 64) points (take i keys) high
  pub in_middle : Level (λ k. k % 512 / 8) points (take i keys) middle
  pub in_low : Level (λ k. k % 512) points (take i keys) low
  pub so_far : unbeaten ≡ alone points keys i
  pub few : unbeaten ≤ i

level_empty : (n : ℕ) (place : ℕ → ℕ) (points : List (List ℕ)) (level : List ℕ) → Empty n level → Level place points [] level
unfolding least_of
level_empty n place points level e = record { each = λ v s. e.each v (omega (arith, e.long)) }

pub counting_none : (points : List (List ℕ)) (keys high middle low : List ℕ) → Empty 8 high → Empty 64 middle → Empty 512 low → Counting points keys 0 high middle low 0
counting_none points keys high middle low h m l =
    record {
      part = omega arith;
      high_long = h.long;
      middle_long = m.long;
      low_long = l.long;
      in_high = level_empty 8 _ points high h;
      in_middle = level_empty 64 _ points middle m;
      in_low = level_empty 512 _ points low l;
      so_far = unfold alone in refl;
      few = omega arith;
    }

pub counting_more : {points : List (List ℕ)} {keys : List ℕ} {i : ℕ} {high middle low : List ℕ} {unbeaten : ℕ} {high_after middle-after low-after : List ℕ} {r : ℕ} (g y : ℕ)
    → InOrder points → Counting points keys i high middle low unbeaten → i < length keys → g ≡ get_or keys i 0 % 512 → y ≡ y_of points (get_or keys i 0)
    → Entered high middle low g y r high_after middle-after low-after → Counting points keys (i + 1) high_after middle-after low-after (unbeaten + r)
counting_more {points} {keys} {i} {high} {middle} {low} {unbeaten} {high_after} {middle-after} {low-after} {r} g y o h l e f n =
    record {
      part = omega arith;
      high_long = n.in_high.long ∙ h.high_long;
      middle_long = n.in_middle.long ∙ h.middle_long;
      low_long = n.in_low.long ∙ h.low_long;
      in_high = subst (λ t. Level (λ k. k % 512 / 64) points t high_after) next (level_more (λ k. k % 512 / 64) points (take i keys) high high_after (get_or keys i 0) h.in_high (entered (λ q. q / 64) high high_after n.in_high));
      in_middle = subst (λ t. Level (λ k. k % 512 / 8) points t middle-after) next (level_more (λ k. k % 512 / 8) points (take i keys) middle middle-after (get_or keys i 0) h.in_middle (entered (λ q. q / 8) middle middle-after n.in_middle));
      in_low = subst (λ t. Level (λ k. k % 512) points t low-after) next (level_more (λ k. k % 512) points (take i keys) low low-after (get_or keys i 0) h.in_low (entered (λ q. q) low low-after n.in_low));
      so_far = rw (add-one i) (unfold alone in (let z : unbeaten + r ≡ alone points keys i + holds (not (some (λ b. under points b (get_or keys i 0)) (take i keys))) = omega (arith, h.so_far, told) in z));
      few = omega (arith, h.few, told, holds_le_one (not (some (λ b. under points b (get_or keys i 0)) (take i keys))));
    }
  where
    next : take i keys ++ (get_or keys i 0 ∷ []) ≡ take (i + 1) keys
    next = sym (ap (λ m. take m keys) (add-one i) ∙ take-suc keys i 0 l)

    entered : (q : ℕ → ℕ) (old new : List ℕ) → Lowered old (q g) y new → Lowered old (q (get_or keys i 0 % 512)) (y_of points (get_or keys i 0)) new
    entered q old new w = rw (← f, ← e) w

    told : r ≡ holds (not (some (λ b. under points b (get_or keys i 0)) (take i keys)))
    told =
        n.told ∙ ap (λ m. holds (ltb y m)) {y = least_before points (take i keys) (get_or keys i 0 % 512)} (rw e (levels_tell points (take i keys) high middle low (get_or keys i 0) h.high_long h.middle_long h.low_long h.in_high h.in_middle h.in_low))
        ∙ ap holds (rw f (counts_alone points (take i keys) (get_or keys i 0) (omega (arith, o.small (get_or keys i 0 % 512) 1))))

pub entered_one : {high middle low : List ℕ} {g y r : ℕ} {high_after middle-after low-after : List ℕ} → Entered high middle low g y r high_after middle-after low-after → r ≤ 1
entered_one {high} {middle} {low} {g} {y} n = omega (arith, n.told, holds_le_one (ltb y (min (get_or high (g / 64) 0) (min (get_or middle (g / 8) 0) (get_or low g 0)))))

-- A test as the code counts it.
pub counted : (t : Bool) → from_bool t ≡ holds t
unfolding holds
counted true = refl
counted false = refl

-- Levels as they are at first.
pub empty_level : (n : ℕ) → Empty n (replicate n 2097152)
empty_level n = record { long = length-replicate n 2097152; each = λ v l. get_or-replicate n v 2097152 0 l }

-- What is put on a y, as it is written out.
pub extra_table : Extra (replicate 8 2097152 ++ replicate 7 0)
extra_table =
    record {
      long = refl;
      up_to = λ j l. get_or-append (replicate 8 2097152) (replicate 7 0) 0 j l ∙ get_or-replicate 8 j 2097152 0 l;
      further = λ j l. subst (λ i. ◌≡◌ {A = ℕ} (get_or (replicate 8 2097152 ++ replicate 7 0) i 0) 0) (let e : 8 + (j - 8) ≡ j = omega (arith, l) in e)
          (get_or-append-add (replicate 8 2097152) (replicate 7 0) (j - 8) 0 ∙ zeros_at 7 (j - 8));
    }

-- Every place emptied.
pub emptied : (level : List ℕ) (n : ℕ) → level ≡ replicate n 2097152 → Empty n level
emptied level n e = subst (Empty n) (sym e) (empty_level n)

-- A list whose first part was written over, then emptied.
pub empty_over : (whole : List ℕ) (m : ℕ) (first level : List ℕ) → length whole ≡ 512 → m ≤ 512 → length first ≡ length (take m whole) → Empty (length (first ++ drop m whole)) level → Empty 512 level
empty_over whole m first level a l b e = subst (λ n. Empty n level) (omega (arith, length-append first (drop m whole), length-drop m whole, length-take-le m whole (omega (arith, a, l)), a, l, b)) e
