-- `limits`: on each axis the second least of the offers that the points make.
use Prim.Native.Nat.{ℕ, zero, suc, ◌+◌, ◌≤◌, ◌<◌, max, min}
use mathlib.Core.Path.{◌≡◌, refl, ap, ◌∙◌}
use mathlib.Core.Bool.{Bool, true, false}
use mathlib.Core.List.{List, ◌∷◌, ◌++◌, []}
use native.Mathlib.Decide.{dec_le}
use native.Mathlib.Nat.{le_trans}
use native.Mathlib.Numerals.{add-one}
use native.Mathlib.Omega.{arith}
use lib.Dec.{leb}
use lib.ListN.{length, take, drop, get_or, set, replicate, length-set, get_or-replicate, take-append-drop}
use lib.Seq.{take-suc, get_or-set_same, get_or-set_other}
use borrow.Author.Tests.{leb-true, le-leb}
use Rattle.slices.specs.Choices.{pick}
use Rattle.hypervolume.specs.Cells.{holds, dominates, join}
use Rattle.hypervolume.specs.Counts.{cover}
use Rattle.hypervolume.specs.Axes.{axes_within}
use Rattle.hypervolume.proofs.Points.{axes_most}
use Rattle.slices.proofs.Choices.{both_true, both_intro}
use Rattle.hypervolume.proofs.Tests.{holds_implied}
use Rattle.hypervolume.proofs.Dominance.{cover_append}
use Rattle.hypervolume.proofs.Skips.{dominates_self}
use Rattle.corners.specs.Limits.{offer, Offered, Limits}

-- `Offers::with`, axis by axis.
pub record Offering (least₀ second₀ t u least second : List ℕ) (axis : ℕ) : Type 0 where
  pub within : axis ≤ 3
  pub least_long : length least ≡ 3
  pub second_long : length second ≡ 3
  pub offered : Offered least₀ second₀ t u least second axis

-- One more place written.
set_upto : (f : ℕ → ℕ) (l : List ℕ) (k v : ℕ) → k < length l → v ≡ f k → ((a : ℕ) → a < k → get_or l a 0 ≡ f a) → (a : ℕ) → a < k + 1 → get_or (set l k v) a 0 ≡ f a
set_upto f l k v p e h a q = go (dec_le (suc a) k)
  where
    go : Dec (a < k) → get_or (set l k v) a 0 ≡ f a
    go (yes b) = get_or-set_other l k a v 0 (λ g. omega arith) ∙ h a b
    go (no b) = let last : a ≡ k = omega arith in rw (last, get_or-set_same l k v 0 p) e

pub offering_more : {least₀ second₀ t u least second : List ℕ} {axis n low high middle : ℕ} → Offering least₀ second₀ t u least second axis → axis < 3 → n ≡ offer t u axis → low ≡ min (get_or least₀ axis 0) n → high ≡ max (get_or least₀ axis 0) n → middle ≡ min (get_or second₀ axis 0) high → Offering least₀ second₀ t u (set least axis low) (set second axis middle) (axis + 1)
offering_more {least₀} {second₀} {t} {u} {least} {second} {axis} {n} {low} {high} {middle} h l e f g q =
    record {
      within = omega arith;
      least_long = length-set least axis low ∙ h.least_long;
      second_long = length-set second axis middle ∙ h.second_long;
      offered =
          record {
            on_least =
                set_upto (λ a. min (get_or least₀ a 0) (offer t u a)) least axis low (omega (arith, h.least_long))
                (f ∙ ap (min (get_or least₀ axis 0)) e) h.offered.on_least;
            on_second =
                set_upto (λ a. min (get_or second₀ a 0) (max (get_or least₀ a 0) (offer t u a))) second axis middle
                (omega (arith, h.second_long)) (q ∙ ap (min (get_or second₀ axis 0)) (g ∙ ap (max (get_or least₀ axis 0)) e))
                h.offered.on_second;
          };
    }

-- A limit that is raised loses no point.
raised_dominates : (p u : List ℕ) (a m n : ℕ) → m ≤ n → dominates p (set u a m) ≡ true → dominates p (set u a n) ≡ true
unfolding dominates
raised_dominates [] u a m n l d = refl
raised_dominates (x ∷ p) [] a m n l d = refl
raised_dominates (x ∷ p) (y ∷ u) zero m n l d =
    let d' = both_true (leb x m) (dominates p u) d in
    both_intro (leb x n) (dominates p u) (le-leb x n (le_trans (leb-true x m d'.0) l)) d'.1
raised_dominates (x ∷ p) (y ∷ u) (suc a) m n l d =
    let d' = both_true (leb x y) (dominates p (set u a m)) d in
    both_intro (leb x y) (dominates p (set u a n)) d'.0 (raised_dominates p u a m n l d'.1)

raised_cover : (trials : List (List ℕ)) (u : List ℕ) (a m n : ℕ) → m ≤ n → cover trials (set u a m) ≤ cover trials (set u a n)
unfolding cover
raised_cover [] u a m n l = omega arith
raised_cover (t ∷ trials) u a m n l =
    omega (arith, holds_implied (dominates t (set u a m)) (dominates t (set u a n)) (raised_dominates t u a m n l), raised_cover trials u a m n l)

-- What makes an offer is at most u moved along the axis to it.
moved_back : (t u : List ℕ) (a : ℕ) → dominates (set t a 0) u ≡ true → dominates t (set u a (get_or t a 0)) ≡ true
unfolding dominates
moved_back [] u a d = refl
moved_back (x ∷ t) [] a d = refl
moved_back (x ∷ t) (y ∷ u) zero d =
    both_intro (leb x x) (dominates t u) (le-leb x x (omega arith)) (both_true (leb 0 y) (dominates t u) d).1
moved_back (x ∷ t) (y ∷ u) (suc a) d =
    let d' = both_true (leb x y) (dominates (set t a 0) u) d in
    both_intro (leb x y) (dominates t (set u a (get_or t a 0))) d'.0 (moved_back t u a d'.1)

offer_made : (t u : List ℕ) (a : ℕ) → offer t u a < 1048576 → dominates t (set u a (offer t u a)) ≡ true
unfolding offer pick
offer_made t u a l = go (dominates (set t a 0) u) refl l
  where
    go : (b : Bool) → dominates (set t a 0) u ≡ b → pick b (get_or t a 0) 1048576 < 1048576 → dominates t (set u a (pick b (get_or t a 0) 1048576)) ≡ true
    go true e m = moved_back t u a e
    go false e m = absurd (let no' : ⊥ = omega arith in no')

-- What the two least offers on the axis a say of the points passed.
pub record TwoLeast (passed : List (List ℕ)) (u : List ℕ) (a least second : ℕ) : Type 0 where
  pub one : least < 1048576 → 1 ≤ cover passed (set u a least)
  pub two : second < 1048576 → 2 ≤ cover passed (set u a second)

two_least_none : {passed : List (List ℕ)} {u : List ℕ} {a : ℕ} → TwoLeast passed u a 1048576 1048576
two_least_none =
    record {
      one = λ l. absurd (let no' : ⊥ = omega arith in no');
      two = λ l. absurd (let no' : ⊥ = omega arith in no');
    }

-- A point more takes nothing away.
later : (passed more : List (List ℕ)) (c : List ℕ) → cover passed c ≤ cover (passed ++ more) c
later passed more c = omega (arith, cover_append passed more c)

two_least_later : {passed : List (List ℕ)} {u : List ℕ} {a least second : ℕ} (t : List ℕ) → TwoLeast passed u a least second → TwoLeast (passed ++ (t ∷ [])) u a least second
two_least_later {passed} {u} {a} {least} {second} t h =
    record {
      one = λ l. omega (arith, h.one l, later passed (t ∷ []) (set u a least));
      two = λ l. omega (arith, h.two l, later passed (t ∷ []) (set u a second));
    }

two_least_more : {passed : List (List ℕ)} {u : List ℕ} {a least second : ℕ} (t : List ℕ) (n : ℕ) → TwoLeast passed u a least second → (n < 1048576 → dominates t (set u a n) ≡ true) → TwoLeast (passed ++ (t ∷ [])) u a (min least n) (min second (max least n))
unfolding cover holds
two_least_more {passed} {u} {a} {least} {second} t n h made =
    record { one = λ l. one l (dec_le least n); two = λ l. two l (dec_le second (max least n)) }
  where
    with_t : (limit : ℕ) → cover passed (set u a limit) + holds (dominates t (set u a limit)) ≤ cover (passed ++ (t ∷ [])) (set u a limit)
    with_t limit = omega (arith, cover_append passed (t ∷ []) (set u a limit))

    t_too : (limit : ℕ) → n ≤ limit → limit < 1048576 → holds (dominates t (set u a limit)) ≡ 1
    t_too limit l m = ap holds (raised_dominates t u a n limit l (made (omega arith)))

    one : min least n < 1048576 → Dec (least ≤ n) → 1 ≤ cover (passed ++ (t ∷ [])) (set u a (min least n))
    one l (yes m) =
        let same : min least n ≡ least = omega arith in
        rw same (omega (arith, with_t least, h.one (omega arith)))
    one l (no m) = let same : min least n ≡ n = omega arith in rw same (omega (arith, with_t n, t_too n (omega arith) (omega arith)))

    two : min second (max least n) < 1048576 → Dec (second ≤ max least n) → 2 ≤ cover (passed ++ (t ∷ [])) (set u a (min second (max least n)))
    two l (yes m) =
        let same : min second (max least n) ≡ second = omega arith in
        rw same (omega (arith, with_t second, h.two (omega arith)))
    two l (no m) =
        let same : min second (max least n) ≡ max least n = omega arith in
        rw same
        (omega (arith, with_t (max least n), t_too (max least n) (omega arith) (omega arith), h.one (omega arith), raised_cover passed u a least (max least n) (omega arith)))

-- The limits that they make.
pub join_at : (p q : List ℕ) (a : ℕ) → get_or (join p q) a 0 ≡ max (get_or p a 0) (get_or q a 0)
unfolding join
join_at [] q a = omega arith
join_at (x ∷ p) [] a = omega arith
join_at (x ∷ p) (y ∷ q) zero = refl
join_at (x ∷ p) (y ∷ q) (suc a) = join_at p q a

join_above : (p q : List ℕ) → dominates p (join p q) ≡ true
unfolding dominates join
join_above [] q = refl
join_above (x ∷ p) [] = dominates_self (x ∷ p)
join_above (x ∷ p) (y ∷ q) = both_intro (leb x (max x y)) (dominates p (join p q)) (le-leb x (max x y) (omega arith)) (join_above p q)

pub join_length : (p q : List ℕ) → length q ≡ length p → length (join p q) ≡ length p
unfolding join
join_length [] q e = e
join_length (x ∷ p) [] e = refl
join_length (x ∷ p) (y ∷ q) e = ap suc (join_length p q (omega arith))

limits_later : {passed : List (List ℕ)} {u limit : List ℕ} (more : List (List ℕ)) → Limits passed u limit → Limits (passed ++ more) u limit
limits_later {passed} {u} {limit} more h =
    record {
      above = h.above;
      twice = λ a m l. omega (arith, h.twice a m l, later passed more (set u a (get_or limit a 0)));
    }

bounded : {passed : List (List ℕ)} {u : List ℕ} (least second : List ℕ) → ((a : ℕ) → a < length u → TwoLeast passed u a (get_or least a 0) (get_or second a 0)) → length second ≡ length u → Limits passed u (join u second)
bounded {passed} {u} least second h e =
    record {
      above = join_above u second;
      twice = λ a l m. rw (join_at u second a) (twice a (omega (arith, join_length u second e)) (rw (join_at u second a) at m));
    }
  where
    twice : (a : ℕ) → a < length u → max (get_or u a 0) (get_or second a 0) < 1048576 → 2 ≤ cover passed (set u a (max (get_or u a 0) (get_or second a 0)))
    twice a l m =
        omega (arith, (h a l).two (omega arith), raised_cover passed u a (get_or second a 0) (max (get_or u a 0) (get_or second a 0)) (omega arith))

-- The pass over the points.
pub record Bounding (points : List (List ℕ)) (u least second limit : List ℕ) (i : ℕ) : Type 0 where
  pub axes : length u ≡ 3
  pub within : i ≤ length points
  pub on : (a : ℕ) → a < length u → TwoLeast (take i points) u a (get_or least a 0) (get_or second a 0)
  pub limits : Limits (take i points) u limit

pub bounding_none : {points : List (List ℕ)} {u limit : List ℕ} → length u ≡ 3 → limit ≡ join u (replicate 3 1048576) → Bounding points u (replicate 3 1048576) (replicate 3 1048576) limit 0
bounding_none {points} {u} e f =
    record {
      axes = e;
      within = omega arith;
      on = on;
      limits = rw f (bounded (replicate 3 1048576) (replicate 3 1048576) on (omega arith));
    }
  where
    on : (a : ℕ) → a < length u → TwoLeast [] u a (get_or (replicate 3 1048576) a 0) (get_or (replicate 3 1048576) a 0)
    on a l = rw (get_or-replicate {A = ℕ} 3 a 1048576 0 (omega arith)) two_least_none

module _ {points : List (List ℕ)} {u least second limit : List ℕ} {i : ℕ} (h : Bounding points u least second limit i) where
  next : i < length points → take (i + 1) points ≡ take i points ++ (get_or points i [] ∷ [])
  next l = rw (add-one i) (take-suc points i [] l)

  -- A point may be passed over, and so may several.
  bounding_skip : i < length points → Bounding points u least second limit (i + 1)
  bounding_skip l =
      record {
        axes = h.axes;
        within = omega arith;
        on = λ a m. rw (next l) (two_least_later (get_or points i []) (h.on a m));
        limits = rw (next l) (limits_later (get_or points i [] ∷ []) h.limits);
      }

  pub bounding_more : {t least' second' limit' : List ℕ} → i < length points → t ≡ get_or points i [] → Offered least second t u least' second' 3 → length second' ≡ 3 → limit' ≡ join u second' → Bounding points u least' second' limit' (i + 1)
  bounding_more {t} {least'} {second'} l e offered long f =
      record {
        axes = h.axes;
        within = omega arith;
        on = on;
        limits = rw f (bounded least' second' on (omega (arith, h.axes)));
      }
    where
      on : (a : ℕ) → a < length u → TwoLeast (take (i + 1) points) u a (get_or least' a 0) (get_or second' a 0)
      on a m =
          let inside : a < 3 = omega (arith, h.axes) in
          rw (next l, ← e, offered.on_least a inside, offered.on_second a inside)
          (two_least_more t (offer t u a) (h.on a m) (offer_made t u a))

pub bounding_past : {points : List (List ℕ)} {u least second limit : List ℕ} (i r : ℕ) → Bounding points u least second limit i → i ≤ r → r ≤ length points → Bounding points u least second limit r
bounding_past i zero h l m = let none : i ≡ 0 = omega arith in rw (← none) h
bounding_past {points} {u} {least} {second} {limit} i (suc r) h l m = go (dec_le i r) (λ n. bounding_past i r h n (omega arith))
  where
    go : Dec (i ≤ r) → (i ≤ r → Bounding points u least second limit r) → Bounding points u least second limit (suc r)
    go (yes n) before = rw (← (add-one r)) (bounding_skip (before n) (omega arith))
    go (no n) before = let last : i ≡ suc r = omega arith in rw (← last) h

pub axes_few : (p q : List ℕ) {n : ℕ} → length p ≡ 3 → n ≡ axes_within p q → n ≤ 3
axes_few p q e f = omega (arith, axes_most p q)

-- The limits of the first points are limits of all.
pub bounding_end : {points : List (List ℕ)} {u least second limit : List ℕ} {i : ℕ} → Bounding points u least second limit i → Limits points u limit
bounding_end {points} {i = i} h = rw (take-append-drop i points) at (limits_later (drop i points) h.limits)
