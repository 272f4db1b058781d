-- The loop that makes the keys: the best point so far beats all that are left out; and keys as they come can be ordered.
use Prim.Native.Nat.{ℕ, zero, suc, ◌+◌, ◌-◌, ◌*◌, ◌%◌, ◌≤◌, ◌<◌}
use mathlib.Core.Path.{◌≡◌, refl, sym, ap, subst, ◌∙◌}
use mathlib.Core.Bool.{Bool, true, false}
use mathlib.Core.List.{List, ◌∷◌, ◌++◌, []}
use native.Mathlib.Numerals.{add-one}
use native.Mathlib.Omega.{arith}
use lib.Dec.{leb, ltb, eqb}
use lib.ListN.{length, get_or, set, take, length-set, length-append, get_or-append}
use lib.Seq.{take-suc-set, get_or-append_seam}
use borrow.Author.Tests.{leb-true, ltb-true, eqb-true, eq-eqb, ne_eqb, le-leb}
use Rattle.slices.specs.Choices.{both, either, pick}
use Rattle.slices.proofs.Choices.{both_true}
use Rattle.hypervolume.proofs.Tests.{by_order}
use Rattle.order.specs.Order.{some, Orderable, Ordered}
use Rattle.front.specs.Keys.{x_at, y_at, standing, InOrder, first_at, key_at, over, Sieved, nothing, kept, left}
use Rattle.front.specs.Levels.{Placed}
use Rattle.front.specs.declared.Seen.{Seen}
use Rattle.order.proofs.Somes.{Found, found, some_at, some_append, some_ordered}
use Rattle.front.proofs.Places.{over_is, first_low, first_rises, small_at, key_place, key_x, key_y}

-- A key kept is the one of the best.
pub record BestKept (points : List (List ℕ)) (best : Seen) (keys : List ℕ) : Type 0 where
  pub x_low : best.x ≤ 2097152
  pub y_low : best.y ≤ 2097152
  pub place : best.first < 512
  pub there : best.x < 2097152 → some (λ k. eqb k (best.x * 512 + best.first)) keys ≡ true
  pub y_is : best.x < 2097152 → y_at points best.first ≡ best.y

pub record Sieving (points : List (List ℕ)) (size : ℕ) (best : Seen) (stood first m i : ℕ) (keys : List ℕ) : Type 0 where
  pub part : i ≤ length points
  pub few : m ≤ i
  pub room : length points ≤ size
  pub long : length keys ≡ size
  pub sieved : Sieved points i (take m keys)
  pub stood_none : i ≡ 0 → 9223372036854775808 ≤ stood
  pub stood_at : (j : ℕ) → i ≡ suc j → stood ≡ standing points j
  pub first_is : (j : ℕ) → i ≡ suc j → first ≡ first_at points j
  pub best_kept : BestKept points best (take m keys)

pub sieving_none : (points : List (List ℕ)) (keys : List ℕ) → length points ≤ length keys
    → Sieving points (length keys) (record { x = 2097152; y = 2097152; first = 0 }) 9223372036854775808 0 0 0 keys
sieving_none points keys l =
    record {
      part = omega arith;
      few = omega arith;
      room = l;
      long = refl;
      sieved = nothing;
      stood_none = λ e. omega arith;
      stood_at = λ j e. absurd (let z : ⊥ = omega arith in z);
      first_is = λ j e. absurd (let z : ⊥ = omega arith in z);
      best_kept =
          record {
            x_low = omega arith;
            y_low = omega arith;
            place = omega arith;
            there = λ s. absurd (let z : ⊥ = omega arith in z);
            y_is = λ s. absurd (let z : ⊥ = omega arith in z);
          };
    }

module _ {points : List (List ℕ)} {size : ℕ} {best : Seen} {stood first m i : ℕ} {keys : List ℕ} (h : Sieving points size best stood first m i keys) (o : InOrder points) (l : i < length points) where
  -- Where the equals of the next point begin.
  pub begins : pick (eqb stood (standing points i)) first i ≡ first_at points i
  begins = go i refl
    where
      go : (n : ℕ) → i ≡ n → pick (eqb stood (standing points i)) first i ≡ first_at points i
      go zero e =
          unfold pick first_at in rw (ne_eqb stood (standing points i) (λ q. apart q e), e)
        where
          apart : stood ≡ standing points i → i ≡ 0 → ⊥
          apart q z = omega (arith, h.stood_none z, small_at points o i 0, small_at points o i 1, small_at points o i 2)
      go (suc j) e =
          unfold first_at in rw (h.stood_at j e, h.first_is j e, e)

  module _ (f : ℕ) (e : f ≡ first_at points i) where
    key_is : x_at points i * 512 + f ≡ key_at points i
    key_is = ap (λ n. x_at points i * 512 + n) e

    low : f < 512
    low = omega (arith, e, first_low points o i, o.few)

    next_first : (j : ℕ) → i + 1 ≡ suc j → f ≡ first_at points j
    next_first j q = e ∙ ap (first_at points) (let z : i ≡ j = omega arith in z)

    next_stood : (j : ℕ) → i + 1 ≡ suc j → standing points i ≡ standing points j
    next_stood j q = ap (standing points) (let z : i ≡ j = omega arith in z)

    -- Left out: the best beats it.
    best_over : best.first < f → best.x ≤ x_at points i → best.y ≤ y_at points i → some (λ b. over points b (key_at points i)) (take m keys) ≡ true
    best_over a b c =
        let k : BestKept points best (take m keys) = h.best_kept in
        let s : best.x < 2097152 = omega (arith, small_at points o i 0) in
        let n : Found (λ k. eqb k (best.x * 512 + best.first)) (take m keys) = found _ (take m keys) (k.there s) in
        let q : get_or (take m keys) n.at 0 ≡ best.x * 512 + best.first = eqb-true _ _ n.passes in
        let r : best.first < 512 = k.place in
        let p : get_or (take m keys) n.at 0 % 512 ≡ best.first = omega arith in
        some_at (λ b. over points b (key_at points i)) (take m keys) n.at n.within
        (over_is points (get_or (take m keys) n.at 0) (key_at points i)
        (record {
          x = omega (arith, key_x points o i l);
          place = omega (arith, key_place points o i l, e);
          y = omega (arith, ap (y_at points) p, k.y_is s, key_y points o i l);
        }))

    pub sieving_leave : both (ltb best.first f) (both (leb best.x (x_at points i)) (leb best.y (y_at points i))) ≡ true → Sieving points size best (standing points i) f m (i + 1) keys
    sieving_leave t =
        let first = both_true (ltb best.first f) _ t in
        let second = both_true (leb best.x (x_at points i)) _ first.1 in
        record {
          part = omega arith;
          few = omega (arith, h.few);
          room = h.room;
          long = h.long;
          sieved = subst (λ n. Sieved points n (take m keys)) (sym (add-one i)) (left h.sieved (best_over (ltb-true _ _ first.0) (leb-true _ _ second.0) (leb-true _ _ second.1)));
          stood_none = λ z. absurd (let n : ⊥ = omega arith in n);
          stood_at = next_stood;
          first_is = next_first;
          best_kept = h.best_kept;
        }

    -- Kept.
    longer : take (m + 1) (set keys m (x_at points i * 512 + f)) ≡ take m keys ++ (key_at points i ∷ [])
    longer =
        ap (λ n. take n (set keys m (x_at points i * 512 + f))) (add-one m) ∙ take-suc-set keys m (x_at points i * 512 + f) (omega (arith, h.few, h.room, h.long))
        ∙ ap (λ k. take m keys ++ (k ∷ [])) key_is

    new_best : BestKept points (record { x = x_at points i; y = y_at points i; first = f }) (take m keys ++ (key_at points i ∷ []))
    new_best =
        record {
          x_low = omega (arith, small_at points o i 0);
          y_low = omega (arith, small_at points o i 1);
          place = low;
          there = λ s. some_append (λ k. eqb k (x_at points i * 512 + f)) (take m keys) (key_at points i ∷ []) ∙ last (some (λ k. eqb k (x_at points i * 512 + f)) (take m keys));
          y_is = λ s. ap (y_at points) (e ∙ sym (key_place points o i l)) ∙ key_y points o i l;
        }
      where
        at_last : some (λ k. eqb k (x_at points i * 512 + f)) (key_at points i ∷ []) ≡ true
        at_last = unfold some either in rw (eq-eqb (key_at points i) (x_at points i * 512 + f) (sym key_is))

        last : (t : Bool) → either t (some (λ k. eqb k (x_at points i * 512 + f)) (key_at points i ∷ [])) ≡ true
        last t = unfold either in go t
          where
            go : (t : Bool) → either t (some (λ k. eqb k (x_at points i * 512 + f)) (key_at points i ∷ [])) ≡ true
            go true = unfold either in refl
            go false = unfold either in at_last

    old_best : BestKept points best (take m keys ++ (key_at points i ∷ []))
    unfolding either
    old_best =
        let k : BestKept points best (take m keys) = h.best_kept in
        record {
          x_low = k.x_low;
          y_low = k.y_low;
          place = k.place;
          there = λ s. some_append (λ k. eqb k (best.x * 512 + best.first)) (take m keys) (key_at points i ∷ []) ∙ rw (k.there s);
          y_is = k.y_is;
        }

    pub sieving_keep : Sieving points size (pick (ltb (x_at points i + y_at points i) (best.x + best.y)) (record { x = x_at points i; y = y_at points i; first = f }) best) (standing points i) f (m + 1) (i + 1) (set keys m (x_at points i * 512 + f))
    sieving_keep =
        record {
          part = omega arith;
          few = omega (arith, h.few);
          room = h.room;
          long = length-set keys m (x_at points i * 512 + f) ∙ h.long;
          sieved = subst (λ n. Sieved points n (take (m + 1) (set keys m (x_at points i * 512 + f)))) (sym (add-one i)) (subst (Sieved points (suc i)) (sym longer) (kept h.sieved));
          stood_none = λ z. absurd (let n : ⊥ = omega arith in n);
          stood_at = next_stood;
          first_is = next_first;
          best_kept = subst (BestKept points (pick (ltb (x_at points i + y_at points i) (best.x + best.y)) (record { x = x_at points i; y = y_at points i; first = f }) best)) (sym longer) (chosen (ltb (x_at points i + y_at points i) (best.x + best.y)));
        }
      where
        chosen : (t : Bool) → BestKept points (pick t (record { x = x_at points i; y = y_at points i; first = f }) best) (take m keys ++ (key_at points i ∷ []))
        chosen true = unfold pick in new_best
        chosen false = unfold pick in old_best

  -- The same, with the next point's numbers as the code has them.
  module _ (x y now f : ℕ) (ex : x ≡ x_at points i) (ey : y ≡ y_at points i) (en : now ≡ standing points i) (ef : f ≡ pick (eqb stood now) first i) where
    pub found_first : f ≡ first_at points i
    found_first = ef ∙ ap (λ n. pick (eqb stood n) first i) en ∙ begins

    pub leave_at : both (ltb best.first f) (both (leb best.x x) (leb best.y y)) ≡ true → Sieving points size best now f m (i + 1) keys
    leave_at t = rw en (sieving_leave f found_first (rw (← ex, ← ey) t))

    pub keep_at : Sieving points size (pick (ltb (x + y) (best.x + best.y)) (record { x = x; y = y; first = f }) best) now f (m + 1) (i + 1) (set keys m (x * 512 + f))
    keep_at = rw (en, ex, ey) (sieving_keep f found_first)

    pub first_fits : f < 512
    first_fits = low f found_first

-- The keys as they come: their places ascend.
record Ascends (points : List (List ℕ)) (i : ℕ) (keys : List ℕ) : Type 0 where
  few : length keys ≤ i
  small : (j : ℕ) → j < length keys → get_or keys j 0 < 1073741824
  behind : (j n : ℕ) → j < length keys → i ≤ suc n → n < length points → get_or keys j 0 % 512 ≤ first_at points n
  placed : (j k : ℕ) → j < k → k < length keys → get_or keys j 0 % 512 ≤ get_or keys k 0 % 512

module _ (points : List (List ℕ)) (o : InOrder points) where
  one_more : (i : ℕ) (keys : List ℕ) → i < length points → Ascends points i keys → Ascends points (suc i) (keys ++ (key_at points i ∷ []))
  one_more i keys l h =
      record {
        few = omega (arith, longer, h.few);
        small = λ j a. by_order (length keys) j
            (λ b. rw (at_end j a b) (omega (arith, small_at points o i 0, first_low points o i, o.few)))
            (λ b. rw (get_or-append keys (key_at points i ∷ []) 0 j b) (h.small j b));
        behind = λ j n a b c. by_order (length keys) j
            (λ d. rw (at_end j a d) (omega (arith, key_place points o i l, first_rises points o i n (omega arith) c)))
            (λ d. rw (get_or-append keys (key_at points i ∷ []) 0 j d) (h.behind j n d (omega arith) c));
        placed = λ j k a b. by_order (length keys) k
            (λ d. rw (at_end k b d, get_or-append keys (key_at points i ∷ []) 0 j (omega (arith, longer)))
            (omega (arith, key_place points o i l, h.behind j i (omega (arith, longer)) (omega arith) l)))
            (λ d. rw (get_or-append keys (key_at points i ∷ []) 0 k d, get_or-append keys (key_at points i ∷ []) 0 j (omega arith)) (h.placed j k a d));
      }
    where
      longer : length (keys ++ (key_at points i ∷ [])) ≡ length keys + 1
      longer = length-append keys (key_at points i ∷ [])

      at_end : (j : ℕ) → j < length (keys ++ (key_at points i ∷ [])) → length keys ≤ j → get_or (keys ++ (key_at points i ∷ [])) j 0 ≡ key_at points i
      at_end j a b = ap (λ n. get_or (keys ++ (key_at points i ∷ [])) n 0) (let e : j ≡ length keys = omega (arith, longer) in e) ∙ get_or-append_seam keys (key_at points i) [] 0

  ascends : (i : ℕ) (keys : List ℕ) → i ≤ length points → Sieved points i keys → Ascends points i keys
  ascends zero [] l nothing =
      record {
        few = omega arith;
        small = λ j a. absurd (let z : ⊥ = omega arith in z);
        behind = λ j n a b c. absurd (let z : ⊥ = omega arith in z);
        placed = λ j k a b. absurd (let z : ⊥ = omega arith in z);
      }
  ascends zero (k ∷ keys) l s = elim s [ ]
  ascends (suc i) keys l (kept {keys = before} s) = one_more i before l (ascends i before (omega arith) s)
  ascends (suc i) keys l (left s e) = wider (ascends i keys (omega arith) s)
    where
      wider : Ascends points i keys → Ascends points (suc i) keys
      wider h = record { few = omega (arith, h.few); small = h.small; behind = λ j n a b c. h.behind j n a (omega arith) c; placed = h.placed }

  pub sieved_orderable : (keys : List ℕ) → Sieved points (length points) keys → Orderable keys
  sieved_orderable keys s =
      let h : Ascends points (length points) keys = ascends (length points) keys (omega arith) s in
      record { few = omega (arith, h.few, o.few); small = h.small; placed = h.placed }

  pub ordered_placed : (keys ascending : List ℕ) → Sieved points (length points) keys → Ordered keys ascending → Placed points ascending
  ordered_placed keys ascending s r =
      record {
        few = omega (arith, h.few, o.few, r.long);
        each = λ i l. by_order (length points) (get_or ascending i 0 % 512)
            (λ a. absurd (none (found (λ k. leb (length points) (k % 512)) keys
            (some_ordered (λ k. leb (length points) (k % 512)) keys ascending r ∙ some_at (λ k. leb (length points) (k % 512)) ascending i l (le-leb (length points) (get_or ascending i 0 % 512) a)))))
            (λ a. a);
      }
    where
      h : Ascends points (length points) keys
      h = ascends (length points) keys (omega arith) s

      none : Found (λ k. leb (length points) (k % 512)) keys → ⊥
      none n =
          omega (
            arith,
            leb-true (length points) (get_or keys n.at 0 % 512) n.passes,
            h.few,
            n.within,
            h.behind n.at (length points - 1) n.within (omega arith) (omega (arith, h.few, n.within)),
            first_low points o (length points - 1),
          )
