-- Words put into a list: how long it stays, what stands where, one word more at either end, and one part after another.
use Prim.Native.Nat.{ℕ, zero, suc, ◌+◌, ◌-◌, ◌≤◌, ◌<◌}
use mathlib.Core.Path.{◌≡◌, sym, ap, ap₂, ◌∙◌}
use mathlib.Core.List.{List, ◌∷◌, ◌++◌, append_assoc, []}
use native.Mathlib.Nat.{add-zero, zero-add}
use native.Mathlib.Numerals.{add-one}
use native.Mathlib.Omega.{arith}
use borrow.Rule.Slice.PartMut.{put_mid}
use lib.ListN.{length, take, drop, set, get_or, length-append, length-take, length-drop, take-append-drop, get_or-append}
use lib.Seq.{take_all, take-nil, length-take-le, drop-cons, drop-drop, drop_at, take_at, take-take, set_at, set_split, get_or-take, get_or-drop, get_or-append-add, take-suc, append_snoc}
use Rattle.slices.specs.Put.{put}

pub put_none : (l : List ℕ) (at : ℕ) → put l at [] ≡ l
unfolding put
put_none l at = rw add-zero (take-append-drop at l)

-- What a part of the slice holds after a write to it, `new`, is put there.
pub put_part : (l : List ℕ) (at n : ℕ) (now new : List ℕ) → now ≡ new → n ≡ length new → put_mid at n l now ≡ put l at new
unfolding put
put_part l at n now new e long = rw (e, long, drop-drop (length new) at l)

-- A store is a word put.
pub put_one : (l : List ℕ) (at v : ℕ) → at < length l → set l at v ≡ put l at (v ∷ [])
unfolding put
put_one l at v h = rw add-one (set_split l at v h)

module _ (l : List ℕ) (at : ℕ) (new : List ℕ) (room : at + length new ≤ length l) where
  head_long : length (take at l) ≡ at
  head_long = length-take-le at l (omega arith)

  front_long : length (take at l ++ new) ≡ at + length new
  front_long = length-append (take at l) new ∙ ap (λ n. n + length new) head_long

  pub length_put : length (put l at new) ≡ length l
  unfolding put
  length_put = simp (length-append, length-take, length-drop) (omega arith)

  pub take_put : take at (put l at new) ≡ take at l
  unfolding put
  take_put = take_at (take at l) (new ++ drop (at + length new) l) at head_long

  flat : put l at new ≡ (take at l ++ new) ++ drop (at + length new) l
  unfolding put
  flat = sym (append_assoc (take at l) new (drop (at + length new) l))

  pub take_put_all : take (at + length new) (put l at new) ≡ take at l ++ new
  take_put_all = rw flat (take_at (take at l ++ new) (drop (at + length new) l) (at + length new) front_long)

  pub drop_put : drop at (put l at new) ≡ new ++ drop (at + length new) l
  unfolding put
  drop_put = drop_at (take at l) (new ++ drop (at + length new) l) at head_long

  pub drop_put_all : drop (at + length new) (put l at new) ≡ drop (at + length new) l
  drop_put_all = rw flat (drop_at (take at l ++ new) (drop (at + length new) l) (at + length new) front_long)

  -- what stands before the part, in it and behind it
  pub put_before : (k : ℕ) → k < at → get_or (put l at new) k 0 ≡ get_or l k 0
  unfolding put
  put_before k h =
      get_or-append (take at l) (new ++ drop (at + length new) l) 0 k (omega (arith, head_long)) ∙ get_or-take at l k 0 h

  pub put_inside : (k : ℕ) → k < length new → get_or (put l at new) (at + k) 0 ≡ get_or new k 0
  unfolding put
  put_inside k h =
      ap (λ i. get_or (put l at new) i 0) (ap (λ n. n + k) (sym head_long))
      ∙ get_or-append-add (take at l) (new ++ drop (at + length new) l) k 0
      ∙ get_or-append new (drop (at + length new) l) 0 k h

  pub put_behind : (k : ℕ) → at + length new ≤ k → get_or (put l at new) k 0 ≡ get_or l k 0
  put_behind k h =
      let place : k ≡ length (take at l ++ new) + (k - (at + length new)) = omega (arith, front_long) in
      let back : at + length new + (k - (at + length new)) ≡ k = omega arith in
      ap₂ (λ m i. get_or m i 0) flat place
      ∙ get_or-append-add (take at l ++ new) (drop (at + length new) l) (k - (at + length new)) 0
      ∙ get_or-drop (at + length new) l (k - (at + length new)) 0
      ∙ ap (λ i. get_or l i 0) back

-- One word more behind the part.
put_longer : (l : List ℕ) (at : ℕ) (new : List ℕ) (v : ℕ) → (take at l ++ new) ++ (v ∷ drop (suc (at + length new)) l) ≡ put l at (new ++ (v ∷ []))
unfolding put
put_longer l at new v =
    let longer : at + length (new ++ (v ∷ [])) ≡ suc (at + length new) = omega (arith, length-append new (v ∷ [])) in
    rw longer (append_assoc (take at l) new _ ∙ ap (λ m. take at l ++ m) (sym (append_assoc new (v ∷ []) _)))

pub put_more : (l : List ℕ) (at : ℕ) (new : List ℕ) (v : ℕ) → at + length new < length l
    → set (put l at new) (at + length new) v ≡ put l at (new ++ (v ∷ []))
put_more l at new v h =
    ap (λ m. set m (at + length new) v)
    (flat l at new (omega arith) ∙ ap (λ m. (take at l ++ new) ++ m) (drop-cons l (at + length new) 0 h))
    ∙ set_at (take at l ++ new) (get_or l (at + length new) 0) (drop (suc (at + length new)) l) v (at + length new) (front_long l at new (omega arith))
    ∙ put_longer l at new v

-- One word more before the part.
pub put_sooner : (l : List ℕ) (at : ℕ) (new : List ℕ) (v : ℕ) → at < length l
    → set (put l (suc at) new) at v ≡ put l at (v ∷ new)
unfolding put
put_sooner l at new v h =
    let further : suc at + length new ≡ at + length (v ∷ new) = omega arith in
    ap (λ m. set (m ++ (new ++ drop (suc at + length new) l)) at v) (take-suc l at 0 h)
    ∙ ap (λ m. set m at v) (append_snoc (take at l) (get_or l at 0) (new ++ drop (suc at + length new) l))
    ∙ set_at (take at l) (get_or l at 0) (new ++ drop (suc at + length new) l) v at (length-take-le at l (omega arith))
    ∙ ap (λ k. take at l ++ (v ∷ (new ++ drop k l))) further

-- A part put, and another right behind it or right before it: one part.
pub put_then : (l : List ℕ) (at : ℕ) (new more : List ℕ) → at + length new ≤ length l
    → put (put l at new) (at + length new) more ≡ put l at (new ++ more)
put_then l at new more room = go (take_put_all l at new room) behind
  where
    behind : drop (at + length new + length more) (put l at new) ≡ drop (at + length (new ++ more)) l
    behind =
        sym (drop-drop (length more) (at + length new) (put l at new))
        ∙ ap (drop (length more)) (drop_put_all l at new room)
        ∙ drop-drop (length more) (at + length new) l
        ∙ ap (λ k. drop k l) (let e : at + length new + length more ≡ at + length (new ++ more) = omega (arith, length-append new more) in e)

    go : take (at + length new) (put l at new) ≡ take at l ++ new
        → drop (at + length new + length more) (put l at new) ≡ drop (at + length (new ++ more)) l
        → put (put l at new) (at + length new) more ≡ put l at (new ++ more)
    go e f = unfold put in (ap₂ (λ a b. a ++ (more ++ b)) e f ∙ rw (append_assoc, append_assoc))

pub put_ahead : (l : List ℕ) (at : ℕ) (new more : List ℕ) → at + length more + length new ≤ length l
    → put (put l (at + length more) new) at more ≡ put l at (more ++ new)
put_ahead l at new more room = go before behind
  where
    before : take at (put l (at + length more) new) ≡ take at l
    before =
        sym (take-take at (at + length more) (put l (at + length more) new) (omega arith))
        ∙ ap (take at) (take_put l (at + length more) new room)
        ∙ take-take at (at + length more) l (omega arith)

    behind : drop (at + length more) (put l (at + length more) new) ≡ new ++ drop (at + length (more ++ new)) l
    behind =
        drop_put l (at + length more) new room
        ∙ ap (λ k. new ++ drop k l) (let e : at + length more + length new ≡ at + length (more ++ new) = omega (arith, length-append more new) in e)

    go : take at (put l (at + length more) new) ≡ take at l
        → drop (at + length more) (put l (at + length more) new) ≡ new ++ drop (at + length (more ++ new)) l
        → put (put l (at + length more) new) at more ≡ put l at (more ++ new)
    go e f = unfold put in (ap₂ (λ a b. a ++ (more ++ b)) e f ∙ rw append_assoc)

-- A part put over another that it covers.
pub put_over : (l : List ℕ) (at : ℕ) (new more : List ℕ) → at + length new ≤ length l → length new ≤ length more
    → put (put l at new) at more ≡ put l at more
put_over l at new more room covers = go (take_put l at new room) behind
  where
    behind : drop (at + length more) (put l at new) ≡ drop (at + length more) l
    behind =
        ap (λ k. drop k (put l at new)) (let e : at + length more ≡ at + length new + (length more - length new) = omega arith in e)
        ∙ sym (drop-drop (length more - length new) (at + length new) (put l at new))
        ∙ ap (drop (length more - length new)) (drop_put_all l at new room)
        ∙ drop-drop (length more - length new) (at + length new) l
        ∙ ap (λ k. drop k l) (let e : at + length new + (length more - length new) ≡ at + length more = omega arith in e)

    go : take at (put l at new) ≡ take at l → drop (at + length more) (put l at new) ≡ drop (at + length more) l
        → put (put l at new) at more ≡ put l at more
    go e f = unfold put in (ap₂ (λ a b. a ++ (more ++ b)) e f)

-- A part put over the front of another that is as long.
pub put_front_over : (l : List ℕ) (at : ℕ) (new rest more : List ℕ) → at + length (new ++ rest) ≤ length l → length more ≡ length new
    → put (put l at (new ++ rest)) at more ≡ put l at (more ++ rest)
put_front_over l at new rest more room same = go (take_put l at (new ++ rest) room) behind
  where
    all : at + length (new ++ rest) ≡ at + length (more ++ rest)
    all = omega (arith, length-append new rest, length-append more rest)

    behind : drop (at + length more) (put l at (new ++ rest)) ≡ rest ++ drop (at + length (more ++ rest)) l
    behind =
        sym (drop-drop (length more) at (put l at (new ++ rest)))
        ∙ ap (drop (length more)) (drop_put l at (new ++ rest) room ∙ append_assoc new rest (drop (at + length (new ++ rest)) l))
        ∙ drop_at new (rest ++ drop (at + length (new ++ rest)) l) (length more) (sym same)
        ∙ ap (λ k. rest ++ drop k l) all

    go : take at (put l at (new ++ rest)) ≡ take at l
        → drop (at + length more) (put l at (new ++ rest)) ≡ rest ++ drop (at + length (more ++ rest)) l
        → put (put l at (new ++ rest)) at more ≡ put l at (more ++ rest)
    go e f = unfold put in (ap₂ (λ a b. a ++ (more ++ b)) e f ∙ rw append_assoc)

-- What stands there already changes nothing.
pub put_same : (l : List ℕ) (at n : ℕ) → at + n ≤ length l → put l at (take n (drop at l)) ≡ l
unfolding put
put_same l at n room =
    let long : length (take n (drop at l)) ≡ n = length-take-le n (drop at l) (omega (arith, length-drop at l)) in
    ap (λ k. take at l ++ (take n (drop at l) ++ drop (at + k) l)) long
    ∙ ap (λ m. take at l ++ (take n (drop at l) ++ m)) (sym (drop-drop n at l))
    ∙ ap (λ m. take at l ++ m) (take-append-drop n (drop at l))
    ∙ take-append-drop at l

-- A part at the front.
pub put_front : (l new : List ℕ) → put l 0 new ≡ new ++ drop (length new) l
unfolding put
put_front l new = ap (λ k. new ++ drop k l) (zero-add (length new))

-- The part of a list from a place on, as the code names it: with its length.
pub rest_is : (at : ℕ) (l : List ℕ) → take (length l - at) (drop at l) ≡ drop at l
rest_is at l = take_all (length l - at) (drop at l) (omega (arith, length-drop at l))

-- The front of a list without its own front.
pub drop_take : (from m : ℕ) (l : List ℕ) → drop from (take m l) ≡ take (m - from) (drop from l)
drop_take zero m l = let all : m - 0 ≡ m = omega arith in rw all
drop_take (suc from) zero l = let none : 0 - suc from ≡ 0 = omega arith in rw none
drop_take (suc from) (suc m) [] = sym (take-nil (suc m - suc from))
drop_take (suc from) (suc m) (w ∷ l) =
    let less : suc m - suc from ≡ m - from = omega arith in
    drop_take from m l ∙ ap (λ k. take k (drop from l)) (sym less)
