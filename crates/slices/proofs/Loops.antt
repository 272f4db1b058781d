-- Loops that write a part of a slice, word by word. `new` is what stands there in the end.
use Prim.Native.Nat.{ℕ, suc, ◌+◌, ◌≤◌, ◌<◌}
use mathlib.Core.Path.{◌≡◌, refl, sym, ap, ◌∙◌}
use mathlib.Core.List.{List, ◌∷◌, ◌++◌, []}
use native.Mathlib.Numerals.{add-one}
use native.Mathlib.Omega.{arith}
use lib.ListN.{length, take, drop, set, get_or, length-set, length-drop}
use lib.Seq.{length-take-le, take-suc, take-length, drop-cons, drop-length}
use Rattle.slices.specs.Put.{put}
use Rattle.slices.proofs.Put.{put_none, put_more, put_sooner, put_before, put_behind}

-- Front to back: the first i words of the part are written.
pub record Written (old : List ℕ) (at : ℕ) (new : List ℕ) (i : ℕ) (now : List ℕ) : Type 0 where
  pub room : at + length new ≤ length old
  pub part : i ≤ length new
  pub long : length now ≡ length old
  pub is : now ≡ put old at (take i new)

pub written_none : (old : List ℕ) (at : ℕ) (new : List ℕ) → at + length new ≤ length old → Written old at new 0 old
written_none old at new room =
    record { room = room; part = omega arith; long = refl; is = sym (put_none old at) }

module _ {old : List ℕ} {at : ℕ} {new : List ℕ} {i : ℕ} {now : List ℕ} (h : Written old at new i now) where
  taken : length (take i new) ≡ i
  taken = length-take-le i new h.part

  pub written_more : (v : ℕ) → i < length new → v ≡ get_or new i 0 → Written old at new (i + 1) (set now (at + i) v)
  written_more v l e =
      let room : at + length new ≤ length old = h.room in
      record {
        room = room;
        part = omega arith;
        long = length-set now (at + i) v ∙ h.long;
        is =
            ap (λ m. set m (at + i) v) h.is
            ∙ ap (λ k. set (put old at (take i new)) (at + k) v) (sym taken)
            ∙ put_more old at (take i new) v (omega (arith, taken))
            ∙ ap (λ x. put old at (take i new ++ (x ∷ []))) e
            ∙ ap (put old at) (sym (take-suc new i 0 l) ∙ ap (λ k. take k new) (sym (add-one i)));
      }

  -- what is not written yet is as before
  pub written_behind : (k : ℕ) → at + i ≤ k → get_or now k 0 ≡ get_or old k 0
  written_behind k l =
      let room : at + length new ≤ length old = h.room in
      let part : i ≤ length new = h.part in
      ap (λ m. get_or m k 0) h.is ∙ put_behind old at (take i new) (omega (arith, taken)) k (omega (arith, taken))

  pub written_end : length new ≤ i → now ≡ put old at new
  written_end l =
      let part : i ≤ length new = h.part in
      h.is ∙ ap (put old at) (ap (λ k. take k new) (let e : i ≡ length new = omega arith in e) ∙ take-length new)

-- Back to front: all but the first `left` words of the part are written.
pub record Filled (old : List ℕ) (at : ℕ) (new : List ℕ) (left : ℕ) (now : List ℕ) : Type 0 where
  pub room : at + length new ≤ length old
  pub part : left ≤ length new
  pub long : length now ≡ length old
  pub is : now ≡ put old (at + left) (drop left new)

pub filled_none : (old : List ℕ) (at : ℕ) (new : List ℕ) (left : ℕ) → at + length new ≤ length old → left ≡ length new → Filled old at new left old
filled_none old at new left room e =
    record {
      room = room;
      part = omega arith;
      long = refl;
      is = sym (ap (put old (at + left)) (ap (λ k. drop k new) e ∙ drop-length new) ∙ put_none old (at + left));
    }

module _ {old : List ℕ} {at : ℕ} {new : List ℕ} {left : ℕ} {now : List ℕ} (h : Filled old at new left now) where
  pub filled_more : (m v : ℕ) → suc m ≡ left → v ≡ get_or new m 0 → Filled old at new m (set now (at + m) v)
  filled_more m v l e =
      let room : at + length new ≤ length old = h.room in
      let part : left ≤ length new = h.part in
      record {
        room = room;
        part = omega arith;
        long = length-set now (at + m) v ∙ h.long;
        is =
            ap (λ x. set x (at + m) v) h.is
            ∙ ap (λ k. set (put old k (drop left new)) (at + m) v) (let s : at + left ≡ suc (at + m) = omega arith in s)
            ∙ put_sooner old (at + m) (drop left new) v (omega arith)
            ∙ ap (put old (at + m)) (ap (λ x. x ∷ drop left new) e ∙ ap (λ k. get_or new m 0 ∷ drop k new) (sym l) ∙ sym (drop-cons new m 0 (omega arith)));
      }

  -- what is not written yet is as before
  pub filled_before : (k : ℕ) → k < at + left → get_or now k 0 ≡ get_or old k 0
  filled_before k l =
      let room : at + length new ≤ length old = h.room in
      let part : left ≤ length new = h.part in
      ap (λ m. get_or m k 0) h.is
      ∙ put_before old (at + left) (drop left new) (omega (arith, length-drop left new)) k l

  pub filled_end : left ≡ 0 → now ≡ put old at new
  filled_end e =
      h.is ∙ ap (λ k. put old (at + k) (drop k new)) e ∙ ap (λ k. put old k new) (let z : at + 0 ≡ at = omega arith in z)
