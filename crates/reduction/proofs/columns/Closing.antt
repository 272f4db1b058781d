-- A gap closed in a column: the loop over points, and the numbers moved down.
use Prim.Native.Nat.{ℕ, zero, suc, ◌+◌, ◌-◌, ◌≤◌, ◌<◌}
use mathlib.Core.Path.{◌≡◌, refl, sym, ap, ap₂, ◌∙◌}
use mathlib.Core.List.{List, ◌∷◌, ◌++◌, append_assoc, append-nil, map, []}
use native.Mathlib.Omega.{arith}
use lib.ListN.{length, take, drop, set, get_or, length-set}
use lib.Seq.{length-take-le, take-take, take-suc, take-append-le, drop-append-le, take-suc-set, get_or-set_other, drop-length}
use Rattle.reduction.specs.Columns.{closed}

pub closed_map : {A B : Type 0} (f : A → B) (k : ℕ) (l : List A) → map f (closed k l) ≡ closed k (map f l)
unfolding closed
closed_map f zero [] = refl
closed_map f zero (x ∷ l) = refl
closed_map f (suc k) [] = refl
closed_map f (suc k) (x ∷ l) = ap (λ t. f x ∷ t) (closed_map f k l)

-- One more at the end.
closed_more : {A : Type 0} (k : ℕ) (l : List A) (x : A) → k < length l → closed k (l ++ (x ∷ [])) ≡ closed k l ++ (x ∷ [])
unfolding closed
closed_more k l x h =
    ap₂ ◌++◌ (take-append-le k l (x ∷ []) (omega arith)) (drop-append-le (suc k) l (x ∷ []) h)
    ∙ sym (append_assoc (take k l) (drop (suc k) l) (x ∷ []))

-- The last one.
closed_last : {A : Type 0} (k : ℕ) (l : List A) → k < length l → closed k (take (suc k) l) ≡ take k l
unfolding closed
closed_last k l h =
    let long : length (take (suc k) l) ≡ suc k = length-take-le (suc k) l h in
    ap₂ ◌++◌ (take-take k (suc k) l (omega arith)) (ap (λ n. drop n (take (suc k) l)) (sym long) ∙ drop-length (take (suc k) l))
    ∙ append-nil (take k l)

-- The loop: those before place i, but the one at k, stand in front.
pub record ClosedSoFar {A : Type 0} (old : List A) (k n i : ℕ) (now : List A) : Type 0 where
  pub above : k < i
  pub part : i ≤ n
  pub room : n ≤ length old
  pub long : length now ≡ length old
  pub front : take (i - 1) now ≡ closed k (take i old)
  pub back : (d : A) (j : ℕ) → i ≤ j → get_or now j d ≡ get_or old j d

pub closed_none : {A : Type 0} (old : List A) (k n : ℕ) → k < n → n ≤ length old → ClosedSoFar old k n (k + 1) old
closed_none old k n l room =
    let one : k + 1 ≡ suc k = omega arith in
    record {
      above = omega arith;
      part = omega arith;
      room = room;
      long = refl;
      front =
          ap (λ i. take i old) (let e : k + 1 - 1 ≡ k = omega arith in e)
          ∙ sym (closed_last k old (omega arith))
          ∙ ap (λ i. closed k (take i old)) (sym one);
      back = λ d j m. refl;
    }

-- The element at i, which stands at its old place.
pub closed_next : {A : Type 0} {old : List A} {k n i : ℕ} {now : List A} → ClosedSoFar old k n i now → i < n → (x : A) → x ≡ get_or now i x → ClosedSoFar old k n (i + 1) (set now (i - 1) x)
closed_next {A} {old} {k} {n} {i} {now} h l x is =
    let above : k < i = h.above in
    let room : n ≤ length old = h.room in
    let long : length now ≡ length old = h.long in
    let size : length (take i old) ≡ i = length-take-le i old (omega arith) in
    record {
      above = omega arith;
      part = omega arith;
      room = room;
      long = length-set now (i - 1) x ∙ long;
      front =
          ap (λ m. take m (set now (i - 1) x)) (let e : i + 1 - 1 ≡ suc (i - 1) = omega arith in e)
          ∙ take-suc-set now (i - 1) x (omega arith)
          ∙ ap₂ (λ y z. y ++ (z ∷ [])) h.front (is ∙ h.back x i (omega arith))
          ∙ sym (closed_more k (take i old) (get_or old i x) (omega arith))
          ∙ ap (closed k) (sym (take-suc old i x (omega arith)) ∙ ap (λ m. take m old) (let e : suc i ≡ i + 1 = omega arith in e));
      back = λ d j m. get_or-set_other now (i - 1) j x d (λ e. omega arith) ∙ h.back d j (omega arith);
    }

pub closed_end : {A : Type 0} {old : List A} {k n i : ℕ} {now : List A} → ClosedSoFar old k n i now → n ≤ i → take (n - 1) now ≡ closed k (take n old)
closed_end {A} {old} {k} {n} {i} {now} h l =
    let e : n ≡ i = (let part : i ≤ n = h.part in omega arith) in
    ap (λ m. take (m - 1) now) e ∙ h.front ∙ ap (λ m. closed k (take m old)) (sym e)
