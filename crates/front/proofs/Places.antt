-- Where equal points begin, and what beats what: by coordinates and by keys.
use Prim.Native.Nat.{ℕ, zero, suc, ◌+◌, ◌/◌, ◌%◌, ◌≤◌, ◌<◌, ◌-◌}
use mathlib.Core.Path.{◌≡◌, refl, sym, ap, subst, ◌∙◌}
use mathlib.Core.Bool.{Bool, true, false, true≢false}
use mathlib.Core.List.{List, ◌∷◌, []}
use native.Mathlib.Omega.{arith}
use lib.Dec.{leb, ltb, eqb}
use lib.ListN.{length, get_or}
use borrow.Author.Tests.{leb-true, ltb-true, le-leb, lt-ltb, le-ltb, eq-eqb, ne_eqb}
use Rattle.slices.specs.Choices.{either, pick}
use Rattle.slices.proofs.Choices.{both_true, both_intro}
use Rattle.hypervolume.specs.Cells.{dominates}
use Rattle.hypervolume.specs.Front.{smaller_somewhere, beats}
use Rattle.hypervolume.proofs.Tests.{by_order, Equated, same, differs, equated}
use Rattle.front.specs.Keys.{x_at, y_at, z_at, standing, InOrder, first_at, key_at, under, over}

-- On three axes.
three : (p : List ℕ) → length p ≡ 3 → p ≡ get_or p 0 0 ∷ get_or p 1 0 ∷ get_or p 2 0 ∷ []
three [] e = absurd (let z : ⊥ = omega arith in z)
three (x ∷ []) e = absurd (let z : ⊥ = omega arith in z)
three (x ∷ y ∷ []) e = absurd (let z : ⊥ = omega arith in z)
three (x ∷ y ∷ z ∷ []) e = refl
three (x ∷ y ∷ z ∷ v ∷ p) e = absurd (let z : ⊥ = omega arith in z)

record Below (p q : List ℕ) : Type 0 where
  x : get_or p 0 0 ≤ get_or q 0 0
  y : get_or p 1 0 ≤ get_or q 1 0
  z : get_or p 2 0 ≤ get_or q 2 0
  apart : get_or p 0 0 + get_or p 1 0 + get_or p 2 0 < get_or q 0 0 + get_or q 1 0 + get_or q 2 0

module _ (a b c x y z : ℕ) where
  none_smaller : x ≤ a → y ≤ b → z ≤ c → smaller_somewhere (a ∷ b ∷ c ∷ []) (x ∷ y ∷ z ∷ []) ≡ false
  unfolding smaller_somewhere either
  none_smaller i j k = rw (le-ltb a x i, le-ltb b y j, le-ltb c z k)

  some_smaller : a + b + c < x + y + z → a ≤ x → b ≤ y → c ≤ z → smaller_somewhere (a ∷ b ∷ c ∷ []) (x ∷ y ∷ z ∷ []) ≡ true
  unfolding smaller_somewhere either
  some_smaller s i j k =
      by_order x a
      (λ l. by_order y b
      (λ m. rw (le-ltb a x l, le-ltb b y m, lt-ltb c z (omega arith)))
      (λ m. rw (le-ltb a x l, lt-ltb b y m)))
      (λ l. rw (lt-ltb a x l))

  below_three : beats (a ∷ b ∷ c ∷ []) (x ∷ y ∷ z ∷ []) ≡ true → Below (a ∷ b ∷ c ∷ []) (x ∷ y ∷ z ∷ [])
  unfolding beats dominates
  below_three e =
      let parts = both_true _ (smaller_somewhere (a ∷ b ∷ c ∷ []) (x ∷ y ∷ z ∷ [])) e in
      let first = both_true (leb a x) _ parts.0 in
      let second = both_true (leb b y) _ first.1 in
      let third = both_true (leb c z) true second.1 in
      let i : a ≤ x = leb-true a x first.0 in
      let j : b ≤ y = leb-true b y second.0 in
      let k : c ≤ z = leb-true c z third.0 in
      record {
        x = i;
        y = j;
        z = k;
        apart =
            by_order (x + y + z) (a + b + c)
            (λ l. absurd (true≢false (sym parts.1 ∙ none_smaller (omega arith) (omega arith) (omega arith))))
            (λ l. l);
      }

  beats_three : a ≤ x → b ≤ y → c ≤ z → a + b + c < x + y + z → beats (a ∷ b ∷ c ∷ []) (x ∷ y ∷ z ∷ []) ≡ true
  unfolding beats dominates
  beats_three i j k s =
      both_intro _ _
      (both_intro (leb a x) _ (le-leb a x i) (both_intro (leb b y) _ (le-leb b y j) (both_intro (leb c z) true (le-leb c z k) refl)))
      (some_smaller s i j k)

-- One key over another.
pub record Over (points : List (List ℕ)) (b k : ℕ) : Type 0 where
  pub x : b / 512 ≤ k / 512
  pub place : b % 512 < k % 512
  pub y : y_at points (b % 512) ≤ y_at points (k % 512)

pub over_is : (points : List (List ℕ)) (b k : ℕ) → Over points b k → over points b k ≡ true
unfolding over under
over_is points b k o =
    both_intro _ _ (le-leb (b / 512) (k / 512) o.x)
    (both_intro _ _ (lt-ltb (b % 512) (k % 512) o.place) (le-leb (y_at points (b % 512)) (y_at points (k % 512)) o.y))

pub is_over : (points : List (List ℕ)) (b k : ℕ) → over points b k ≡ true → Over points b k
unfolding over under
is_over points b k e =
    let parts = both_true (leb (b / 512) (k / 512)) _ e in
    let rest = both_true (ltb (b % 512) (k % 512)) _ parts.1 in
    record {
      x = leb-true (b / 512) (k / 512) parts.0;
      place = ltb-true (b % 512) (k % 512) rest.0;
      y = leb-true (y_at points (b % 512)) (y_at points (k % 512)) rest.1;
    }

pub over_trans : (points : List (List ℕ)) (a b k : ℕ) → over points a b ≡ true → over points b k ≡ true → over points a k ≡ true
over_trans points a b k e f =
    let o : Over points a b = is_over points a b e in
    let u : Over points b k = is_over points b k f in
    over_is points a k (record { x = omega (arith, o.x, u.x); place = omega (arith, o.place, u.place); y = omega (arith, o.y, u.y) })

module _ (points : List (List ℕ)) (h : InOrder points) where
  -- Places ascend with what stands there.
  rising_by : (j n : ℕ) → j + n < length points → standing points j ≤ standing points (j + n)
  rising_by j zero l = omega (arith, ap (standing points) (let e : j + 0 ≡ j = omega arith in e))
  rising_by j (suc n) l = omega (arith, rising_by j n (omega arith), h.rising (j + n) (omega arith), ap (standing points) (let e : j + suc n ≡ suc (j + n) = omega arith in e))

  pub rises : (j i : ℕ) → j ≤ i → i < length points → standing points j ≤ standing points i
  rises j i l k = omega (arith, rising_by j (i - j) (omega arith), ap (standing points) (let e : j + (i - j) ≡ i = omega arith in e))

  first_same : (i : ℕ) → standing points i ≡ standing points (suc i) → first_at points (suc i) ≡ first_at points i
  unfolding first_at pick
  first_same i e = rw (eq-eqb (standing points i) (standing points (suc i)) e)

  first_new : (i : ℕ) → (standing points i ≡ standing points (suc i) → ⊥) → first_at points (suc i) ≡ suc i
  unfolding first_at pick
  first_new i n = rw (ne_eqb (standing points i) (standing points (suc i)) n)

  pub first_low : (i : ℕ) → first_at points i ≤ i
  first_low zero = unfold first_at in omega arith
  first_low (suc i) = go (eqb (standing points i) (standing points (suc i))) (equated (standing points i) (standing points (suc i))) (first_low i)
    where
      go : (t : Bool) → Equated (standing points i) (standing points (suc i)) t → first_at points i ≤ i → first_at points (suc i) ≤ suc i
      go t (same e) low = omega (arith, first_same i e)
      go t (differs n) low = omega (arith, first_new i n)

  pub first_standing : (i : ℕ) → standing points (first_at points i) ≡ standing points i
  first_standing zero = unfold first_at in refl
  first_standing (suc i) = go (eqb (standing points i) (standing points (suc i))) (equated (standing points i) (standing points (suc i))) (first_standing i)
    where
      go : (t : Bool) → Equated (standing points i) (standing points (suc i)) t → standing points (first_at points i) ≡ standing points i → standing points (first_at points (suc i)) ≡ standing points (suc i)
      go t (same e) ih = ap (standing points) (first_same i e) ∙ ih ∙ e
      go t (differs n) ih = ap (standing points) (first_new i n)

  -- Behind a place where something else stands.
  pub first_behind : (j i : ℕ) → j ≤ i → i < length points → standing points j < standing points i → j < first_at points i
  first_behind j zero l k s = absurd (let z : ⊥ = omega (arith, ap (standing points) (let e : j ≡ 0 = omega arith in e)) in z)
  first_behind j (suc i) l k s =
      go (eqb (standing points i) (standing points (suc i))) (equated (standing points i) (standing points (suc i)))
      (λ a b. first_behind j i a (omega arith) b)
    where
      go : (t : Bool) → Equated (standing points i) (standing points (suc i)) t → (j ≤ i → standing points j < standing points i → j < first_at points i) → j < first_at points (suc i)
      go t (same e) later =
          by_order j i
          (λ a. omega (arith, first_same i e, later a (omega arith)))
          (λ a. absurd (let z : ⊥ = omega (arith, ap (standing points) (let q : j ≡ suc i = omega arith in q)) in z))
      go t (differs n) later =
          by_order j i
          (λ a. omega (arith, first_new i n))
          (λ a. absurd (let z : ⊥ = omega (arith, ap (standing points) (let q : j ≡ suc i = omega arith in q)) in z))

  -- Equal points begin at one place.
  pub first_equal : (j i : ℕ) → j ≤ i → i < length points → standing points j ≡ standing points i → first_at points j ≡ first_at points i
  first_equal j zero l k e = ap (first_at points) (let q : j ≡ 0 = omega arith in q)
  first_equal j (suc i) l k e =
      by_order j i
      (λ a. first_equal j i a (omega arith) (omega (arith, rises j i a (omega arith), rises i (suc i) (omega arith) k))
      ∙ sym (first_same i (omega (arith, rises j i a (omega arith), rises i (suc i) (omega arith) k))))
      (λ a. ap (first_at points) (let q : j ≡ suc i = omega arith in q))

  pub first_rises : (j i : ℕ) → j ≤ i → i < length points → first_at points j ≤ first_at points i
  first_rises j i l k =
      by_order (standing points i) (standing points j)
      (λ s. omega (arith, first_equal j i l k (omega (arith, rises j i l k))))
      (λ s. omega (arith, first_low j, first_behind j i l k s))

  -- The coordinates told by what stands at two places.
  pub small_at : (i axis : ℕ) → get_or (get_or points i []) axis 0 ≤ 1048576
  small_at i axis = h.small i axis

  pub first_y : (i : ℕ) → y_at points (first_at points i) ≡ y_at points i
  first_y i =
      omega (arith, first_standing i, small_at i 0, small_at i 1, small_at i 2, small_at (first_at points i) 0, small_at (first_at points i) 1, small_at (first_at points i) 2)

  -- By coordinates: what beats stands earlier.
  pub beats_at : (j i : ℕ) → j < length points → i < length points → x_at points j ≤ x_at points i → y_at points j ≤ y_at points i → standing points j < standing points i
      → beats (get_or points j []) (get_or points i []) ≡ true
  beats_at j i a b x y s =
      rw (three (get_or points j []) (h.axes j a), three (get_or points i []) (h.axes i b))
      (beats_three (x_at points j) (y_at points j) (z_at points j) (x_at points i) (y_at points i) (z_at points i) x y
      (omega (arith, small_at j 0, small_at j 1, small_at i 0, small_at i 1)) (omega (arith, small_at j 0, small_at j 1, small_at i 0, small_at i 1)))

  pub below_at : (j i : ℕ) → j < length points → i < length points → beats (get_or points j []) (get_or points i []) ≡ true
      → (x_at points j ≤ x_at points i) × (y_at points j ≤ y_at points i) × (standing points j < standing points i)
  below_at j i a b e =
      let d : Below (get_or points j []) (get_or points i []) = found in
      (d.x, d.y, omega (arith, d.x, d.y, d.z, d.apart, small_at j 0, small_at j 1, small_at i 0, small_at i 1))
    where
      found : Below (get_or points j []) (get_or points i [])
      found =
          rw (three (get_or points j []) (h.axes j a), three (get_or points i []) (h.axes i b))
          (below_three (x_at points j) (y_at points j) (z_at points j) (x_at points i) (y_at points i) (z_at points i)
          (subst (λ p. beats p (x_at points i ∷ y_at points i ∷ z_at points i ∷ []) ≡ true) (three (get_or points j []) (h.axes j a))
          (subst (λ q. beats (get_or points j []) q ≡ true) (three (get_or points i []) (h.axes i b)) e)))

  -- By keys.
  pub key_place : (i : ℕ) → i < length points → key_at points i % 512 ≡ first_at points i
  key_place i l = omega (arith, first_low i, h.few)

  pub key_x : (i : ℕ) → i < length points → key_at points i / 512 ≡ x_at points i
  key_x i l = omega (arith, first_low i, h.few)

  pub key_y : (i : ℕ) → i < length points → y_at points (key_at points i % 512) ≡ y_at points i
  key_y i l = ap (y_at points) (key_place i l) ∙ first_y i

  pub beats_over : (j i : ℕ) → j < length points → i < length points → beats (get_or points j []) (get_or points i []) ≡ true → over points (key_at points j) (key_at points i) ≡ true
  beats_over j i a b e =
      let d = below_at j i a b e in
      over_is points (key_at points j) (key_at points i)
      (record {
        x = omega (arith, key_x j a, key_x i b, d.0);
        place =
            by_order i j
            (λ l. absurd (let z : ⊥ = omega (arith, d.2, rises i j l a) in z))
            (λ l. omega (arith, key_place j a, key_place i b, first_low j, first_behind j i (omega arith) b d.2));
        y = omega (arith, key_y j a, key_y i b, d.1);
      })

  pub over_beats : (j i : ℕ) → j < length points → i < length points → over points (key_at points j) (key_at points i) ≡ true → beats (get_or points j []) (get_or points i []) ≡ true
  over_beats j i a b e =
      let o : Over points (key_at points j) (key_at points i) = is_over points (key_at points j) (key_at points i) e in
      beats_at j i a b (omega (arith, key_x j a, key_x i b, o.x)) (omega (arith, key_y j a, key_y i b, o.y))
      (by_order (standing points i) (standing points j)
      (λ l. absurd (no l (omega (arith, key_place j a, key_place i b, o.place))))
      (λ l. l))
    where
      no : standing points i ≤ standing points j → first_at points j < first_at points i → ⊥
      no l f =
          by_order j i
          (λ m. omega (arith, f, first_equal j i m b (omega (arith, rises j i m b))))
          (λ m. by_order (standing points j) (standing points i)
          (λ n. omega (arith, f, first_equal i j (omega arith) a (omega arith)))
          (λ n. omega (arith, f, first_low i, first_behind i j (omega arith) a n)))
