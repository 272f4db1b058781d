-- The points read from doubles, three to a point, and their keys.
use Prim.Native.Nat.{ℕ, zero, suc, ◌+◌, ◌*◌, ◌/◌, ◌%◌, ◌≤◌, ◌<◌}
use mathlib.Core.Path.{◌≡◌, refl, sym, ◌∙◌}
use mathlib.Core.Bool.{Bool, true, false}
use mathlib.Core.List.{List, ◌∷◌, map, []}
use native.Mathlib.Decide.{dec_le}
use native.Mathlib.Omega.{arith}
use lib.ListN.{length, take, get_or, set, length-set, length-take, get_or-eq_default}
use lib.Seq.{get_or-take, get_or-set_same, get_or-set_other, length-take-le, ext_get_or}
use lib.Ieee.{Float}
use Rattle.std.specs.Prelude.{Option}
use Rattle.hypervolume.specs.declared.Point.{Point}
use lib.Dec.{leb}
use borrow.Author.Tests.{lt-leb}
use Rattle.slices.specs.Choices.{both}
use Rattle.slices.proofs.Choices.{both_comm, both_intro}
use Rattle.words.specs.Format.{within, each}
use Rattle.words.proofs.Passed.{each_bounds, each_three}
use Rattle.doubles.specs.Doubles.{number_of}
use Rattle.volume.specs.Volume.{points_of}
use Rattle.volume.specs.Layering.{Readable, ReadAs, Loaded}

-- One number judged.
pub none_within : (low : ℕ) → within low 1048576 1048577 ≡ false
unfolding within both
none_within low = both_comm (leb low 1048577) false

pub under_within : (low n : ℕ) → n < low → within low 1048576 n ≡ false
unfolding within both
under_within low n l = rw (lt-leb low n l)

-- One number of several that is not allowed.
pub each_fails : (test : ℕ → Bool) (l : List ℕ) (i : ℕ) → i < length l → test (get_or l i 0) ≡ false → each test l ≡ false
unfolding each both
each_fails test [] i h e = absurd (let no' : ⊥ = omega arith in no')
each_fails test (a ∷ l) zero h e = rw e
each_fails test (a ∷ l) (suc i) h e = rw (each_fails test l i (omega arith) e) (both_comm (test a) false)

-- A point of three numbers, each judged.
pub three_allowed : (test : ℕ → Bool) (a b c : ℕ) → test a ≡ true → test b ≡ true → test c ≡ true → each test (a ∷ b ∷ c ∷ []) ≡ true
three_allowed test a b c e f g = each_three test a b c ∙ both_intro _ _ e (both_intro _ _ f g)

pub points_many : (ds : List Float) → length (points_of ds) ≡ length ds / 3
unfolding points_of
points_many [] = refl
points_many (x ∷ []) = refl
points_many (x ∷ y ∷ []) = refl
points_many (x ∷ y ∷ z ∷ ds) = omega (arith, points_many ds)

pub points_at : (ds : List Float) (i : ℕ) (d : Float) → 3 * i + 2 < length ds → get_or (points_of ds) i [] ≡ number_of (get_or ds (3 * i) d) ∷ number_of (get_or ds (3 * i + 1) d) ∷ number_of (get_or ds (3 * i + 2) d) ∷ []
unfolding points_of
points_at [] i d l = absurd (let no' : ⊥ = omega arith in no')
points_at (x ∷ []) i d l = absurd (let no' : ⊥ = omega arith in no')
points_at (x ∷ y ∷ []) i d l = absurd (let no' : ⊥ = omega arith in no')
points_at (x ∷ y ∷ z ∷ ds) zero d l = refl
points_at (x ∷ y ∷ z ∷ ds) (suc i) d l =
    let first : 3 * suc i ≡ suc (suc (suc (3 * i))) = omega arith in
    let second : 3 * suc i + 1 ≡ suc (suc (suc (3 * i + 1))) = omega arith in
    let third : 3 * suc i + 2 ≡ suc (suc (suc (3 * i + 2))) = omega arith in
    rw (second, third, first) (points_at ds i d (omega arith))

-- Read as other numbers that are the same.
pub read_as : (low : ℕ) (p : Option Point) (numbers others : List ℕ) → others ≡ numbers → ReadAs low numbers p → ReadAs low others p
read_as low p numbers others e r = rw e r

-- Whether every number of every point passes a test.
unfoldable pub all_of : (ℕ → Bool) → List (List ℕ) → Bool
all_of test [] = true
all_of test (p ∷ points) = both (each test p) (all_of test points)

each_points : (test : ℕ → Bool) (ds : List Float) → length ds % 3 ≡ 0 → each test (map number_of ds) ≡ all_of test (points_of ds)
unfolding points_of all_of each both
each_points test [] e = refl
each_points test (x ∷ []) e = absurd (let no' : ⊥ = omega arith in no')
each_points test (x ∷ y ∷ []) e = absurd (let no' : ⊥ = omega arith in no')
each_points test (x ∷ y ∷ z ∷ ds) e =
    go (test (number_of x)) (test (number_of y)) (test (number_of z)) (each_points test ds (omega arith))
  where
    go : (a b c : Bool) {r s : Bool} → r ≡ s → both a (both b (both c r)) ≡ both (both a (both b (both c true))) s
    go true true true h = h
    go true true false h = refl
    go true false c h = refl
    go false b c h = refl

all_true : (test : ℕ → Bool) (points : List (List ℕ)) → ((j : ℕ) → j < length points → each test (get_or points j []) ≡ true) → all_of test points ≡ true
unfolding all_of
all_true test [] h = refl
all_true test (p ∷ points) h = both_intro (each test p) (all_of test points) (h 0 (omega arith)) (all_true test points (λ j l. h (suc j) (omega arith)))

all_false : (test : ℕ → Bool) (points : List (List ℕ)) (j : ℕ) → j < length points → each test (get_or points j []) ≡ false → all_of test points ≡ false
unfolding all_of both
all_false test [] j l e = absurd (let no' : ⊥ = omega arith in no')
all_false test (p ∷ points) zero l e = rw e
all_false test (p ∷ points) (suc j) l e = rw (all_false test points j (omega arith) e) (both_comm (each test p) false)

-- What is read so far.
pub record Reading (ds : List Float) (points : List (List ℕ)) (keys : List ℕ) (i : ℕ) : Type 0 where
  pub part : i ≤ length ds / 3
  pub points_long : length points ≡ 512
  pub keys_long : length keys ≡ 512
  pub loaded : (j : ℕ) → j < i → get_or points j [] ≡ get_or (points_of ds) j []
  pub keyed : (j : ℕ) → j < i → get_or keys j 0 ≡ get_or (get_or (points_of ds) j []) 2 0 * 512 + j
  pub judged : (j : ℕ) → j < i → each (within 0 1048576) (get_or (points_of ds) j []) ≡ true

pub reading_none : (ds : List Float) (points : List (List ℕ)) (keys : List ℕ) → length points ≡ 512 → length keys ≡ 512 → Reading ds points keys 0
reading_none ds points keys e f =
    record {
      part = omega arith;
      points_long = e;
      keys_long = f;
      loaded = λ j l. absurd (let no' : ⊥ = omega arith in no');
      keyed = λ j l. absurd (let no' : ⊥ = omega arith in no');
      judged = λ j l. absurd (let no' : ⊥ = omega arith in no');
    }

module _ {ds : List Float} (r : Readable ds) {points : List (List ℕ)} {keys : List ℕ} {i : ℕ} (h : Reading ds points keys i) where
  module _ (l : i < length ds / 3) where
    pub reading_room : i < 512
    reading_room = omega (arith, r.few)

    module _ {p : List ℕ} (here : p ≡ get_or (points_of ds) i []) where
      pub reading_refused : each (within 0 1048576) p ≡ false → false ≡ each (within 0 1048576) (map number_of ds)
      reading_refused e =
          sym (each_points (within 0 1048576) ds r.threes ∙ all_false (within 0 1048576) (points_of ds) i (rw (points_many ds) l) (rw (← here) e))

      pub reading_small : each (within 0 1048576) p ≡ true → (axis : ℕ) → get_or p axis 0 ≤ 1048576
      reading_small e axis = (each_bounds 0 1048576 p e axis).1

      pub reading_more : {points' : List (List ℕ)} → points' ≡ set points i p → each (within 0 1048576) p ≡ true → Reading ds points' (set keys i (get_or p 2 0 * 512 + i)) (i + 1)
      reading_more {points'} f e =
          rw f
          record {
            part = omega arith;
            points_long = length-set points i p ∙ h.points_long;
            keys_long = length-set keys i (get_or p 2 0 * 512 + i) ∙ h.keys_long;
            loaded = λ j m. loaded' j (dec_le (suc j) i) m;
            keyed = λ j m. keyed' j (dec_le (suc j) i) m;
            judged = λ j m. judged' j (dec_le (suc j) i) m;
          }
        where
          loaded' : (j : ℕ) → Dec (j < i) → j < i + 1 → get_or (set points i p) j [] ≡ get_or (points_of ds) j []
          loaded' j (yes a) m = get_or-set_other points i j p [] (λ q. omega arith) ∙ h.loaded j a
          loaded' j (no a) m = let last : j ≡ i = omega arith in rw last (get_or-set_same points i p [] (omega (arith, h.points_long, reading_room)) ∙ here)

          keyed' : (j : ℕ) → Dec (j < i) → j < i + 1 → get_or (set keys i (get_or p 2 0 * 512 + i)) j 0 ≡ get_or (get_or (points_of ds) j []) 2 0 * 512 + j
          keyed' j (yes a) m = get_or-set_other keys i j (get_or p 2 0 * 512 + i) 0 (λ q. omega arith) ∙ h.keyed j a
          keyed' j (no a) m = let last : j ≡ i = omega arith in rw last (get_or-set_same keys i (get_or p 2 0 * 512 + i) 0 (omega (arith, h.keys_long, reading_room)) ∙ rw here)

          judged' : (j : ℕ) → Dec (j < i) → j < i + 1 → each (within 0 1048576) (get_or (points_of ds) j []) ≡ true
          judged' j (yes a) m = h.judged j a
          judged' j (no a) m = let last : j ≡ i = omega arith in rw (last, ← here) e

  module _ (l : length ds / 3 ≤ i) where
    pub reading_judged : true ≡ each (within 0 1048576) (map number_of ds)
    reading_judged =
        sym (each_points (within 0 1048576) ds r.threes ∙ all_true (within 0 1048576) (points_of ds) (λ j m. h.judged j (omega (arith, points_many ds))))

    small' : (k : ℕ) → Dec (k < length (points_of ds)) → (axis : ℕ) → get_or (get_or (points_of ds) k []) axis 0 ≤ 1048576
    small' k (yes a) axis = (each_bounds 0 1048576 (get_or (points_of ds) k []) (h.judged k (omega (arith, points_many ds))) axis).1
    small' k (no a) axis = rw (get_or-eq_default (points_of ds) [] {n = k} (omega arith)) (omega arith)

    at : (j : ℕ) → j < length ds / 3 → get_or (take (length ds / 3) points) j [] ≡ get_or (points_of ds) j []
    at j m = get_or-take (length ds / 3) points j [] m ∙ h.loaded j (omega arith)

    pub reading_end : Loaded ds points keys
    reading_end =
        record {
          all = ext_get_or [] (take (length ds / 3) points) (points_of ds)
              (length-take-le (length ds / 3) points (omega (arith, h.points_long, r.few)) ∙ sym (points_many ds))
              (λ j m. at j (omega (arith, length-take (length ds / 3) points)));
          keyed = record {
            long = length-take-le (length ds / 3) keys (omega (arith, h.keys_long, r.few)) ∙ sym (points_many ds);
            each = λ j m. get_or-take (length ds / 3) keys j 0 (omega (arith, points_many ds)) ∙ h.keyed j (omega (arith, points_many ds));
          };
          few = record { few = omega (arith, points_many ds, r.few); small = λ k axis. small' k (dec_le (suc k) (length (points_of ds))) axis };
        }
