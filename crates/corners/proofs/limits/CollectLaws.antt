-- `collect`: the corners within a limit.
use Prim.Native.Nat.{ℕ, zero, suc, ◌+◌, ◌≤◌, ◌<◌}
use mathlib.Core.Path.{◌≡◌, refl, sym, ap, ◌∙◌}
use mathlib.Core.Bool.{Bool, true, false}
use mathlib.Core.List.{List, ◌∷◌, ◌++◌, map, append-nil, []}
use native.Mathlib.Decide.{dec_le}
use native.Mathlib.Numerals.{add-one}
use native.Mathlib.Omega.{arith}
use lib.ListN.{length, take, drop, get_or, set, length-drop, length-set, length-map, take-append-drop}
use lib.Seq.{take-suc, take-suc-set, take_all, get_or-drop, get_or-set_same, get_or-set_other}
use lib.Dec.{leb}
use borrow.Author.Tests.{leb-true}
use Rattle.slices.specs.Choices.{pick}
use Rattle.slices.specs.Spread.{Stands}
use Rattle.slices.proofs.Choices.{both_true}
use Rattle.hypervolume.specs.Cells.{dominates, join}
use Rattle.sweep.proofs.Front.{getD_mapped}
use Rattle.sweep.proofs.Coordinates.{ascending_at}
use Rattle.corners.specs.Limits.{passing, Collecting, Collected}
use Rattle.corners.proofs.Passing.{corner_within, passing_append, passing_none}

-- The corner with the j-th point.
pub corner_at : (u : List ℕ) (points : List (List ℕ)) (j : ℕ) → j < length points → get_or (map (join u) points) j [] ≡ join u (get_or points j [])
corner_at u points j l = getD_mapped (join u) [] [] points j l

-- The loop.
pub record Gathering (points : List (List ℕ)) (u limit : List ℕ) (corners₀ : List (List ℕ)) (places₀ : List ℕ) (corners : List (List ℕ)) (places : List ℕ) (m i : ℕ) : Type 0 where
  pub asked : Collecting points u limit corners₀ places₀
  pub within : i ≤ length points
  pub corners_long : length corners ≡ length corners₀
  pub places_long : length places ≡ length places₀
  pub collected : Collected points u limit i corners places m

pub gathering_none : {points : List (List ℕ)} {u limit : List ℕ} {corners : List (List ℕ)} {places : List ℕ} → Collecting points u limit corners places → Gathering points u limit corners places corners places 0 0
unfolding passing
gathering_none h =
    record {
      asked = h;
      within = omega arith;
      corners_long = refl;
      places_long = refl;
      collected =
          record {
            few = omega arith;
            all = refl;
            corner = λ k l. absurd (let no' : ⊥ = omega arith in no');
            inside = λ k l. absurd (let no' : ⊥ = omega arith in no');
            rising = λ k l. absurd (let no' : ⊥ = omega arith in no');
            every = λ j l. absurd (let no' : ⊥ = omega arith in no');
          };
    }

-- A point past the limit on some axis is not within it.
dominates_on : (p c : List ℕ) (a : ℕ) → a < length c → dominates p c ≡ true → get_or p a 0 ≤ get_or c a 0
unfolding dominates
dominates_on [] c a l d = omega arith
dominates_on (x ∷ p) [] a l d = absurd (let no' : ⊥ = omega arith in no')
dominates_on (x ∷ p) (y ∷ c) zero l d = leb-true x y (both_true (leb x y) (dominates p c) d).0
dominates_on (x ∷ p) (y ∷ c) (suc a) l d = dominates_on p c a (omega arith) (both_true (leb x y) (dominates p c) d).1

past : (p c : List ℕ) (a : ℕ) → a < length c → get_or c a 0 < get_or p a 0 → dominates p c ≡ false
past p c a l q = go (dominates p c) refl
  where
    go : (b : Bool) → dominates p c ≡ b → b ≡ false
    go true e = absurd (let no' : ⊥ = omega (arith, dominates_on p c a l e) in no')
    go false e = refl

module _ {points : List (List ℕ)} {u limit : List ℕ} {corners₀ : List (List ℕ)} {places₀ : List ℕ} {corners : List (List ℕ)} {places : List ℕ} {m i : ℕ} (h : Gathering points u limit corners₀ places₀ corners places m i) where
  abbrev all : List (List ℕ)
  all = map (join u) points

  abbrev test : List ℕ → Bool
  test t = dominates t limit

  old : Collected points u limit i corners places m
  old = h.collected

  all_many : length all ≡ length points
  all_many = length-map points (join u)

  -- The turn of the point p.
  module _ (l : i < length points) where
    abbrev p : List ℕ
    p = get_or points i []

    corners_room : m < length corners
    corners_room = omega (arith, h.corners_long, h.asked.corners_room, old.few)

    places_room : m < length places
    places_room = omega (arith, h.places_long, h.asked.places_room, old.few)

    here : get_or all i [] ≡ join u p
    here = corner_at u points i l

    tested : test (join u p) ≡ test p
    tested = corner_within u p limit h.asked.above

    passing_next : (t : Bool) → test p ≡ t → passing test (take (i + 1) all) ≡ passing test (take i all) ++ pick t (join u p ∷ []) []
    unfolding passing
    passing_next t e =
        rw (add-one i, take-suc all i [] (omega (arith, all_many)), here, passing_append test (take i all) (join u p ∷ []), tested, e)

    pub gathering_skip : {t : List ℕ} {within : Bool} → t ≡ p → within ≡ test t → within ≡ false → Gathering points u limit corners₀ places₀ corners places m (i + 1)
    unfolding pick
    gathering_skip {t} {within} e f g =
        record {
          asked = h.asked;
          within = omega arith;
          corners_long = h.corners_long;
          places_long = h.places_long;
          collected =
              record {
                few = omega (arith, old.few);
                all = old.all ∙ sym (passing_next false out ∙ append-nil _);
                corner = old.corner;
                inside = λ k q. omega (arith, old.inside k q);
                rising = old.rising;
                every = λ j q d. every j d q (dec_le (suc j) i);
              };
        }
      where
        out : test p ≡ false
        out = rw (← e, ← f) g

        every : (j : ℕ) → test (get_or all j []) ≡ true → j < i + 1 → Dec (j < i) → Stands places m j
        every j d q (yes a) = old.every j a d
        every j d q (no a) =
            let last : j ≡ i = omega arith in
            let never : false ≡ true = sym out ∙ sym tested ∙ (rw (last, here) at d) in
            absurd (let z : ◌≡◌ {A = ℕ} 0 1 = cc in omega arith)

    pub gathering_more : {t corner : List ℕ} {within : Bool} {corners' : List (List ℕ)} → t ≡ p → within ≡ test t → within ≡ true → corner ≡ join u t → corners' ≡ set corners m corner → Gathering points u limit corners₀ places₀ corners' (set places m i) (m + 1) (i + 1)
    unfolding pick
    gathering_more {t} {corner} {within} {corners'} e f g c s =
        record {
          asked = h.asked;
          within = omega arith;
          corners_long = ap length put ∙ length-set corners m (join u p) ∙ h.corners_long;
          places_long = length-set places m i ∙ h.places_long;
          collected =
              record {
                few = omega (arith, old.few);
                all = rw (put, add-one m, take-suc-set corners m (join u p) corners_room, old.all) (sym (passing_next true inside_limit));
                corner = λ k q. corner_of k q (dec_le (suc k) m);
                inside = λ k q. inside k q (dec_le (suc k) m);
                rising = λ k q. rising k q (dec_le (suc (suc k)) m);
                every = λ j q d. every j d q (dec_le (suc j) i);
              };
        }
      where
        put : corners' ≡ set corners m (join u p)
        put = s ∙ ap (set corners m) (c ∙ ap (join u) e)

        inside_limit : test p ≡ true
        inside_limit = rw (← e, ← f) g

        first : (k : ℕ) → k < m → get_or (set places m i) k 0 ≡ get_or places k 0
        first k a = get_or-set_other places m k i 0 (λ q. omega arith)

        last : get_or (set places m i) m 0 ≡ i
        last = get_or-set_same places m i 0 places_room

        corner_of : (k : ℕ) → k < m + 1 → Dec (k < m) → get_or corners' k [] ≡ join u (get_or points (get_or (set places m i) k 0) [])
        corner_of k q (yes a) = rw (put, get_or-set_other corners m k (join u p) [] (λ g. omega arith), first k a) (old.corner k a)
        corner_of k q (no a) =
            let same : k ≡ m = omega arith in
            rw (put, same, get_or-set_same corners m (join u p) [] corners_room, last)

        inside : (k : ℕ) → k < m + 1 → Dec (k < m) → get_or (set places m i) k 0 < i + 1
        inside k q (yes a) = rw (first k a) (omega (arith, old.inside k a))
        inside k q (no a) = let same : k ≡ m = omega arith in rw (same, last) (omega arith)

        rising : (k : ℕ) → suc k < m + 1 → Dec (suc k < m) → get_or (set places m i) k 0 < get_or (set places m i) (suc k) 0
        rising k q (yes a) = rw (first k (omega arith), first (suc k) a) (old.rising k a)
        rising k q (no a) =
            let same : suc k ≡ m = omega arith in
            rw (first k (omega arith), same, last) (old.inside k (omega arith))

        every : (j : ℕ) → test (get_or all j []) ≡ true → j < i + 1 → Dec (j < i) → Stands (set places m i) (m + 1) j
        every j d q (yes a) =
            let s = old.every j a d in
            let within : s.k < m = s.within in
            record { k = s.k; within = omega arith; here = first s.k within ∙ s.here }
        every j d q (no a) = record { k = m; within = omega arith; here = last ∙ omega arith }

    -- Where p is past the limit on z, so is every later point.
    none_within : length limit ≡ 3 → get_or limit 2 0 < get_or p 2 0 → (j : ℕ) → i ≤ j → j < length points → test (get_or all j []) ≡ false
    none_within e beyond j n o =
        rw (corner_at u points j o, corner_within u (get_or points j []) limit h.asked.above)
        (past (get_or points j []) limit 2 (omega arith) (omega (arith, ascending_at h.asked.sorted i j n o)))

    pub gathering_stop : {t : List ℕ} → length limit ≡ 3 → t ≡ p → get_or limit 2 0 < get_or t 2 0 → Collected points u limit (length points) corners places m
    gathering_stop {t} e f beyond =
        record {
          few = omega (arith, old.few);
          all = old.all ∙ sym behind;
          corner = old.corner;
          inside = λ k q. omega (arith, old.inside k q);
          rising = old.rising;
          every = λ j q d. every j q d (dec_le (suc j) i);
        }
      where
        none : (j : ℕ) → i ≤ j → j < length points → test (get_or all j []) ≡ false
        none = none_within e (rw (← f) beyond)

        nothing : passing test (drop i all) ≡ []
        nothing =
            passing_none test (drop i all)
            (λ j n. rw (get_or-drop i all j []) (none (i + j) (omega arith) (omega (arith, length-drop i all, all_many))))

        behind : passing test (take (length points) all) ≡ passing test (take i all)
        behind =
            ap (passing test) (take_all (length points) all (omega (arith, all_many)) ∙ sym (take-append-drop i all))
            ∙ passing_append test (take i all) (drop i all)
            ∙ rw nothing (append-nil (passing test (take i all)))

        every : (j : ℕ) → j < length points → test (get_or all j []) ≡ true → Dec (j < i) → Stands places m j
        every j q d (yes a) = old.every j a d
        every j q d (no a) =
            let never : false ≡ true = sym (none j (omega arith) q) ∙ d in
            absurd (let z : ◌≡◌ {A = ℕ} 0 1 = cc in omega arith)
