-- The points in ascending w: what is kept from one to the next, and what it comes to after the last.
use Prim.Native.Nat.{ℕ, zero, suc, ◌+◌, ◌-◌, ◌*◌, ◌/◌, ◌%◌, ◌^◌, ◌≤◌, ◌<◌}
use mathlib.Core.Path.{◌≡◌, refl, sym, ap, subst, ◌∙◌}
use mathlib.Core.Bool.{Bool, true, false, not}
use mathlib.Core.List.{List, ◌∷◌, ◌++◌, map, []}
use native.Mathlib.Decide.{dec_lt}
use native.Mathlib.Numerals.{add-one}
use native.Mathlib.Omega.{arith}
use lib.Dec.{leb}
use lib.ListN.{length, take, get_or, length-map, length-take, get_or-eq_default}
use lib.Seq.{length-take-le, get_or-take}
use borrow.Author.Tests.{le-leb, leb-true}
use Rattle.slices.proofs.Choices.{both_true, both_intro}
use Rattle.hypervolume.specs.Cells.{holds, box}
use Rattle.hypervolume.specs.Counts.{total, contributions, gain}
use Rattle.hypervolume.specs.Sorted.{Small, Sorted}
use Rattle.hypervolume.proofs.Counting.{total_none, total_le_box, gain_le_box}
use Rattle.hypervolume.proofs.Last.{Under}
use Rattle.words.specs.Format.{within, each}
use Rattle.words.proofs.Passed.{each_bounds}
use Rattle.order.specs.Order.{sum_of, Ordered}
use Rattle.order.specs.Keys.{Keyed}
use Rattle.order.proofs.Sums.{sum_next}
use Rattle.order.proofs.Keys.{many, place_of, level_of, rises, sum_front, sum_at}
use Rattle.sweep.proofs.Front.{getD_mapped}
use Rattle.corners.specs.Updating.{Scratch}
use Rattle.held.specs.Held.{entered, Entered, Recounting, Passed}
use Rattle.held.proofs.Entering.{map_entered}
use Rattle.sweep4.specs.Quadruples.{points_of}
use Rattle.sweep4.specs.Passing.{Readable, at_places, Taking, Swept, Counted}
use Rattle.sweep4.proofs.Reading.{points_many, point_small, points_few}
use Rattle.sweep4.proofs.Layers.{layered_gain, enough, entered_total, entered_contributions, small_box}

sum_entered : (f : ℕ → ℕ) (k a : ℕ) (l : List ℕ) → sum_of f (entered k a l) ≡ sum_of f l + f a
unfolding sum_of entered
sum_entered f zero a l = omega arith
sum_entered f (suc k) a [] = omega arith
sum_entered f (suc k) a (b ∷ l) = omega (arith, sum_entered f k a l)

-- What passes at every place of the keys passes at every place held.
pub each_held : (keys held : List ℕ) (i : ℕ) → i ≤ length keys → i ≤ length held → ((f : ℕ → ℕ) → sum_of f (take i held) ≡ sum_of (λ key. f (key % 512)) (take i keys))
    → (test : ℕ → Bool) → ((j : ℕ) → j < i → test (get_or keys j 0 % 512) ≡ true) → (k : ℕ) → k < i → test (get_or held k 0) ≡ true
unfolding holds sum_of
each_held keys held i l m same test h k o = go (test (get_or held k 0)) refl
  where
    fails : ℕ → ℕ
    fails a = holds (not (test a))

    keys_long : length (take i keys) ≡ i
    keys_long = length-take-le i keys l

    none : sum_of fails (take i held) ≡ 0
    none =
        same fails
        ∙ sum_front (λ key. fails (key % 512)) (λ key. 0) (take i keys) 0 (λ j p q. absurd (let no' : ⊥ = omega arith in no'))
        (λ j p q. rw (get_or-take i keys j 0 (omega (arith, keys_long)), h j (omega (arith, keys_long))))

    here : fails (get_or held k 0) ≤ 0
    here =
        let most : fails (get_or (take i held) k 0) ≤ sum_of fails (take i held) = sum_at fails (take i held) k (omega (arith, length-take-le i held m)) in
        let at : get_or (take i held) k 0 ≡ get_or held k 0 = get_or-take i held k 0 o in
        subst (λ a. fails a ≤ 0) at (omega (arith, none))

    go : (t : Bool) → test (get_or held k 0) ≡ t → t ≡ true
    go true e = refl
    go false e = absurd (let no' : 1 ≤ 0 = subst (λ t. holds (not t) ≤ 0) e here in (let no'' : ⊥ = omega arith in no''))

-- A reference in two parts, each judged.
pub each_part : (test : ℕ → Bool) (l m : List ℕ) → each test (l ++ m) ≡ true → (each test l ≡ true) × (each test m ≡ true)
unfolding each
each_part test [] m e = (refl, e)
each_part test (a ∷ l) m e =
    let parts = both_true (test a) (each test (l ++ m)) e in
    let later = each_part test l m parts.1 in
    (both_intro (test a) (each test l) parts.0 later.0, later.1)

-- What the keys in order are.
pub taking : {coords given keys reference : List ℕ} {r₄ : ℕ} → Readable coords → Keyed 3 (points_of coords) given → Ordered given keys → each (within 1 32768) (reference ++ (r₄ ∷ [])) ≡ true → Taking coords keys reference r₄
taking {coords} {given} {keys} {reference} {r₄} r k o e =
    let parts = each_part (within 1 32768) reference (r₄ ∷ []) e in
    record {
      readable = r;
      taken = record { few = points_few r; given = given; keyed = k; ordered = o };
      reference_small = λ axis. (each_bounds 1 32768 reference parts.0 axis).1;
      last_small = (each_bounds 1 32768 (r₄ ∷ []) parts.1 0).1;
    }

-- After i points.
pub record Sweeping (coords keys reference : List ℕ) (r₄ : ℕ) (points : List (List ℕ)) (own whose : List ℕ) (corners : List (List ℕ)) (places line counts : List ℕ) (sum i : ℕ) : Type 0 where
  pub part : i ≤ length keys
  pub points_long : length points ≡ 512
  pub own_long : length own ≡ 512
  pub whose_long : length whose ≡ 512
  pub corners_long : length corners ≡ 512
  pub places_long : length places ≡ 512
  pub line_long : length line ≡ 512
  pub counts_long : length counts ≡ 512
  pub swept : Swept (reference ++ (r₄ ∷ [])) (points_of coords) keys i own whose sum
  pub sorted : Sorted (take i points)
  pub seen : take i points ≡ map (take 3) (at_places (points_of coords) (take i whose))

pub sweeping_none : (coords keys reference : List ℕ) (r₄ : ℕ) (points : List (List ℕ)) (own whose : List ℕ) (corners : List (List ℕ)) (places line counts : List ℕ) → length points ≡ 512 → length own ≡ 512 → length whose ≡ 512
    → length corners ≡ 512 → length places ≡ 512 → length line ≡ 512 → length counts ≡ 512 → Sweeping coords keys reference r₄ points own whose corners places line counts 0 0
unfolding at_places contributions sum_of
sweeping_none coords keys reference r₄ points own whose corners places line counts a b c d e f g =
    record {
      part = omega arith;
      points_long = a;
      own_long = b;
      whose_long = c;
      corners_long = d;
      places_long = e;
      line_long = f;
      counts_long = g;
      swept = record { same = λ f. refl; counted = sym (total_none (reference ++ (r₄ ∷ []))); each = refl };
      sorted =
          record {
            few = omega arith;
            axes = λ k l. absurd (let no' : ⊥ = omega arith in no');
            small = λ k axis. omega arith;
            rising = λ k l. absurd (let no' : ⊥ = omega arith in no');
          };
      seen = refl;
    }

module _ {coords keys reference : List ℕ} {r₄ : ℕ} (t : Taking coords keys reference r₄) (axes : length reference ≡ 3) where
  abbrev all : List (List ℕ)
  all = points_of coords

  abbrev whole : List ℕ
  whole = reference ++ (r₄ ∷ [])

  keys_few : length keys ≤ 512
  keys_few = omega (arith, many t.taken, t.taken.few.few)

  box_fits : (k : ℕ) → k ≤ box whole → k ≤ 1152921504606846976
  box_fits k l =
      let most : box whole ≤ 32768 ^ suc (length reference) = small_box reference r₄ t.reference_small t.last_small in
      let four : 32768 ^ suc (length reference) ≡ 1152921504606846976 = ap (λ n. 32768 ^ suc n) axes in
      omega arith

  -- The next point, of the key at i.
  module _ {points : List (List ℕ)} {own whose : List ℕ} {corners : List (List ℕ)} {places line counts : List ℕ} {sum i : ℕ} (h : Sweeping coords keys reference r₄ points own whose corners places line counts sum i) (l : i < length keys) where
    abbrev place : ℕ
    place = get_or keys i 0 % 512

    abbrev next : List ℕ
    next = get_or (points_of coords) (get_or keys i 0 % 512) []

    abbrev passed : List (List ℕ)
    passed = at_places (points_of coords) (take i whose)

    pub sweeping_few : i < 512
    sweeping_few = omega (arith, keys_few)

    pub sweeping_place : get_or keys i 0 % 512 < length coords / 4
    sweeping_place = omega (arith, place_of t.taken i l, points_many coords)

    pub sweeping_scratch : Scratch i corners places line counts
    sweeping_scratch =
        record {
          corners_room = omega (arith, h.corners_long, sweeping_few);
          places_room = omega (arith, h.places_long, sweeping_few);
          line_room = omega (arith, h.line_long, sweeping_few);
          counts_room = omega (arith, h.counts_long, sweeping_few);
        }

    level : get_or keys i 0 / 512 ≡ get_or next 3 0
    level = level_of t.taken i l

    whose_many : length (take i whose) ≡ i
    whose_many = length-take-le i whose (omega (arith, h.whose_long, sweeping_few))

    passed_many : length passed ≡ i
    unfolding at_places
    passed_many = length-map (take i whose) (λ a. get_or (points_of coords) a []) ∙ whose_many

    passed_at : (j : ℕ) → j < i → get_or passed j [] ≡ get_or all (get_or whose j 0) []
    unfolding at_places
    passed_at j m =
        getD_mapped (λ a. get_or (points_of coords) a []) 0 [] (take i whose) j (omega (arith, whose_many))
        ∙ ap (λ a. get_or (points_of coords) a []) (get_or-take i whose j 0 m)

    -- None of the points passed has a larger w.
    under : Under 3 (get_or next 3 0) passed
    under j m =
        let inside : j < i = omega (arith, passed_many) in
        rw (passed_at j inside)
        (leb-true (get_or (get_or all (get_or whose j 0) []) 3 0) (get_or next 3 0)
        (each_held keys whose i h.part (omega (arith, h.whose_long, sweeping_few)) h.swept.same (λ a. leb (get_or (get_or all a []) 3 0) (get_or next 3 0)) low j inside))
      where
        low : (k : ℕ) → k < i → leb (get_or (get_or all (get_or keys k 0 % 512) []) 3 0) (get_or next 3 0) ≡ true
        low k o =
            le-leb (get_or (get_or all (get_or keys k 0 % 512) []) 3 0) (get_or next 3 0)
            (omega (arith, level, level_of t.taken k (let p : k < length keys = omega arith in p), rises t.taken k i (let q : k ≤ i = omega arith in q) l))

    module _ {p : List ℕ} {height : ℕ} (here : p ≡ take 3 next) (high : height ≡ r₄ - get_or keys i 0 / 512) where
      high_is : height ≡ r₄ - get_or next 3 0
      high_is = high ∙ ap (λ w. r₄ - w) level

      gained : gain whole passed next ≡ height * gain reference (take i points) p
      gained = rw (high_is, here, h.seen) (layered_gain reference r₄ 3 axes passed next under)

      small : Small p
      small axis = rw here (go (dec_lt axis 3))
        where
          go : Dec (axis < 3) → get_or (take 3 next) axis 0 ≤ 1048576
          go (yes m) = rw (get_or-take 3 next axis 0 m) (omega (arith, point_small t.readable (get_or keys i 0 % 512) axis))
          go (no m) = rw (get_or-eq_default (take 3 next) 0 {n = axis} (omega (arith, length-take 3 next))) (omega arith)

      pub sweeping_recounting : Recounting points own i p height reference
      sweeping_recounting =
          record {
            points_room = omega (arith, h.points_long, sweeping_few);
            own_room = omega (arith, h.own_long, sweeping_few);
            sorted = h.sorted;
            small = small;
            reference_small = λ axis. omega (arith, t.reference_small axis);
            enough = λ j m. rw (high_is, here, h.seen, h.swept.each) (enough reference r₄ 3 axes passed next under j (omega (arith, passed_many)));
            fits = omega (arith, gained, box_fits (gain whole passed next) (gain_le_box whole passed next));
          }

      module _ {points' : List (List ℕ)} {own' whose' : List ℕ} {more : ℕ} (d : Passed p place height reference i points own whose points' own' whose' more) where
        whose_now : take (suc i) whose' ≡ entered d.at place (take i whose)
        unfolding Entered
        whose_now = d.held_now

        passed_now : at_places all (take (suc i) whose') ≡ entered d.at next passed
        unfolding at_places
        passed_now = ap (map (λ a. get_or (points_of coords) a [])) whose_now ∙ map_entered (λ a. get_or (points_of coords) a []) d.at place (take i whose)

        more_is : more ≡ gain whole passed next
        more_is = d.gains ∙ sym gained

        total_now : total whole (at_places all (take (suc i) whose')) ≡ sum + more
        total_now = rw (passed_now, h.swept.counted, more_is) (entered_total reference r₄ 3 axes passed next under d.at)

        pub sweeping_fits : sum + more < 2 ^ 64
        sweeping_fits =
            omega (arith, total_now, box_fits (total whole (at_places all (take (suc i) whose'))) (total_le_box whole (at_places all (take (suc i) whose'))))

        own_is : take (suc i) own' ≡ contributions whole (at_places all (take (suc i) whose'))
        own_is =
            d.own_now
            ∙ rw (passed_now, more_is, high_is, here, h.seen, h.swept.each) (sym (entered_contributions reference r₄ 3 axes passed next under d.at))

        seen_now : take (suc i) points' ≡ map (take 3) (at_places all (take (suc i) whose'))
        unfolding Entered
        seen_now = d.points_now ∙ rw (passed_now, here, h.seen) (sym (map_entered (take 3) d.at next passed))

        same_now : (f : ℕ → ℕ) → sum_of f (take (suc i) whose') ≡ sum_of (λ key. f (key % 512)) (take (suc i) keys)
        same_now f =
            rw (whose_now, sum_entered f d.at place (take i whose), sum_next (λ key. f (key % 512)) keys i l, h.swept.same f)

        pub sweeping_more : {corners' : List (List ℕ)} {places' line' counts' : List ℕ} → length points' ≡ length points → length own' ≡ length own → length whose' ≡ length whose
            → length corners' ≡ length corners → length places' ≡ length places → length line' ≡ length line → length counts' ≡ length counts
            → Sweeping coords keys reference r₄ points' own' whose' corners' places' line' counts' (sum + more) (i + 1)
        sweeping_more a b c e f g k =
            rw (add-one i)
            record {
              part = l;
              points_long = a ∙ h.points_long;
              own_long = b ∙ h.own_long;
              whose_long = c ∙ h.whose_long;
              corners_long = e ∙ h.corners_long;
              places_long = f ∙ h.places_long;
              line_long = g ∙ h.line_long;
              counts_long = k ∙ h.counts_long;
              swept = record { same = same_now; counted = sym total_now; each = own_is };
              sorted = d.sorted;
              seen = seen_now;
            }

pub sweeping_counted : {coords keys own whose : List ℕ} {sum : ℕ} (reference : List ℕ) (r₄ : ℕ) → Taking coords keys reference r₄ → Swept (reference ++ (r₄ ∷ [])) (points_of coords) keys (length keys) own whose sum → Counted (reference ++ (r₄ ∷ [])) (points_of coords) own whose sum
sweeping_counted reference r₄ t s = record { keys = _; taken = t.taken; swept = s }
