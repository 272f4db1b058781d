-- The counts put back in the order of the input: the points held are all points, each at its place.
use Prim.Native.Nat.{ℕ, zero, suc, ◌+◌, ◌-◌, ◌/◌, ◌%◌, ◌≤◌, ◌<◌}
use mathlib.Core.Path.{◌≡◌, refl, sym, ap, subst, ◌∙◌}
use mathlib.Core.Bool.{true}
use mathlib.Core.Logic.{◌⊎◌, inl, inr}
use mathlib.Core.List.{List, ◌∷◌, ◌++◌, []}
use native.Mathlib.Decide.{dec_lt}
use native.Mathlib.Nat.{zero-add}
use native.Mathlib.Numerals.{add-one}
use native.Mathlib.Omega.{arith}
use lib.Dec.{ltb, eqb}
use lib.ListN.{length, take, drop, get_or, set, length-set, length-map, length-append, length-drop, get_or-append}
use lib.Seq.{length-take-le, get_or-take, take_all, get_or-append-add, get_or-drop}
use borrow.Author.Tests.{le-leb, lt-ltb, ltb-true, eqb-true}
use Rattle.slices.specs.Put.{put}
use Rattle.slices.specs.Spread.{spread, Stands}
use Rattle.slices.proofs.Spread.{length_spread, spread_more}
use Rattle.slices.proofs.Due.{Due, due_spread}
use Rattle.hypervolume.specs.Cells.{holds, dominates, sum}
use Rattle.hypervolume.specs.Counts.{cover, total, contribution, contributions}
use Rattle.hypervolume.proofs.Counting.{SameCover, total_same, contribution_same}
use Rattle.order.specs.Order.{sum_of, some}
use Rattle.order.specs.Keys.{Taken}
use Rattle.order.proofs.Sums.{equal_one}
use Rattle.order.proofs.Somes.{Found, found, some_sum}
use Rattle.order.proofs.Keys.{cover_over, by_places, by_keys, many, place_of}
use Rattle.sweep.proofs.Front.{getD_mapped}
use Rattle.sweep4.specs.Quadruples.{points_of, counts_of}
use Rattle.sweep4.specs.Passing.{at_places, Swept, Counted, Placeable}
use Rattle.sweep4.proofs.Reading.{points_many}
use Rattle.sweep4.proofs.Sweeping.{each_held}

spread_none : (l numbers : List ℕ) → spread l [] numbers ≡ l
unfolding spread
spread_none l numbers = refl

-- The loop that puts numbers at places, behind the total.
pub record Putting (sum : ℕ) (numbers places old now : List ℕ) (i : ℕ) : Type 0 where
  pub placed : Placeable numbers places old
  pub part : i ≤ length places
  pub done : now ≡ sum ∷ spread (drop 1 old) (take i places) (take i numbers)

pub putting_none : (sum : ℕ) {numbers places out : List ℕ} → Placeable numbers places out → Putting sum numbers places (set out 0 sum) (set out 0 sum) 0
putting_none sum {numbers} {places} {out} p =
    record {
      placed =
          record {
            many = p.many;
            some = rw (length-set out 0 sum) p.some;
            inside = λ k l. rw (length-set out 0 sum) (p.inside k l);
            few = p.few;
          };
      part = omega arith;
      done = first out p.some;
    }
  where
    first : (l : List ℕ) → 0 < length l → set l 0 sum ≡ sum ∷ spread (drop 1 (set l 0 sum)) (take 0 places) (take 0 numbers)
    first [] m = absurd (let no' : ⊥ = omega arith in no')
    first (a ∷ l) m = ap (λ t. sum ∷ t) (sym (spread_none l (take 0 numbers)))

module _ {sum : ℕ} {numbers places old now : List ℕ} {i : ℕ} (h : Putting sum numbers places old now i) where
  pub putting_long : length now ≡ length old
  putting_long =
      let behind : length (spread (drop 1 old) (take i places) (take i numbers)) ≡ length (drop 1 old) = length_spread (drop 1 old) (take i places) (take i numbers) in
      ap length h.done ∙ omega (arith, length-drop 1 old, h.placed.some)

  module _ (l : i < length places) where
    pub putting_more : Putting sum numbers places old (set now (get_or places i 0 + 1) (get_or numbers i 0)) (i + 1)
    putting_more =
        record {
          placed = h.placed;
          part = omega arith;
          done = rw (h.done, add-one (get_or places i 0), add-one i, spread_more (drop 1 old) places numbers i h.placed.many l);
        }

-- ---- the points held are all points

cover_places : (points : List (List ℕ)) (l c : List ℕ) → cover (at_places points l) c ≡ sum_of (λ a. holds (dominates (get_or points a []) c)) l
unfolding at_places cover sum_of
cover_places points [] c = refl
cover_places points (a ∷ l) c = rw (cover_places points l c)

-- Each summand is at most the sum.
sum_has : (n : ℕ) (f : ℕ → ℕ) (j : ℕ) → j < n → f j ≤ sum n f
unfolding sum
sum_has zero f j l = absurd (let no' : ⊥ = omega arith in no')
sum_has (suc n) f j l = go (dec_lt j n) (sum_has n f j)
  where
    go : Dec (j < n) → (j < n → f j ≤ sum n f) → f j ≤ sum n f + f n
    go (yes m) earlier = omega (arith, earlier m)
    go (no m) earlier = let last : j ≡ n = omega arith in rw last (omega arith)

module _ {reference : List ℕ} {points : List (List ℕ)} {own whose : List ℕ} {sum' : ℕ} (d : Counted reference points own whose sum') (own_room : length points ≤ length own) (whose_room : length points ≤ length whose) where
  abbrev keys : List ℕ
  keys = d.keys

  t : Taken 3 points d.keys
  t = d.taken

  abbrev n : ℕ
  n = length points

  abbrev places : List ℕ
  places = take (length points) whose

  abbrev numbers : List ℕ
  numbers = take (length points) own

  all_many : length keys ≡ n
  all_many = many t

  h : Swept reference points keys n own whose sum'
  h = subst (λ k. Swept reference points d.keys k own whose sum') all_many d.swept

  places_many : length places ≡ n
  places_many = length-take-le n whose whose_room

  numbers_many : length numbers ≡ n
  numbers_many = length-take-le n own own_room

  same : (f : ℕ → ℕ) → sum_of f places ≡ sum_of (λ key. f (key % 512)) keys
  same f = h.same f ∙ ap (sum_of (λ key. f (key % 512))) (take_all n keys (omega (arith, all_many)))

  same_cover : SameCover (at_places points places) points
  unfolding SameCover
  same_cover c =
      cover_places points places c
      ∙ same (λ a. holds (dominates (get_or points a []) c))
      ∙ sym (cover_over points c ∙ by_keys t (λ p. holds (dominates p c)))

  held_inside : (k : ℕ) → k < n → get_or whose k 0 < n
  held_inside k l =
      ltb-true (get_or whose k 0) n
      (each_held keys whose n (omega (arith, all_many)) whose_room h.same (λ a. ltb a n)
      (λ j m. lt-ltb (get_or keys j 0 % 512) n (place_of t j (omega (arith, all_many)))) k l)

  stands : (j : ℕ) → j < n → Stands places (length places) j
  stands j l =
      let f : Found (λ a. eqb a j) places = found (λ a. eqb a j) places some_one in
      record { k = f.at; within = f.within; here = eqb-true (get_or places f.at 0) j f.passes }
    where
      some_one : some (λ a. eqb a j) places ≡ true
      some_one =
          some_sum (λ a. eqb a j) places
          ∙ le-leb 1 (sum_of (λ a. holds (eqb a j)) places)
          (rw (same (λ a. holds (eqb a j)), by_places t (λ a. holds (eqb a j)))
          (omega (arith, equal_one j j refl, sum_has (length points) (λ a. holds (eqb a j)) j l)))

  counts_many : length (contributions reference points) ≡ n
  unfolding contributions
  counts_many = length-map points (λ p. contribution reference points p)

  counts_at : (j : ℕ) → j < n → get_or (contributions reference points) j 0 ≡ contribution reference points (get_or points j [])
  unfolding contributions
  counts_at j l = getD_mapped (λ p. contribution reference points p) [] 0 points j l

  number_at : (k : ℕ) → k < n → get_or numbers k 0 ≡ contribution reference points (get_or points (get_or places k 0) [])
  unfolding at_places contributions
  number_at k l =
      ap (λ x. get_or x k 0) h.each
      ∙ getD_mapped (λ p. contribution reference (at_places points places) p) [] 0 (at_places points places) k (omega (arith, length-map places (λ a. get_or points a []), places_many))
      ∙ ap (contribution reference (at_places points places)) (getD_mapped (λ a. get_or points a []) 0 [] places k (omega (arith, places_many)))
      ∙ contribution_same reference (at_places points places) points (get_or points (get_or places k 0) []) same_cover

  module _ (out : List ℕ) (room : n ≤ length out) where
    abbrev new : List ℕ
    new = contributions reference points ++ drop n out

    new_many : length new ≡ length out
    new_many = omega (arith, length-append (contributions reference points) (drop n out), counts_many, length-drop n out)

    new_front : (j : ℕ) → j < n → get_or new j 0 ≡ get_or (contributions reference points) j 0
    new_front j l = get_or-append (contributions reference points) (drop n out) 0 j (omega (arith, counts_many))

    new_back : (j : ℕ) → n ≤ j → get_or new j 0 ≡ get_or out j 0
    new_back j l =
        let split : j ≡ length (contributions reference points) + (j - n) = omega (arith, counts_many) in
        rw split (get_or-append-add (contributions reference points) (drop n out) (j - n) 0 ∙ get_or-drop n out (j - n) 0 ∙ rw counts_many)

    due : Due new out places numbers
    due =
        record {
          long = sym new_many;
          many = numbers_many ∙ sym places_many;
          inside = λ k l. omega (arith, new_many, place_inside k (let m : k < n = omega (arith, places_many) in m));
          right = λ k l. right k (omega (arith, places_many));
          every = λ j l. every j (dec_lt j n);
        }
      where
        place_inside : (k : ℕ) → k < n → get_or places k 0 < n
        place_inside k l = rw (get_or-take n whose k 0 l) (held_inside k l)

        right : (k : ℕ) → k < n → get_or numbers k 0 ≡ get_or new (get_or places k 0) 0
        right k l =
            number_at k l
            ∙ sym (new_front (get_or places k 0) (place_inside k l) ∙ counts_at (get_or places k 0) (place_inside k l))

        every : (j : ℕ) → Dec (j < n) → (get_or out j 0 ≡ get_or new j 0) ⊎ Stands places (length places) j
        every j (yes l) = inr (stands j l)
        every j (no l) = inl (sym (new_back j (omega arith)))

    back : spread out places numbers ≡ contributions reference points ++ drop n out
    back = sym (due_spread new out places numbers due)

  counted_total : sum' ≡ total reference points
  counted_total = h.counted ∙ total_same reference (at_places points places) points same_cover

  pub counted_placeable : (out : List ℕ) → n < length out → Placeable numbers places out
  counted_placeable out room =
      record {
        many = numbers_many ∙ sym places_many;
        some = omega arith;
        inside = λ k l.
            let low : k < n = omega (arith, places_many) in
            let there : get_or (take n whose) k 0 ≡ get_or whose k 0 = get_or-take n whose k 0 low in
            omega (arith, held_inside k low);
        few = λ k l.
            let low : k < n = omega (arith, places_many) in
            let there : get_or (take n whose) k 0 ≡ get_or whose k 0 = get_or-take n whose k 0 low in
            omega (arith, held_inside k low, t.few.few);
      }

  -- The total in front.
  pub counted_put : (out : List ℕ) → n < length out → sum' ∷ spread (drop 1 out) places numbers ≡ put out 0 (counts_of reference points)
  unfolding put counts_of
  counted_put [] l = absurd (let no' : ⊥ = omega arith in no')
  counted_put (o ∷ out) l =
      rw (counted_total, back out (omega arith), zero-add (suc (length (contributions reference points))), counts_many)

-- The same of the points of coordinates, by how many there are.
module _ (coords : List ℕ) {reference own whose : List ℕ} {sum : ℕ} (d : Counted reference (points_of coords) own whose sum) (own_room : length coords / 4 ≤ length own) (whose_room : length coords / 4 ≤ length whose) (out : List ℕ) (room : length coords / 4 < length out) where
  pub count_placeable : Placeable (take (length coords / 4) own) (take (length coords / 4) whose) out
  count_placeable =
      subst (λ n. n ≤ length own → n ≤ length whose → n < length out → Placeable (take n own) (take n whose) out) (points_many coords)
      (λ a b c. counted_placeable d a b out c)
      own_room whose_room room

  pub count_put : sum ∷ spread (drop 1 out) (take (length coords / 4) whose) (take (length coords / 4) own) ≡ put out 0 (counts_of reference (points_of coords))
  count_put =
      subst (λ n. n ≤ length own → n ≤ length whose → n < length out → sum ∷ spread (drop 1 out) (take n whose) (take n own) ≡ put out 0 (counts_of reference (points_of coords))) (points_many coords)
      (λ a b c. counted_put d a b out c)
      own_room whose_room room
