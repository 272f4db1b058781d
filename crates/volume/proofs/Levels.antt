-- The layers in turn: after i points in ascending z, the area that they cover and the layers that are left.
use Prim.Native.Nat.{ℕ, zero, suc, ◌+◌, ◌-◌, ◌*◌, ◌/◌, ◌%◌, ◌^◌, ◌≤◌, ◌<◌, min, zero-le}
use mathlib.Core.Path.{◌≡◌, refl, sym, ap, ◌∙◌}
use mathlib.Core.Bool.{Bool, true, false}
use mathlib.Core.List.{List, ◌∷◌, ◌++◌, []}
use native.Mathlib.Nat.{zero-add, sub-zero, mul-one, mul-le-mul, sub_self}
use native.Mathlib.Decide.{dec_le}
use native.Mathlib.Numerals.{add-one}
use native.Mathlib.Omega.{arith}
use lib.Dec.{leb, eqb}
use lib.ListN.{length, take, get_or}
use lib.Ieee.{Float}
use borrow.Author.Tests.{le-leb, lt-leb, lt-ltb, le-ltb, eq-eqb, ne_eqb}
use Rattle.slices.specs.Choices.{both, either, pick}
use Rattle.slices.proofs.Choices.{both_comm}
use Rattle.hypervolume.specs.Cells.{holds, dominates, count, box}
use Rattle.hypervolume.specs.Counts.{cover, total}
use Rattle.hypervolume.proofs.Counting.{total_more, total_none, total_le_box}
use Rattle.hypervolume.proofs.Last.{dominates_last, cells_alike}
use Rattle.layers.specs.Layers.{begins, those, levels, area_at, next_level, layers_at, layers}
use Rattle.layers.proofs.Layers.{those_from}
use Rattle.order.specs.Order.{sum_of}
use Rattle.order.specs.Keys.{Taken}
use Rattle.order.proofs.Sums.{sum_next}
use Rattle.order.proofs.Keys.{sum_over, cover_over, of_key, by_keys, many, place_of, level_of, rises, sum_front, sum_at}
use Rattle.area.specs.Area.{spot, Stairs, Lined, Growing, Grew}
use Rattle.area.proofs.Growing.{none_kept, none_lined}
use Rattle.doubles.specs.Doubles.{zero_double, with_layer, sum_from}
use Rattle.volume.specs.Volume.{figure_of}
use Rattle.volume.specs.Layering.{level_at, layer_or}

-- The points of the first i keys, seen along z, the last one first.
unfoldable pub passed : List (List ℕ) → List ℕ → ℕ → List (List ℕ)
passed points keys zero = []
passed points keys (suc i) = spot (of_key points (get_or keys i 0)) ∷ passed points keys i

cover_passed : (points : List (List ℕ)) (keys : List ℕ) (i : ℕ) → i ≤ length keys → (c : List ℕ) → cover (passed points keys i) c ≡ sum_of (λ key. holds (dominates (spot (of_key points key)) c)) (take i keys)
unfolding cover passed sum_of
cover_passed points keys zero l c = refl
cover_passed points keys (suc i) l c =
    omega (arith, sum_next (λ key. holds (dominates (spot (of_key points key)) c)) keys i l, cover_passed points keys i (let m : i ≤ length keys = omega arith in m) c)

-- On two axes a point is what is seen of it.
seen : (p c : List ℕ) → length c ≡ 2 → dominates p c ≡ dominates (spot p) c
unfolding dominates both
seen p [] e = absurd (let no' : ⊥ = omega arith in no')
seen p (i ∷ []) e = absurd (let no' : ⊥ = omega arith in no')
seen p (i ∷ j ∷ k ∷ c) e = absurd (let no' : ⊥ = omega arith in no')
seen [] (i ∷ j ∷ []) e = rw (le-leb 0 i zero-le, le-leb 0 j zero-le)
seen (x ∷ []) (i ∷ j ∷ []) e = rw (le-leb 0 j zero-le)
seen (x ∷ y ∷ []) (i ∷ j ∷ []) e = refl
seen (x ∷ y ∷ z ∷ p) (i ∷ j ∷ []) e = refl

-- Whether a layer begins at z, by a sum over the points.
begins_over : (axes : ℕ) (points : List (List ℕ)) (z : ℕ) → begins axes points z ≡ leb 1 (sum_over (λ p. holds (eqb (get_or p axes 0) z)) points)
unfolding begins sum_over either holds
begins_over axes [] z = refl
begins_over axes (p ∷ points) z = go (eqb (get_or p axes 0) z) (begins_over axes points z)
  where
    go : (t : Bool) → begins axes points z ≡ leb 1 (sum_over (λ p. holds (eqb (get_or p axes 0) z)) points) → either t (begins axes points z) ≡ leb 1 (holds t + sum_over (λ p. holds (eqb (get_or p axes 0) z)) points)
    go true h = sym (le-leb 1 (1 + sum_over (λ p. holds (eqb (get_or p axes 0) z)) points) (omega arith))
    go false h = h ∙ ap (leb 1) (sym (zero-add (sum_over (λ p. holds (eqb (get_or p axes 0) z)) points)))

module _ {points : List (List ℕ)} {keys : List ℕ} (t : Taken 2 points keys) where
  abbrev z_of : ℕ → ℕ
  z_of j = get_or keys j 0 / 512

  abbrev starts : ℕ → Bool
  starts = begins 2 points

  -- The first i keys are at most z, the others above it: what covers layer z are the points passed.
  module _ (i z : ℕ) (l : i ≤ length keys) (low : (j : ℕ) → j < i → z_of j ≤ z) (high : (j : ℕ) → i ≤ j → j < length keys → z < z_of j) where
    within_layer : (c : List ℕ) → length c ≡ 2 → (j : ℕ) → j < length keys → z_of j ≤ z → holds (dominates (of_key points (get_or keys j 0)) (c ++ (z ∷ []))) ≡ holds (dominates (spot (of_key points (get_or keys j 0))) c)
    unfolding both
    within_layer c e j m n =
        let p = of_key points (get_or keys j 0) in
        rw (dominates_last p c z, e, ← (level_of t j m), le-leb (z_of j) z n, both_comm (dominates p c) true, seen p c e)

    above_layer : (c : List ℕ) → length c ≡ 2 → (j : ℕ) → j < length keys → z < z_of j → holds (dominates (of_key points (get_or keys j 0)) (c ++ (z ∷ []))) ≡ 0
    unfolding both holds
    above_layer c e j m n =
        let p = of_key points (get_or keys j 0) in
        rw (dominates_last p c z, e, ← (level_of t j m), lt-leb (z_of j) z n, both_comm (dominates p c) false)

    covered : (c : List ℕ) → length c ≡ 2 → cover points (c ++ (z ∷ [])) ≡ cover (passed points keys i) c
    covered c e =
        cover_over points (c ++ (z ∷ []))
        ∙ by_keys t (λ p. holds (dominates p (c ++ (z ∷ []))))
        ∙ sum_front (λ key. holds (dominates (of_key points key) (c ++ (z ∷ [])))) (λ key. holds (dominates (spot (of_key points key)) c)) keys i
        (λ j m n. within_layer c e j n (low j m))
        (λ j m n. above_layer c e j n (high j m n))
        ∙ sym (cover_passed points keys i l c)

    area_passed : (rx ry : ℕ) → area_at (rx ∷ ry ∷ []) points z ≡ total (rx ∷ ry ∷ []) (passed points keys i)
    unfolding area_at total count
    area_passed rx ry =
        cells_alike (rx ∷ ry ∷ []) (λ c. holds (leb 1 (cover points (c ++ (z ∷ []))))) (λ c. holds (leb 1 (cover (passed points keys i) c)))
        (λ c e. ap (λ n. holds (leb 1 n)) (covered c e))

  -- No point begins where no key has its z.
  quiet : (k : ℕ) → ((j : ℕ) → j < length keys → z_of j ≡ k → ⊥) → starts k ≡ false
  unfolding sum_of holds
  quiet k h =
      begins_over 2 points k
      ∙ ap (leb 1)
      (by_keys t (λ p. holds (eqb (get_or p 2 0) k))
      ∙ sum_front (λ key. holds (eqb (get_or (of_key points key) 2 0) k)) (λ key. 0) keys 0
      (λ j m n. absurd (let no' : ⊥ = omega arith in no'))
      (λ j m n. rw (← (level_of t j n), ne_eqb (z_of j) k (h j n))))

  starts_at : (j : ℕ) → j < length keys → starts (z_of j) ≡ true
  unfolding holds
  starts_at j l =
      begins_over 2 points (z_of j)
      ∙ le-leb 1 (sum_over (λ p. holds (eqb (get_or p 2 0) (z_of j))) points)
      (rw (by_keys t (λ p. holds (eqb (get_or p 2 0) (z_of j))))
      (omega (arith, sum_at (λ key. holds (eqb (get_or (of_key points key) 2 0) (z_of j))) keys j l, here)))
    where
      here : holds (eqb (get_or (of_key points (get_or keys j 0)) 2 0) (z_of j)) ≡ 1
      here = rw (eq-eqb (get_or (of_key points (get_or keys j 0)) 2 0) (z_of j) (sym (level_of t j l)))

-- The level of a place.
pub level_in : (keys : List ℕ) (i rz : ℕ) → i < length keys → level_at keys i rz ≡ min (get_or keys i 0 / 512) rz
unfolding level_at pick
level_in keys i rz l = rw (lt-ltb i (length keys) l)

pub level_out : (keys : List ℕ) (i rz : ℕ) → length keys ≤ i → level_at keys i rz ≡ rz
unfolding level_at pick
level_out keys i rz l = rw (le-ltb i (length keys) l)

pub layer_yes : (sum : Float) (area z next : ℕ) → z < next → layer_or sum area z next ≡ with_layer sum (record { area = area; height = next - z })
unfolding layer_or pick
layer_yes sum area z next l = rw (lt-ltb z next l)

pub layer_no : (sum : Float) (area z next : ℕ) → next ≤ z → layer_or sum area z next ≡ sum
unfolding layer_or pick
layer_no sum area z next l = rw (le-ltb z next l)

level_most : (keys : List ℕ) (i rz : ℕ) → level_at keys i rz ≤ rz
level_most keys i rz = go (dec_le (suc i) (length keys))
  where
    go : Dec (i < length keys) → level_at keys i rz ≤ rz
    go (yes l) = omega (arith, level_in keys i rz l)
    go (no l) = omega (arith, level_out keys i rz (let m : length keys ≤ i = omega arith in m))

-- What is kept from one point to the next: i points are passed, and z is the next level.
pub record Layering (points : List (List ℕ)) (keys : List ℕ) (rx ry rz : ℕ) (line : List ℕ) (sum : Float) (area m i z : ℕ) : Type 0 where
  pub part : i ≤ length keys
  pub level : z ≡ level_at keys i rz
  pub few : m ≤ i
  pub long : length line ≡ 512
  pub kept : Stairs (take m line)
  pub lined : Lined ry (passed points keys i) (take m line)
  pub counted : area ≡ total (rx ∷ ry ∷ []) (passed points keys i)
  pub left : sum_from sum (layers_at (rx ∷ ry ∷ []) rz points (those (begins 2 points) z (rz - z))) ≡ sum_from zero_double (layers (rx ∷ ry ∷ []) rz points)

module _ {points : List (List ℕ)} {keys : List ℕ} (t : Taken 2 points keys) (rx ry rz : ℕ) where
  -- the first level is that of the first key: below it no point begins
  from_first : (z : ℕ) → z ≡ level_at keys 0 rz → those (begins 2 points) z (rz - z) ≡ levels 2 rz points
  unfolding levels
  from_first z f =
      sym (those_from (begins 2 points) 0 z rz zero-le (omega (arith, level_most keys 0 rz)) (λ k l m. quiet t k (λ j n e. none j n e m)))
      ∙ ap (those (begins 2 points) 0) (sub-zero rz)
    where
      none : {k : ℕ} (j : ℕ) → j < length keys → get_or keys j 0 / 512 ≡ k → k < z → ⊥
      none j n e m = omega (arith, f, level_in keys 0 rz (let some' : 0 < length keys = omega arith in some'), rises t 0 j zero-le n, e)

  pub layering_none : (line : List ℕ) (z : ℕ) → length line ≡ 512 → z ≡ level_at keys 0 rz → Layering points keys rx ry rz line zero_double 0 0 0 z
  unfolding passed layers
  layering_none line z e f =
      record {
        part = zero-le;
        level = f;
        few = zero-le;
        long = e;
        kept = none_kept;
        lined = none_lined ry;
        counted = sym (total_none (rx ∷ ry ∷ []));
        left = ap (λ zs. sum_from zero_double (layers_at (rx ∷ ry ∷ []) rz points zs)) (from_first z f);
      }

  -- The next point, in a level below the reference's.
  module _ {line : List ℕ} {sum : Float} {area m i z : ℕ} (h : Layering points keys rx ry rz line sum area m i z) (below : z < rz) where
    pub layering_index : i < length keys
    layering_index = go (dec_le (suc i) (length keys))
      where
        go : Dec (i < length keys) → i < length keys
        go (yes l) = l
        go (no l) = absurd (let no' : ⊥ = omega (arith, h.level, level_out keys i rz (let m : length keys ≤ i = omega arith in m)) in no')

    pub layering_low : i < 512
    layering_low = omega (arith, layering_index, many t, t.few.few)

    pub layering_place : get_or keys i 0 % 512 < length points
    layering_place = place_of t i layering_index

    level_is : z ≡ get_or keys i 0 / 512
    level_is = omega (arith, h.level, level_in keys i rz layering_index)

    module _ {p : List ℕ} (here : p ≡ of_key points (get_or keys i 0)) (rx_small : rx ≤ 1048576) (ry_small : ry ≤ 1048576) where
      pub layering_growing : Growing line m p rx ry
      layering_growing =
          record {
            room = omega (arith, h.long, h.few, layering_low);
            kept = h.kept;
            small = λ k. rw here (t.few.small (get_or keys i 0 % 512) k);
            rx_small = rx_small;
            ry_small = ry_small;
          }

      module _ {left : List ℕ} {held gained : ℕ} (g : Grew m p rx ry (passed points keys i) left held gained) where
        next_counted : area + gained ≡ total (rx ∷ ry ∷ []) (passed points keys (i + 1))
        unfolding passed
        next_counted =
            rw (add-one i, ← here, total_more (rx ∷ ry ∷ []) (passed points keys i) (spot p), h.counted, g.gains)

        pub layering_fits : area + gained ≤ 2 ^ 53
        unfolding box
        layering_fits =
            let most : total (rx ∷ ry ∷ []) (passed points keys (i + 1)) ≤ rx * (ry * 1) = total_le_box (rx ∷ ry ∷ []) (passed points keys (i + 1)) in
            let small' : rx * (ry * 1) ≤ 1048576 * 1048576 = rw (mul-one ry) (mul-le-mul rx_small ry_small) in
            omega (arith, next_counted)

        module _ {next : ℕ} (e : next ≡ level_at keys (i + 1) rz) where
          pub next_most : next ≤ rz
          next_most = omega (arith, e, level_most keys (i + 1) rz)

          -- the keys behind have at least the next level
          behind : (j : ℕ) → i + 1 ≤ j → j < length keys → next ≤ get_or keys j 0 / 512
          behind j l m = omega (arith, e, level_in keys (i + 1) rz (let in' : i + 1 < length keys = omega arith in in'), rises t (i + 1) j l m)

          not_down : z ≤ next
          not_down = go (dec_le (suc (i + 1)) (length keys))
            where
              go : Dec (i + 1 < length keys) → z ≤ next
              go (yes l) = omega (arith, e, level_in keys (i + 1) rz l, level_is, rises t i (i + 1) (omega arith) l, below)
              go (no l) = omega (arith, e, level_out keys (i + 1) rz (let m : length keys ≤ i + 1 = omega arith in m), below)

          -- the next level is one, or the reference
          next_starts : next < rz → begins 2 points next ≡ true
          next_starts l = go (dec_le (suc (i + 1)) (length keys))
            where
              go : Dec (i + 1 < length keys) → begins 2 points next ≡ true
              go (yes m) = let is : next ≡ get_or keys (i + 1) 0 / 512 = omega (arith, e, level_in keys (i + 1) rz m) in rw is (starts_at t (i + 1) m)
              go (no m) = absurd (let no' : ⊥ = omega (arith, e, level_out keys (i + 1) rz (let n : length keys ≤ i + 1 = omega arith in n)) in no')

          next_first : next_level (those (begins 2 points) next (rz - next)) rz ≡ next
          unfolding those next_level pick
          next_first = go (dec_le (suc next) rz)
            where
              go : Dec (next < rz) → next_level (those (begins 2 points) next (rz - next)) rz ≡ next
              go (yes l) = let more : rz - next ≡ suc (rz - suc next) = omega arith in rw (more, next_starts l)
              go (no l) = let end : next ≡ rz = omega (arith, next_most) in rw (end, sub_self rz)

          module _ (rise : z < next) where
            between : (j : ℕ) → j < length keys → Dec (i + 1 ≤ j) → (k : ℕ) → suc z ≤ k → k < next → get_or keys j 0 / 512 ≡ k → ⊥
            between j l (yes m) k n o q = omega (arith, behind j m l)
            between j l (no m) k n o q = omega (arith, level_is, rises t j i (let p' : j ≤ i = omega arith in p') layering_index)

            levels_left : those (begins 2 points) z (rz - z) ≡ z ∷ those (begins 2 points) next (rz - next)
            unfolding those pick
            levels_left =
                let more : rz - z ≡ suc (rz - suc z) = omega arith in
                rw (more, level_is, starts_at t i layering_index, ← level_is)
                (ap (λ zs. z ∷ zs)
                (those_from (begins 2 points) (suc z) next rz rise next_most (λ k l m. quiet t k (λ j n q. between j n (dec_le (i + 1) j) k l m q))))

            layer_area : area_at (rx ∷ ry ∷ []) points z ≡ area + gained
            layer_area =
                area_passed t (i + 1) z (omega (arith, layering_index))
                (λ j l. omega (arith, level_is, rises t j i (let p' : j ≤ i = omega arith in p') layering_index))
                (λ j l m. omega (arith, behind j l m))
                rx ry
                ∙ sym next_counted

            one_layer : sum_from (with_layer sum (record { area = area + gained; height = next - z })) (layers_at (rx ∷ ry ∷ []) rz points (those (begins 2 points) next (rz - next))) ≡ sum_from sum (layers_at (rx ∷ ry ∷ []) rz points (those (begins 2 points) z (rz - z)))
            unfolding layers_at sum_from
            one_layer = rw (levels_left, next_first, layer_area)

          new_left : {sum' : Float} → sum' ≡ layer_or sum (area + gained) z next → sum_from sum' (layers_at (rx ∷ ry ∷ []) rz points (those (begins 2 points) next (rz - next))) ≡ sum_from zero_double (layers (rx ∷ ry ∷ []) rz points)
          new_left {sum'} f = go (dec_le (suc z) next)
            where
              go : Dec (z < next) → sum_from sum' (layers_at (rx ∷ ry ∷ []) rz points (those (begins 2 points) next (rz - next))) ≡ sum_from zero_double (layers (rx ∷ ry ∷ []) rz points)
              go (yes l) = rw (f, layer_yes sum (area + gained) z next l) (one_layer l ∙ h.left)
              go (no l) = let same : next ≡ z = omega (arith, not_down) in rw (f, layer_no sum (area + gained) z next (omega arith), same) h.left

          pub layering_more : {sum' : Float} → length left ≡ length line → sum' ≡ layer_or sum (area + gained) z next → Layering points keys rx ry rz left sum' (area + gained) held (i + 1) next
          unfolding passed
          layering_more d f =
              record {
                part = omega (arith, layering_index);
                level = e;
                few = omega (arith, g.few, h.few);
                long = d ∙ h.long;
                kept = g.kept;
                lined = rw (add-one i, ← here) g.lined;
                counted = next_counted;
                left = new_left f;
              }

  -- At the reference nothing is left.
  pub layering_end : {line : List ℕ} {sum : Float} {area m i z : ℕ} → Layering points keys rx ry rz line sum area m i z → rz ≤ z → sum ≡ sum_from zero_double (layers (rx ∷ ry ∷ []) rz points)
  unfolding layers_at sum_from those
  layering_end {z = z} h l = let none : rz - z ≡ 0 = omega arith in rw none at h.left

-- The figure of a reference of three numbers.
pub figure_is : (r : List ℕ) (points : List (List ℕ)) → length r ≡ 3 → sum_from zero_double (layers (get_or r 0 0 ∷ get_or r 1 0 ∷ []) (get_or r 2 0) points) ≡ figure_of r points
unfolding figure_of
figure_is [] points e = absurd (let no' : ⊥ = omega arith in no')
figure_is (a ∷ []) points e = absurd (let no' : ⊥ = omega arith in no')
figure_is (a ∷ b ∷ []) points e = absurd (let no' : ⊥ = omega arith in no')
figure_is (a ∷ b ∷ c ∷ r) points e = refl
