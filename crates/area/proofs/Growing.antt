-- One more point in the stairs: those that it covers leave, and it takes their place; or it is covered and left out.
use Prim.Native.Nat.{ℕ, zero, suc, ◌+◌, ◌≤◌, ◌<◌, zero-le}
use mathlib.Core.Path.{◌≡◌, refl, sym, ap, ◌∙◌}
use mathlib.Core.Bool.{Bool, true, false, true≢false}
use mathlib.Core.List.{List, ◌∷◌, ◌++◌, []}
use native.Mathlib.Nat.{add_assoc, zero-add}
use native.Mathlib.Decide.{dec_le}
use native.Mathlib.Omega.{arith}
use lib.Dec.{leb, eqb}
use lib.ListN.{length, take, drop, get_or, take-append-drop, length-take, length-drop}
use lib.Seq.{take-take, get_or-take, get_or-drop, length-take-le}
use borrow.Author.Tests.{le-leb, leb-true, ne_eqb}
use Rattle.slices.specs.Choices.{both}
use Rattle.slices.proofs.Choices.{both_comm, both_true}
use Rattle.hypervolume.specs.Cells.{holds, dominates}
use Rattle.hypervolume.specs.Counts.{cover, gain}
use Rattle.hypervolume.proofs.Counting.{count_none}
use Rattle.line.specs.Line.{entry_of, x_of, y_of, over, low, tally, Rising, Ranked}
use Rattle.line.proofs.Rising.{rising_front, rising_back, rising_from, rising_join}
use Rattle.line.proofs.Entries.{covers_further, take_drop}
use Rattle.line.proofs.Tally.{tally_none, column_least, over_append, over_cons}
use Rattle.strips.specs.Strips.{gain_over}
use Rattle.sweep.proofs.Layers.{count_layer}
use Rattle.area.proofs.Crossing.{low_at, front_falls}
use Rattle.area.specs.Area.{spot, Falling, Stairs, Lined, Topped, Crossing, Crossed, Growing, Grew}

-- No point passed.
pub none_kept : Stairs []
unfolding Rising
none_kept = record { rising = tt; falling = λ a b l m. absurd (let no' : ⊥ = omega arith in no') }

pub none_lined : (ry : ℕ) → Lined ry [] []
unfolding over tally cover
none_lined ry = record { covers = λ i j l. refl }

-- ---- stairs in parts

under_all : (v : ℕ) (s t : List ℕ) → ((a : ℕ) → a < length s → y_of (get_or s a 0) < v) → ((b : ℕ) → b < length t → y_of (get_or t b 0) < v) → (k : ℕ) → k < length (s ++ t) → y_of (get_or (s ++ t) k 0) < v
under_all v [] t h g k l = g k l
under_all v (w ∷ s) t h g zero l = h 0 (omega arith)
under_all v (w ∷ s) t h g (suc k) l = under_all v s t (λ a m. h (suc a) (omega arith)) g k (omega arith)

falling_join : (s t : List ℕ) → Falling s → Falling t → ((a b : ℕ) → a < length s → b < length t → y_of (get_or t b 0) < y_of (get_or s a 0)) → Falling (s ++ t)
falling_join [] t f g h a b l m = g a b l m
falling_join (w ∷ s) t f g h zero zero l m = absurd (let no' : ⊥ = omega arith in no')
falling_join (w ∷ s) t f g h zero (suc b) l m =
    under_all (y_of w) s t (λ a n. f 0 (suc a) (omega arith) (omega arith)) (λ c n. h 0 c (omega arith) n) b (omega arith)
falling_join (w ∷ s) t f g h (suc a) zero l m = absurd (let no' : ⊥ = omega arith in no')
falling_join (w ∷ s) t f g h (suc a) (suc b) l m =
    falling_join s t (λ c d n o. f (suc c) (suc d) (omega arith) (omega arith)) g (λ c d n o. h (suc c) d (omega arith) o) a b (omega arith) (omega arith)

falling_cons : (w : ℕ) (t : List ℕ) → Falling t → ((b : ℕ) → b < length t → y_of (get_or t b 0) < y_of w) → Falling (w ∷ t)
falling_cons w t g h zero zero l m = absurd (let no' : ⊥ = omega arith in no')
falling_cons w t g h zero (suc b) l m = h b (omega arith)
falling_cons w t g h (suc a) zero l m = absurd (let no' : ⊥ = omega arith in no')
falling_cons w t g h (suc a) (suc b) l m = g a b (omega arith) (omega arith)

back_falls : (line : List ℕ) (k : ℕ) → Falling line → Falling (drop k line)
back_falls line k f a b m n =
    rw (get_or-drop k line b 0, get_or-drop k line a 0) (f (k + a) (k + b) (omega arith) (omega (arith, length-drop k line)))

-- ---- the point in place of the entries that it covers

module _ {line : List ℕ} {at top x y rx ry gained end : ℕ} (c : Crossing line at top x y rx ry) (d : Crossed line at x y rx ry gained end) (next : ℕ) (is_x : x_of next ≡ x) (is_y : y_of next ≡ y) where
  -- the entries before the point lie higher
  front_low : (a : ℕ) → a < length (take at line) → y < y_of (get_or (take at line) a 0)
  front_low a l = go (dec_le (y_of (get_or (take at line) a 0)) y)
    where
      go : Dec (y_of (get_or (take at line) a 0) ≤ y) → y < y_of (get_or (take at line) a 0)
      go (yes m) = absurd (let no' : ⊥ = omega (arith, low_at (take at line) y a l m, c.topped.free y c.above) in no')
      go (no m) = omega arith

  pub new_stairs : Stairs (take at line ++ (next ∷ drop end line))
  unfolding Rising
  new_stairs =
      record {
        rising = rising_join 0 x (take at line) (next ∷ drop end line) zero-le
            (rising_front 0 (take at line) (drop at line) (rw (take-append-drop at line) c.stairs.rising))
            (λ k l. rw (get_or-take at line k 0 (omega (arith, length-take at line))) (c.ranked.before k (omega (arith, length-take at line)))) (
              omega (arith, is_x),
              rw is_x (rising_from 0 x (drop end line) (rising_back 0 (take end line) (drop end line) (rw (take-append-drop end line) c.stairs.rising))
                  (λ k l. rw (get_or-drop end line k 0) (let far : x < x_of (get_or line (end + k) 0) = c.ranked.after (end + k) (omega (arith, d.front)) (omega (arith, length-drop end line)) in omega arith))),
            );
        falling = falling_join (take at line) (next ∷ drop end line) (front_falls line at c.stairs.falling)
            (falling_cons next (drop end line) (back_falls line end c.stairs.falling) (λ b l. rw is_y (back_low b l)))
            (λ a b l m. apart a b l m);
      }
    where
      back_low : (b : ℕ) → b < length (drop end line) → y_of (get_or (drop end line) b 0) < y
      back_low b l = rw (get_or-drop end line b 0) (d.stays (end + b) (omega arith) (omega (arith, length-drop end line)))

      apart : (a b : ℕ) → a < length (take at line) → b < length (next ∷ drop end line) → y_of (get_or (next ∷ drop end line) b 0) < y_of (get_or (take at line) a 0)
      apart a zero l m = rw is_y (front_low a l)
      apart a (suc b) l m = omega (arith, front_low a l, back_low b (let n : b < length (drop end line) = omega arith in n))

  -- what leaves is covered by the point
  middle : List ℕ
  middle = drop at (take end line)

  middle_covered : (k : List ℕ) → dominates (x ∷ y ∷ []) k ≡ false → over middle k ≡ 0
  unfolding over middle
  middle_covered k e = tally_none (λ w. dominates (x_of w ∷ y_of w ∷ []) k) (drop at (take end line)) (λ a l. missed a l (dominates (x_of (get_or (drop at (take end line)) a 0) ∷ y_of (get_or (drop at (take end line)) a 0) ∷ []) k) refl)
    where
      missed : (a : ℕ) → a < length (drop at (take end line)) → (b : Bool) → dominates (x_of (get_or (drop at (take end line)) a 0) ∷ y_of (get_or (drop at (take end line)) a 0) ∷ []) k ≡ b → b ≡ false
      missed a l false f = refl
      missed a l true f =
          let inside : at + a < end = omega (arith, length-drop at (take end line), length-take end line) in
          let is : get_or (drop at (take end line)) a 0 ≡ get_or line (at + a) 0 = get_or-drop at (take end line) a 0 ∙ get_or-take end line (at + a) 0 inside in
          sym (covers_further x y (x_of (get_or (drop at (take end line)) a 0)) (y_of (get_or (drop at (take end line)) a 0)) k
          (rw is (let far : x < x_of (get_or line (at + a) 0) = c.ranked.after (at + a) (omega arith) (omega (arith, d.within)) in omega arith))
          (rw is (d.covered (at + a) (omega arith) inside))
          f)
          ∙ e

  parts : (k : List ℕ) → over line k ≡ over (take at line) k + (over middle k + over (drop end line) k)
  unfolding middle
  parts k =
      ap (λ l. over l k) (sym (take-append-drop end line))
      ∙ over_append (take end line) (drop end line) k
      ∙ ap (λ n. n + over (drop end line) k) (ap (λ l. over l k) (sym (take_drop at end line d.front)) ∙ over_append (take at line) (drop at (take end line)) k)
      ∙ add_assoc (over (take at line) k) (over (drop at (take end line)) k) (over (drop end line) k)

  pub new_over : (k : List ℕ) → leb 1 (over (take at line ++ (next ∷ drop end line)) k) ≡ leb 1 (holds (dominates (x ∷ y ∷ []) k) + over line k)
  unfolding holds
  new_over k =
      rw (over_append (take at line) (next ∷ drop end line) k, over_cons next (drop end line) k, is_x, is_y, parts k)
      (go (dominates (x ∷ y ∷ []) k) refl)
    where
      go : (b : Bool) → dominates (x ∷ y ∷ []) k ≡ b → leb 1 (over (take at line) k + (holds b + over (drop end line) k)) ≡ leb 1 (holds b + (over (take at line) k + (over middle k + over (drop end line) k)))
      go true e = rw (le-leb 1 (over (take at line) k + (1 + over (drop end line) k)) (omega arith), le-leb 1 (1 + (over (take at line) k + (over middle k + over (drop end line) k))) (omega arith))
      go false e = rw (middle_covered k e) (ap (leb 1) (let same : over (take at line) k + (0 + over (drop end line) k) ≡ 0 + (over (take at line) k + (0 + over (drop end line) k)) = omega arith in same))

-- ---- the points passed and the line

both_false : (b : Bool) → both false b ≡ false
unfolding both
both_false b = refl

-- A test of cells that are covered or not.
none_alike : (n k : ℕ) → leb 1 n ≡ leb 1 k → eqb n 0 ≡ eqb k 0
none_alike zero zero e = refl
none_alike (suc n) (suc k) e = rw (ne_eqb (suc n) 0 (λ z. omega arith), ne_eqb (suc k) 0 (λ z. omega arith))
none_alike zero (suc k) e = absurd (true≢false (sym (e ∙ le-leb 1 (suc k) (omega arith))))
none_alike (suc n) zero e = absurd (true≢false (sym (sym e ∙ le-leb 1 (suc n) (omega arith))))

more_alike : (b : Bool) (n k : ℕ) → leb 1 n ≡ leb 1 k → leb 1 (holds b + n) ≡ leb 1 (holds b + k)
unfolding holds
more_alike true n k e = rw (le-leb 1 (1 + n) (omega arith), le-leb 1 (1 + k) (omega arith))
more_alike false n k e = ap (leb 1) (zero-add n) ∙ e ∙ sym (ap (leb 1) (zero-add k))

gain_lined : {ry : ℕ} {passed : List (List ℕ)} {line : List ℕ} → Lined ry passed line → (rx : ℕ) (p : List ℕ) → gain_over (rx ∷ ry ∷ []) line p ≡ gain (rx ∷ ry ∷ []) passed p
unfolding gain_over gain
gain_lined {ry} {passed} {line} l rx p =
    count_layer rx ry _ _ (λ i j m. ap (both (dominates p (i ∷ j ∷ []))) (none_alike (over line (i ∷ j ∷ [])) (cover passed (i ∷ j ∷ [])) (l.covers i j m)))

-- ---- one more point

module _ {line : List ℕ} {m : ℕ} {p : List ℕ} {rx ry : ℕ} (h : Growing line m p rx ry) where
  long : length (take m line) ≡ m
  long = length-take-le m line (omega (arith, h.room))

  module _ {at : ℕ} (ranked : Ranked (take m line) (get_or p 0 0) at) where
    growing_held : at ≤ m
    growing_held = omega (arith, ranked.within, long)

    part : take at (take m line) ≡ take at line
    part = take-take at m line growing_held

    module _ {top : ℕ} (t : Topped ry (take at line) top) where
      -- A point that the entries before it cover.
      module _ (low-top : top ≤ get_or p 1 0) {passed : List (List ℕ)} (l : Lined ry passed (take m line)) where
        covered : (i j : ℕ) → j < ry → dominates (spot p) (i ∷ j ∷ []) ≡ true → 1 ≤ over (take m line) (i ∷ j ∷ [])
        unfolding dominates over low both
        covered i j n e =
            let x-in : get_or p 0 0 ≤ i = leb-true (get_or p 0 0) i (both_true (leb (get_or p 0 0) i) (both (leb (get_or p 1 0) j) true) e).0 in
            let y-in : get_or p 1 0 ≤ j = leb-true (get_or p 1 0) j (both_true (leb (get_or p 1 0) j) true (both_true (leb (get_or p 0 0) i) (both (leb (get_or p 1 0) j) true) e).1).0 in
            let lowest : 1 ≤ low (take at (take m line)) j = rw part (t.full j (omega arith) n) in
            omega (arith, column_least (λ w. true) (take m line) at i j (λ a o q. omega (arith, ranked.before a o)), lowest)

        no_gain : gain (rx ∷ ry ∷ []) passed (spot p) ≡ 0
        unfolding gain_over
        no_gain =
            sym (gain_lined l rx (spot p))
            ∙ count_layer rx ry _ (λ c. false) (λ i j n. closed i j n (dominates (spot p) (i ∷ j ∷ [])) refl)
            ∙ count_none (rx ∷ ry ∷ []) (λ c. false) (λ c. refl)
          where
            closed : (i j : ℕ) → j < ry → (b : Bool) → dominates (spot p) (i ∷ j ∷ []) ≡ b → both (dominates (spot p) (i ∷ j ∷ [])) (eqb (over (take m line) (i ∷ j ∷ [])) 0) ≡ false
            closed i j n true e = rw (ne_eqb (over (take m line) (i ∷ j ∷ [])) 0 (λ z. omega (arith, covered i j n e)), both_comm (dominates (spot p) (i ∷ j ∷ [])) false) (both_false (dominates (spot p) (i ∷ j ∷ [])))
            closed i j n false e = rw e (both_false (eqb (over (take m line) (i ∷ j ∷ [])) 0))

        pub left_out : Grew m p rx ry passed line m 0
        unfolding cover holds
        left_out =
            record {
              few = omega arith;
              kept = h.kept;
              gains = sym no_gain;
              lined = record { covers = λ i j n. same i j n (dominates (spot p) (i ∷ j ∷ [])) refl };
            }
          where
            same : (i j : ℕ) → j < ry → (b : Bool) → dominates (spot p) (i ∷ j ∷ []) ≡ b → leb 1 (over (take m line) (i ∷ j ∷ [])) ≡ leb 1 (holds b + cover passed (i ∷ j ∷ []))
            same i j n true e = rw (le-leb 1 (over (take m line) (i ∷ j ∷ [])) (covered i j n e), le-leb 1 (1 + cover passed (i ∷ j ∷ [])) (omega arith))
            same i j n false e = l.covers i j n ∙ sym (ap (leb 1) (zero-add (cover passed (i ∷ j ∷ []))))

      -- One that is not.
      module _ (high-top : get_or p 1 0 < top) where
        pub growing_crossing : Crossing (take m line) at top (get_or p 0 0) (get_or p 1 0) rx ry
        growing_crossing =
            record {
              stairs = h.kept;
              ranked = ranked;
              topped = rw part t;
              above = high-top;
              rx_small = h.rx_small;
              ry_small = h.ry_small;
            }

        pub grew : {gained end held next : ℕ} {left : List ℕ} → Crossed (take m line) at (get_or p 0 0) (get_or p 1 0) rx ry gained end → next ≡ entry_of (get_or p 0 0) (get_or p 1 0) 0 → held ≤ m + 1
            → take held left ≡ take at line ++ (next ∷ drop end (take m line))
            → {passed : List (List ℕ)} → Lined ry passed (take m line) → Grew m p rx ry passed left held gained
        unfolding cover
        grew {gained} {end} {held} {next} {left} d e few f {passed} l =
            record {
              few = few;
              kept = rw (f, ← part) (new_stairs growing_crossing d next is_x is_y);
              gains = d.gains ∙ gain_lined l rx (spot p);
              lined = record {
                covers = λ i j n.
                    rw (f, ← part)
                    (new_over growing_crossing d next is_x is_y (i ∷ j ∷ [])
                    ∙ more_alike (dominates (spot p) (i ∷ j ∷ [])) (over (take m line) (i ∷ j ∷ [])) (cover passed (i ∷ j ∷ [])) (l.covers i j n));
              };
            }
          where
            is_x : x_of next ≡ get_or p 0 0
            is_x = omega (arith, e, h.small 1)

            is_y : y_of next ≡ get_or p 1 0
            is_y = omega (arith, e, h.small 1)
