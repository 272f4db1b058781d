-- `enter`: the next point goes in behind the entries that are at most it on x, with its flag, or two entries cover
-- it and it is left out.
use Prim.Native.Nat.{ℕ, ◌+◌, ◌-◌, ◌≤◌, ◌<◌}
use mathlib.Core.Path.{◌≡◌, refl, sym, ap, ◌∙◌}
use mathlib.Core.Bool.{Bool, true, false}
use mathlib.Core.List.{List, ◌∷◌, ◌++◌, append_assoc, []}
use native.Mathlib.Nat.{zero-add}
use native.Mathlib.Omega.{arith}
use lib.Dec.{leb, eqb}
use lib.ListN.{length, take, drop, get_or}
use lib.Seq.{length-take-le, get_or-take, drop_at, drop-drop}
use borrow.Author.Tests.{leb-true}
use Rattle.slices.specs.Choices.{both, pick}
use Rattle.hypervolume.specs.Cells.{holds, dominates}
use Rattle.hypervolume.proofs.Tests.{Compared, below, above, compared}
use Rattle.slices.proofs.Choices.{both_true, both_comm}
use Rattle.line.specs.declared.column.Column.{Column}
use Rattle.line.specs.Line.{tally, flagged, spot, x_of, y_of, index_of, over, over_by, low, Rising, FlagRight, Flagged, AlikeAt}
use Rattle.line.specs.Column.{ColumnState}
use Rattle.line.specs.Entries.{Below, ThinnedLine, Walked, Closed, Entering, Entered}
use Rattle.slices.specs.Put.{put}
use Rattle.line.proofs.PlaceLaws.{placed_front, placed_behind}
use Rattle.line.proofs.Tally.{tally_append, tally_le, over_append, over_cons}
use Rattle.line.proofs.ColumnLaws.{state_some}
use Rattle.line.proofs.Rising.{rising_front, rising_join}
use Rattle.line.proofs.Flags.{Fewer, fewer_same, flagged_fewer, flagged_front, flagged_join}
use Rattle.line.proofs.Entries.{alike_then, alike_same, covers_further, below_append, below_join, take_drop}
use Rattle.slices.proofs.Put.{drop_take}

-- Where the entries of a line are at most p on x, those that are at most p on y dominate what p dominates.
low_over : (line : List ℕ) (x y i j : ℕ) → ((k : ℕ) → k < length line → x_of (get_or line k 0) ≤ x) → dominates (x ∷ y ∷ []) (i ∷ j ∷ []) ≡ true → low line y ≤ over line (i ∷ j ∷ [])
unfolding low over holds
low_over line x y i j h d =
    tally_le (λ w. leb (y_of w) y) (λ w. dominates (spot w) (i ∷ j ∷ [])) line
    (λ k l. one (get_or line k 0) (h k l))
  where
    one : (w : ℕ) → x_of w ≤ x → holds (leb (y_of w) y) ≤ holds (dominates (spot w) (i ∷ j ∷ []))
    one w l = go (leb (y_of w) y) (compared (y_of w) y)
      where
        go : (b : Bool) → Compared (y_of w) y b → holds b ≤ holds (dominates (spot w) (i ∷ j ∷ []))
        go true (below m) = rw (covers_further (x_of w) (y_of w) x y (i ∷ j ∷ []) l m d) (omega arith)
        go false (above m) = omega arith

-- A point that dominates a cell is at most it on y.
row_within : (x y i j : ℕ) → dominates (x ∷ y ∷ []) (i ∷ j ∷ []) ≡ true → y ≤ j
unfolding dominates
row_within x y i j d =
    let tests = both_true (leb x i) (both (leb y j) true) d in
    leb-true y j (both_true (leb y j) true tests.1).0

-- The same point, with the flag or without.
record Same (v w : ℕ) : Type 0 where
  pub x : x_of v ≡ x_of w
  pub y : y_of v ≡ y_of w
  pub index : index_of v ≡ index_of w

same_picked : (b : Bool) (w : ℕ) → Same (pick b (flagged w) w) w
unfolding pick
same_picked true w = record { x = omega arith; y = omega arith; index = omega arith }
same_picked false w = record { x = refl; y = refl; index = refl }

module _ {line : List ℕ} {m at next : ℕ} (asked : Entering line m at next) where
  old_long : length (take m line) ≡ m
  old_long = length-take-le m line (omega (arith, asked.room))

  at_within : at ≤ m
  at_within = omega (arith, asked.ranked.within, old_long)

  front_long : length (take at line) ≡ at
  front_long = length-take-le at line (omega (arith, asked.room, at_within))

  whole : take at line ++ drop at (take m line) ≡ take m line
  whole = take_drop at m line at_within

  front_before : (k : ℕ) → k < length (take at line) → x_of (get_or (take at line) k 0) ≤ x_of next
  front_before k l =
      let inside : k < at = omega (arith, front_long) in
      rw (get_or-take at line k 0 inside, ← (get_or-take m line k 0 (let u : k < m = omega (arith, at_within) in u)))
      (asked.ranked.before k inside)

  module _ {ry : ℕ} {column : Column} (state : ColumnState ry (take at line) column) {y : ℕ} (e : y ≡ y_of next) where
    -- Two entries cover the next point.
    module _ (l : column.second ≤ y) where
      over_old : (c : List ℕ) → over (take m line) c ≡ over (take at line) c + over (drop at (take m line)) c
      over_old c = ap (λ r. over r c) (sym whole) ∙ over_append (take at line) (drop at (take m line)) c

      twice : (i j : ℕ) → j < ry → dominates (spot next) (i ∷ j ∷ []) ≡ true → 2 ≤ over (take m line) (i ∷ j ∷ [])
      twice i j n d =
          let row : y_of next ≤ j = row_within (x_of next) (y_of next) i j d in
          let two : 2 ≤ low (take at line) (y_of next) = state.more (y_of next) (omega arith) (omega arith) in
          let some : low (take at line) (y_of next) ≤ over (take at line) (i ∷ j ∷ []) =
          low_over (take at line) (x_of next) (y_of next) i j front_before d in
          omega (arith, over_old (i ∷ j ∷ []))

      alike_left_out : (i j : ℕ) → j < ry → AlikeAt (next ∷ take m line) (take m line) i j
      unfolding over_by tally both holds
      alike_left_out i j n = go (dominates (spot next) (i ∷ j ∷ [])) refl
        where
          go : (d : Bool) → dominates (spot next) (i ∷ j ∷ []) ≡ d → AlikeAt (next ∷ take m line) (take m line) i j
          go true d =
              let two : 2 ≤ over (take m line) (i ∷ j ∷ []) = twice i j n d in
              record {
                many = omega (arith, over_cons next (take m line) (i ∷ j ∷ []));
                whose = λ t f. absurd (let no' : ⊥ = omega (arith, over_cons next (take m line) (i ∷ j ∷ [])) in no');
              }
          go false d =
              alike_same
              (sym (over_cons next (take m line) (i ∷ j ∷ []) ∙ rw d (zero-add (over (take m line) (i ∷ j ∷ [])))))
              (λ t. sym (rw (d, both_comm (eqb (index_of next) t) false) (zero-add (over_by t (take m line) (i ∷ j ∷ [])))))

      pub entered_not : Entered ry line m next line m
      entered_not =
          record {
            within = omega arith;
            valid = asked.valid;
            alike = alike_left_out;
            below = λ n b f. b;
          }

    -- Its entry goes in.
    module _ (l : y < column.second) {left : List ℕ} {to from : ℕ} (walked : Walked line m at next left to from) where
      new : List ℕ
      new = drop at (take to left) ++ drop from (take m left)

      stays : take to left ≡ take at line ++ drop at (take to left)
      stays = sym (take_drop at to left walked.front) ∙ ap (λ r. r ++ drop at (take to left)) walked.before

      thinned : ThinnedLine (take at line) (drop at (take m line)) next new
      unfolding new
      thinned = walked.thinned

      module _ {b : Bool} (f : b ≡ leb column.least y) where
        v : ℕ
        v = pick b (flagged next) next

        same : Same v next
        unfolding v
        same = same_picked b next

        all : List ℕ
        all = take at line ++ (v ∷ new)

        -- its flag
        flag_right : FlagRight (take at line) v
        unfolding v pick
        flag_right = rw f (go (leb column.least y) (compared column.least y))
          where
            go : (d : Bool) → Compared column.least y d → FlagRight (take at line) (pick d (flagged next) next)
            go true (below m) =
                record {
                  clear = λ g. absurd (let no' : ⊥ = omega arith in no');
                  set = λ g i j d.
                      let twin : Same (flagged next) next = same_picked true next in
                      let too : dominates (spot next) (i ∷ j ∷ []) ≡ true = rw (twin.x, twin.y) at d in
                      let some : 1 ≤ low (take at line) (y_of next) = state_some state (y_of next) (omega arith) (omega (arith, state.top)) in
                      omega (arith, low_over (take at line) (x_of next) (y_of next) i j front_before too);
                }
            go false (above m) =
                record {
                  clear = λ g j n. state.none j (omega arith);
                  set = λ g. absurd (let no' : ⊥ = omega (arith, asked.clear) in no');
                }

        tells : Fewer (take at line ++ (next ∷ [])) (take at line ++ (v ∷ []))
        tells = fewer_same (take at line) v next same.x same.y

        rising : Rising 0 all
        unfolding all Rising
        rising =
            rising_join 0 (x_of next) (take at line) (v ∷ new) (omega arith)
            (rising_front 0 (take at line) (drop at (take m line)) (rw whole asked.valid.rising))
            front_before
            (omega (arith, same.x), rw same.x thinned.rising)

        flags : Flagged [] all
        unfolding all Flagged
        flags =
            flagged_join [] (take at line) (v ∷ new)
            (flagged_front [] (take at line) (drop at (take m line)) (rw whole asked.valid.flags))
            (flag_right, flagged_fewer (take at line ++ (next ∷ [])) (take at line ++ (v ∷ [])) new tells thinned.flags)

        tally_moved : (test : ℕ → Bool) → test v ≡ test next → tally test (take at line ++ (v ∷ new)) ≡ tally test (next ∷ (take at line ++ new))
        unfolding tally
        tally_moved test g =
            tally_append test (take at line) (v ∷ new)
            ∙ rw (g, tally_append test (take at line) new) (omega arith)

        alike : (i j : ℕ) → AlikeAt (next ∷ take m line) all i j
        unfolding all over over_by
        alike i j =
            alike_then
            (rw whole at (thinned.alike i j))
            (alike_same
            (tally_moved (λ u. dominates (spot u) (i ∷ j ∷ [])) (rw (same.x, same.y)))
            (λ t. tally_moved (λ u. both (eqb (index_of u) t) (dominates (spot u) (i ∷ j ∷ []))) (rw (same.x, same.y, same.index))))

        below_all : (n : ℕ) → Below n (take m line) → index_of next < n → Below n all
        unfolding all Below
        below_all n g k =
            let parts = below_append n (take at line) (drop at (take m line)) (rw whole g) in
            below_join n (take at line) (v ∷ new) parts.0 (omega (arith, same.index), thinned.below n parts.1)

        entered : (left'' : List ℕ) (end : ℕ) → take end left'' ≡ all → end ≤ m + 1 → Entered ry line m next left'' end
        entered left'' end is k =
            record {
              within = k;
              valid = rw is (record { rising = rising; flags = flags });
              alike = λ i j n. rw is (alike i j);
              below = λ n g h. rw is (below_all n g h);
            }

        -- No entry has left: those from `at` on have moved up.
        pub entered_more : {left'' : List ℕ} → to ≡ from → left'' ≡ put left at (pick b (flagged next) next ∷ take (m - at) (drop at left)) → Entered ry line m next left'' (m + 1)
        unfolding all new v
        entered_more {left''} e p =
            let whole' : take m left ≡ take at line ++ new =
            sym (take_drop from m left walked.within)
            ∙ ap (λ r. r ++ drop from (take m left)) (ap (λ k. take k left) (sym e) ∙ stays)
            ∙ append_assoc (take at line) (drop at (take to left)) (drop from (take m left)) in
            entered left'' (m + 1)
            (ap (take (m + 1)) p
            ∙ placed_front left m at v at_within (omega (arith, asked.room, walked.long))
            ∙ ap (λ r. r ++ (v ∷ drop at (take m left))) walked.before
            ∙ ap (λ r. take at line ++ (v ∷ r)) (ap (drop at) whole' ∙ drop_at (take at line) new at front_long))
            (omega arith)

        -- Entries have left: the new one has taken room of theirs, and what was left of it is closed.
        pub entered_room : {left' left'' : List ℕ} {end : ℕ} → (to ≡ from → ⊥) → left' ≡ put left at (pick b (flagged next) next ∷ take (to - at) (drop at left)) → Closed left' (to + 1) from m left'' end → Entered ry line m next left'' end
        unfolding all new v
        entered_room {left'} {left''} {end} differ p c =
            let gap : to < from = omega (arith, walked.gap) in
            let room : to < length left = omega (arith, asked.room, walked.within, walked.long) in
            let split : from ≡ to + 1 + (from - (to + 1)) = omega arith in
            let behind : drop from left' ≡ drop from left =
            ap (λ k. drop k left') split
            ∙ sym (drop-drop (from - (to + 1)) (to + 1) left')
            ∙ ap (drop (from - (to + 1))) (ap (drop (to + 1)) p ∙ placed_behind left to at v walked.front room)
            ∙ drop-drop (from - (to + 1)) (to + 1) left
            ∙ ap (λ k. drop k left) (sym split) in
            let rest : drop from (take m left') ≡ drop from (take m left) =
            drop_take from m left' ∙ ap (take (m - from)) behind ∙ sym (drop_take from m left) in
            entered left'' end
            (c.joined
            ∙ ap (λ r. r ++ drop from (take m left'))
            (ap (take (to + 1)) p
            ∙ placed_front left to at v walked.front room
            ∙ ap (λ r. r ++ (v ∷ drop at (take to left))) walked.before)
            ∙ ap (λ r. (take at line ++ (v ∷ drop at (take to left))) ++ r) rest
            ∙ append_assoc (take at line) (v ∷ drop at (take to left)) (drop from (take m left)))
            (omega (arith, c.ends, walked.gap, walked.within))
