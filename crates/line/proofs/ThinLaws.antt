-- `thin` makes the line ready for the next point: of the entries behind it, those that it covers are flagged, and left out where
-- they had the flag. An entry left out is covered by the next point and by entries before it, so two still dominate each
-- cell that it dominates (law 6).
use Prim.Native.Nat.{ℕ, ◌+◌, ◌-◌, ◌≤◌, ◌<◌}
use mathlib.Core.Path.{◌≡◌, refl, sym, ap, ◌∙◌}
use mathlib.Core.Bool.{Bool, true, false}
use mathlib.Core.List.{List, ◌∷◌, ◌++◌, append_assoc, append-nil, []}
use native.Mathlib.Nat.{zero-add}
use native.Mathlib.Numerals.{add-one}
use native.Mathlib.Decide.{dec_le, ℕ_discrete}
use native.Mathlib.Omega.{arith}
use lib.Dec.{leb, eqb}
use lib.ListN.{length, take, drop, get_or, set, length-append, length-take, length-drop, length-set, drop_of_length-le}
use lib.Seq.{append_snoc, drop-cons, drop-append-le, get_or-take, get_or-drop, drop-drop, length-take-le, take-set-le, drop-set-lt, take-suc-set}
use Rattle.slices.specs.Choices.{both}
use Rattle.hypervolume.specs.Cells.{holds, dominates}
use Rattle.slices.proofs.Choices.{both_comm}
use Rattle.line.specs.Line.{tally, flagged, spot, x_of, y_of, index_of, flag_of, over, over_by, low, Rising, FlagRight, Flagged, AlikeAt}
use Rattle.line.specs.Entries.{Below, ThinnedLine, ThinningLine, Walked}
use Rattle.line.proofs.Tally.{low_append, low_more, over_append, over_cons, over_more, tally_middle}
use Rattle.line.proofs.ColumnLaws.{holds_under, holds_beyond}
use Rattle.line.proofs.Rising.{rising_back, rising_from, rising_less, rising_same}
use Rattle.line.proofs.Flags.{Fewer, fewer_same, flagged_fewer, flagged_back, flagged_join, flagged_one}
use Rattle.line.proofs.Entries.{alike_then, alike_same, covers_further, below_append, below_join, take_drop}
use Rattle.slices.proofs.Put.{drop_take}

-- The walk, with the entries that stay in `done` and those to come in `rest`.
pub record Walk (front old : List ℕ) (next : ℕ) (done rest : List ℕ) : Type 0 where
  pub short : length done + length rest ≤ length old
  pub rising : Rising (x_of next) (done ++ rest)
  pub flags_done : Flagged (front ++ (next ∷ [])) done
  pub flags_rest : Flagged (front ++ done) rest
  pub alike : (i j : ℕ) → AlikeAt (next ∷ (front ++ old)) (next ∷ (front ++ (done ++ rest))) i j
  pub below : (n : ℕ) → Below n old → Below n (done ++ rest)

-- with the next point before them, the entries done tell as much as without it, and more where it dominates
module _ (front : List ℕ) (next : ℕ) (done : List ℕ) where
  over_with : (c : List ℕ) → over ((front ++ (next ∷ [])) ++ done) c ≡ over (front ++ done) c + holds (dominates (spot next) c)
  over_with c =
      over_append (front ++ (next ∷ [])) done c
      ∙ omega (arith, over_more front next c, over_append front done c)

  low_with : (j : ℕ) → low ((front ++ (next ∷ [])) ++ done) j ≡ low (front ++ done) j + holds (leb (y_of next) j)
  low_with j =
      low_append (front ++ (next ∷ [])) done j
      ∙ omega (arith, low_more front next j, low_append front done j)

module _ {front old : List ℕ} {next : ℕ} {done : List ℕ} {w : ℕ} {rest' : List ℕ} (h : Walk front old next done (w ∷ rest')) where
  here : FlagRight (front ++ done) w
  unfolding Flagged
  here = h.flags_rest.0

  later : Flagged ((front ++ done) ++ (w ∷ [])) rest'
  unfolding Flagged
  later = h.flags_rest.1

  -- An entry stays as it is: one with the flag, that the next point does not cover.
  pub walk_kept : flag_of w ≡ 1 → Walk front old next (done ++ (w ∷ [])) rest'
  walk_kept e =
      record {
        short = omega (arith, h.short, length-append done (w ∷ []));
        rising = rw (append_snoc done w rest') h.rising;
        flags_done =
            flagged_join (front ++ (next ∷ [])) done (w ∷ []) h.flags_done
            (flagged_one ((front ++ (next ∷ [])) ++ done) w
            (record {
              clear = λ f. absurd (let no' : ⊥ = omega arith in no');
              set = λ f i j d. omega (arith, over_with front next done (i ∷ j ∷ []), here.set e i j d);
            }));
        flags_rest = rw (append_assoc front done (w ∷ [])) at later;
        alike = λ i j. rw (append_snoc done w rest') (h.alike i j);
        below = λ n b. rw (append_snoc done w rest') (h.below n b);
      }

  -- An entry gets the flag: the next point covers it.
  module _ (beyond : x_of next ≤ x_of w) (above : y_of next ≤ y_of w) where
    v : ℕ
    v = flagged w

    v_x : x_of v ≡ x_of w
    unfolding v
    v_x = omega arith

    v_y : y_of v ≡ y_of w
    unfolding v
    v_y = omega arith

    v_index : index_of v ≡ index_of w
    unfolding v
    v_index = omega arith

    v_flag : flag_of v ≡ 1
    unfolding v
    v_flag = omega arith

    same_tally : (test : ℕ → Bool) → test v ≡ test w → tally test (next ∷ (front ++ (done ++ (v ∷ rest')))) ≡ tally test (next ∷ (front ++ (done ++ (w ∷ rest'))))
    same_tally test e =
        tally_middle test next front done v rest'
        ∙ rw e (sym (tally_middle test next front done w rest'))

    alike_flagged : (i j : ℕ) → AlikeAt (next ∷ (front ++ (done ++ (w ∷ rest')))) (next ∷ (front ++ (done ++ (v ∷ rest')))) i j
    unfolding over over_by
    alike_flagged i j =
        alike_same
        (same_tally (λ u. dominates (spot u) (i ∷ j ∷ [])) (rw (v_x, v_y)))
        (λ t. same_tally (λ u. both (eqb (index_of u) t) (dominates (spot u) (i ∷ j ∷ []))) (rw (v_x, v_y, v_index)))

    flagged_tells : Fewer ((front ++ done) ++ (w ∷ [])) ((front ++ done) ++ (v ∷ []))
    flagged_tells = fewer_same (front ++ done) v w v_x v_y

    below_flagged : (n : ℕ) → Below n old → Below n (done ++ (v ∷ rest'))
    unfolding Below
    below_flagged n b =
        let parts = below_append n done (w ∷ rest') (h.below n b) in
        below_join n done (v ∷ rest') parts.0 (rw v_index parts.1.0, parts.1.1)

    pub walk_flagged : Walk front old next (done ++ (flagged w ∷ [])) rest'
    unfolding v holds
    walk_flagged =
        record {
          short = omega (arith, h.short, length-append done (v ∷ []));
          rising = rw (append_snoc done v rest') (rising_same (x_of next) done v w rest' v_x h.rising);
          flags_done =
              flagged_join (front ++ (next ∷ [])) done (v ∷ []) h.flags_done
              (flagged_one ((front ++ (next ∷ [])) ++ done) v
              (record {
                clear = λ f. absurd (let no' : ⊥ = omega (arith, v_flag) in no');
                set = λ f i j d.
                    let too : dominates (spot next) (i ∷ j ∷ []) ≡ true = covers_further (x_of next) (y_of next) (x_of v) (y_of v) (i ∷ j ∷ []) (omega (arith, v_x)) (omega (arith, v_y)) d in
                    rw (over_with front next done (i ∷ j ∷ []), too) (omega arith);
              }));
          flags_rest =
              rw (append_assoc front done (v ∷ [])) at
              (flagged_fewer ((front ++ done) ++ (w ∷ [])) ((front ++ done) ++ (v ∷ [])) rest' flagged_tells later);
          alike = λ i j. rw (append_snoc done v rest') (alike_then (h.alike i j) (alike_flagged i j));
          below = λ n b. rw (append_snoc done v rest') (below_flagged n b);
        }

    -- An entry that had the flag is left out.
    module _ (e : flag_of w ≡ 1) where
      all : List ℕ
      all = next ∷ (front ++ (done ++ (w ∷ rest')))

      less : List ℕ
      less = next ∷ (front ++ (done ++ rest'))

      over_all : (c : List ℕ) → over all c ≡ holds (dominates (spot w) c) + over less c
      unfolding all less over
      over_all c = tally_middle (λ u. dominates (spot u) c) next front done w rest'

      over_by_all : (t : ℕ) (c : List ℕ) → over_by t all c ≡ holds (both (eqb (index_of w) t) (dominates (spot w) c)) + over_by t less c
      unfolding all less over_by
      over_by_all t c = tally_middle (λ u. both (eqb (index_of u) t) (dominates (spot u) c)) next front done w rest'

      two_left : (i j : ℕ) → dominates (spot w) (i ∷ j ∷ []) ≡ true → 2 ≤ over less (i ∷ j ∷ [])
      unfolding less holds
      two_left i j d =
          let c = i ∷ j ∷ [] in
          let too : dominates (spot next) c ≡ true = covers_further (x_of next) (y_of next) (x_of w) (y_of w) c beyond above d in
          let some : 1 ≤ over (front ++ done) c = here.set e i j d in
          let part : over (front ++ (done ++ rest')) c ≡ over front c + (over done c + over rest' c) =
          over_append front (done ++ rest') c ∙ ap (λ k. over front c + k) (over_append done rest' c) in
          rw (over_cons next (front ++ (done ++ rest')) c, too) (omega (arith, over_append front done c))

      alike_less : (i j : ℕ) → AlikeAt all less i j
      unfolding both holds
      alike_less i j = go (dominates (spot w) (i ∷ j ∷ [])) refl
        where
          go : (d : Bool) → dominates (spot w) (i ∷ j ∷ []) ≡ d → AlikeAt all less i j
          go true d =
              let two : 2 ≤ over less (i ∷ j ∷ []) = two_left i j d in
              record {
                many = omega (arith, over_all (i ∷ j ∷ []));
                whose = λ t l. absurd (let no' : ⊥ = omega (arith, over_all (i ∷ j ∷ [])) in no');
              }
          go false d =
              let same : over all (i ∷ j ∷ []) ≡ over less (i ∷ j ∷ []) = over_all (i ∷ j ∷ []) ∙ rw d (zero-add (over less (i ∷ j ∷ []))) in
              alike_same (sym same)
              (λ t. sym (over_by_all t (i ∷ j ∷ []) ∙ rw (d, both_comm (eqb (index_of w) t) false) (zero-add (over_by t less (i ∷ j ∷ [])))))

      less_tells : Fewer ((front ++ done) ++ (w ∷ [])) (front ++ done)
      unfolding holds
      less_tells =
          record {
            free = λ y f j l. omega (arith, f j l, low_more (front ++ done) w j);
            some = λ i j l. go i j l (dominates (spot w) (i ∷ j ∷ [])) refl;
          }
        where
          go : (i j : ℕ) → 1 ≤ over ((front ++ done) ++ (w ∷ [])) (i ∷ j ∷ []) → (d : Bool) → dominates (spot w) (i ∷ j ∷ []) ≡ d → 1 ≤ over (front ++ done) (i ∷ j ∷ [])
          go i j l true d = here.set e i j d
          go i j l false d =
              let same : over ((front ++ done) ++ (w ∷ [])) (i ∷ j ∷ []) ≡ over (front ++ done) (i ∷ j ∷ []) + 0 =
              over_more (front ++ done) w (i ∷ j ∷ []) ∙ rw d in
              omega arith

      below_less : (n : ℕ) → Below n old → Below n (done ++ rest')
      unfolding Below
      below_less n b =
          let parts = below_append n done (w ∷ rest') (h.below n b) in
          below_join n done rest' parts.0 parts.1.1

      pub walk_less : Walk front old next done rest'
      unfolding all less
      walk_less =
          record {
            short = omega (arith, h.short);
            rising = rising_less (x_of next) done w rest' h.rising;
            flags_done = h.flags_done;
            flags_rest = flagged_fewer ((front ++ done) ++ (w ∷ [])) (front ++ done) rest' less_tells later;
            alike = λ i j. alike_then (h.alike i j) (alike_less i j);
            below = below_less;
          }

  -- The walk may stop at an entry without the flag that lies below the next point: of the entries behind it those without the
  -- flag lie no higher.
  module _ (e : flag_of w ≡ 0) (under : y_of w < y_of next) where
    stop_here : FlagRight ((front ++ (next ∷ [])) ++ done) w
    stop_here =
        record {
          clear = λ f j l. low_with front next done j ∙ omega (arith, here.clear e j l, holds_beyond (y_of next) j (let u : j < y_of next = omega arith in u));
          set = λ f. absurd (let no' : ⊥ = omega arith in no');
        }

    -- where no row below y is taken, y is at most that of w
    stop_under : (y : ℕ) → ((j : ℕ) → j < y → low ((front ++ done) ++ (w ∷ [])) j ≡ 0) → y ≤ y_of w
    stop_under y f = go (dec_le y (y_of w))
      where
        go : Dec (y ≤ y_of w) → y ≤ y_of w
        go (yes l) = l
        go (no l) =
            absurd
            (let no' : ⊥ = omega (arith, f (y_of w) (let u : y_of w < y = omega arith in u), low_more (front ++ done) w (y_of w), holds_under (y_of w) (y_of w) (let u : y_of w ≤ y_of w = omega arith in u)) in no')

    stop_tells : Fewer ((front ++ done) ++ (w ∷ [])) (((front ++ (next ∷ [])) ++ done) ++ (w ∷ []))
    stop_tells =
        record {
          free = λ y f j l.
              let short : y ≤ y_of w = stop_under y f in
              low_more ((front ++ (next ∷ [])) ++ done) w j
              ∙ omega (arith, f j l, low_more (front ++ done) w j, low_with front next done j, holds_beyond (y_of next) j (let u : j < y_of next = omega arith in u));
          some = λ i j l.
              omega (arith, over_more (front ++ done) w (i ∷ j ∷ []), over_more ((front ++ (next ∷ [])) ++ done) w (i ∷ j ∷ []), over_with front next done (i ∷ j ∷ []));
        }

    stop_rest : Flagged ((front ++ (next ∷ [])) ++ done) (w ∷ rest')
    unfolding Flagged
    stop_rest =
        (stop_here, flagged_fewer ((front ++ done) ++ (w ∷ [])) (((front ++ (next ∷ [])) ++ done) ++ (w ∷ [])) rest' stop_tells later)

    pub walk_stop : ThinnedLine front old next (done ++ (w ∷ rest'))
    walk_stop =
        record {
          short = omega (arith, h.short, length-append done (w ∷ rest'));
          rising = h.rising;
          flags = flagged_join (front ++ (next ∷ [])) done (w ∷ rest') h.flags_done stop_rest;
          alike = h.alike;
          below = h.below;
        }

pub walk_end : {front old : List ℕ} {next : ℕ} {done : List ℕ} → Walk front old next done [] → ThinnedLine front old next (done ++ [])
unfolding Flagged
walk_end {front} {old} {next} {done} h =
    record {
      short = omega (arith, h.short, length-append done []);
      rising = h.rising;
      flags = flagged_join (front ++ (next ∷ [])) done [] h.flags_done tt;
      alike = h.alike;
      below = h.below;
    }

-- The walk over the words: the entries that stay end at `to`, those from `from` on are as they were.
pub record Walking (line : List ℕ) (m at next : ℕ) (now : List ℕ) (to from : ℕ) : Type 0 where
  pub asked : ThinningLine line m at next
  pub long : length now ≡ length line
  pub front : at ≤ to
  pub gap : to ≤ from
  pub within : from ≤ m
  pub before : take at now ≡ take at line
  pub unread : drop from now ≡ drop from line
  pub walk : Walk (take at line) (drop at (take m line)) next (drop at (take to now)) (drop from (take m line))

pub walking_none : (line : List ℕ) (m at next : ℕ) → ThinningLine line m at next → Walking line m at next line at at
unfolding Flagged
walking_none line m at next h =
    let none : drop at (take at line) ≡ [] = drop_of_length-le (take at line) {i = at} (omega (arith, length-take at line)) in
    record {
      asked = h;
      long = refl;
      front = omega arith;
      gap = omega arith;
      within = h.within;
      before = refl;
      unread = refl;
      walk = rw none start;
    }
  where
    front : List ℕ
    front = take at line

    back : List ℕ
    back = drop at (take m line)

    whole : front ++ back ≡ take m line
    whole = take_drop at m line h.within

    many : length back ≡ m - at
    many = length-drop at (take m line) ∙ rw (length-take-le m line h.room)

    start : Walk front back next [] back
    start =
        record {
          short = omega arith;
          rising =
              rising_from 0 (x_of next) back (rising_back 0 front back (rw whole h.valid.rising))
              (λ k l.
              let inside : at + k < m = omega (arith, many) in
              rw (get_or-drop at (take m line) k 0, get_or-take m line (at + k) 0 inside) (h.beyond (at + k) (omega arith) inside));
          flags_done = tt;
          flags_rest = rw (append-nil front) (flagged_back [] front back (rw whole h.valid.flags));
          alike = λ i j. alike_same refl (λ t. refl);
          below = λ n b. b;
        }

odd : (w : ℕ) → (flag_of w ≡ 0 → ⊥) → flag_of w ≡ 1
odd w n = go (ℕ_discrete (flag_of w) 0)
  where
    go : Dec (flag_of w ≡ 0) → flag_of w ≡ 1
    go (yes e) = absurd (n e)
    go (no m) = let some : (flag_of w ≡ 0) → ⊥ = m in omega arith

module _ {line : List ℕ} {m at next : ℕ} {now : List ℕ} {to from : ℕ} (h : Walking line m at next now to from) (l : from < m) where
  asked' : ThinningLine line m at next
  asked' = h.asked

  rest_is : drop from (take m line) ≡ get_or line from 0 ∷ drop (from + 1) (take m line)
  rest_is =
      drop-cons (take m line) from 0 (let u : from < length (take m line) = omega (arith, length-take-le m line asked'.room) in u)
      ∙ rw (get_or-take m line from 0 l, add-one from)

  -- the entry that the walk has come to
  pub walking_entry : get_or now from 0 ≡ get_or line from 0
  walking_entry =
      let here' : from + 0 ≡ from = omega arith in
      let now' : get_or (drop from now) 0 0 ≡ get_or now from 0 = get_or-drop from now 0 0 ∙ ap (λ k. get_or now k 0) here' in
      let line' : get_or (drop from line) 0 0 ≡ get_or line from 0 = get_or-drop from line 0 0 ∙ ap (λ k. get_or line k 0) here' in
      sym now' ∙ ap (λ r. get_or r 0 0) h.unread ∙ line'

  come_to : Walk (take at line) (drop at (take m line)) next (drop at (take to now)) (get_or now from 0 ∷ drop (from + 1) (take m line))
  come_to = rw (walking_entry, ← rest_is) h.walk

  ahead : x_of next ≤ x_of (get_or now from 0)
  ahead = rw walking_entry (asked'.beyond from (omega (arith, h.front, h.gap)) l)

  unread_more : drop (from + 1) now ≡ drop (from + 1) line
  unread_more = sym (drop-drop 1 from now) ∙ ap (drop 1) h.unread ∙ drop-drop 1 from line

  pub walking_room : to < length now
  walking_room = omega (arith, h.gap, h.long, asked'.room)

  -- the next entry is written, or left out
  write : (v : ℕ) → Walk (take at line) (drop at (take m line)) next (drop at (take to now) ++ (v ∷ [])) (drop (from + 1) (take m line)) → Walking line m at next (set now to v) (to + 1) (from + 1)
  write v g =
      let taken : take (to + 1) (set now to v) ≡ take to now ++ (v ∷ []) =
      ap (λ k. take k (set now to v)) (add-one to) ∙ take-suc-set now to v walking_room in
      let done : drop at (take (to + 1) (set now to v)) ≡ drop at (take to now) ++ (v ∷ []) =
      ap (drop at) taken
      ∙ drop-append-le at (take to now) (v ∷ []) (omega (arith, length-take-le to now (let u : to ≤ length now = omega (arith, walking_room) in u), h.front)) in
      record {
        asked = h.asked;
        long = length-set now to v ∙ h.long;
        front = omega (arith, h.front);
        gap = omega (arith, h.gap);
        within = omega arith;
        before = take-set-le at now to v h.front ∙ h.before;
        unread = drop-set-lt (from + 1) now to v (omega (arith, h.gap)) ∙ unread_more;
        walk = rw done g;
      }

  pub walking_kept : {f : ℕ} → f ≡ flag_of (get_or now from 0) → (f ≡ 0 → ⊥) → Walking line m at next (set now to (get_or now from 0)) (to + 1) (from + 1)
  walking_kept {f} e n =
      write (get_or now from 0) (walk_kept come_to (let one : flag_of (get_or now from 0) ≡ 1 = odd (get_or now from 0) (λ q. n (e ∙ q)) in one))

  module _ {y v : ℕ} (e : y ≡ y_of next) (g : v ≡ y_of (get_or now from 0)) (above : y ≤ v) where
    pub walking_flagged : {w : ℕ} → w ≡ flagged (get_or now from 0) → Walking line m at next (set now to w) (to + 1) (from + 1)
    walking_flagged f = rw f (write (flagged (get_or now from 0)) (walk_flagged come_to ahead (omega arith)))

    pub walking_less : {f : ℕ} → f ≡ flag_of (get_or now from 0) → (f ≡ 0 → ⊥) → Walking line m at next now to (from + 1)
    walking_less {f} i n =
        record {
          asked = h.asked;
          long = h.long;
          front = h.front;
          gap = omega (arith, h.gap);
          within = omega arith;
          before = h.before;
          unread = unread_more;
          walk = walk_less come_to ahead (omega arith) (odd (get_or now from 0) (λ q. n (i ∙ q)));
        }

  unread_part : drop from (take m now) ≡ drop from (take m line)
  unread_part =
      drop_take from m now ∙ ap (take (m - from)) h.unread ∙ sym (drop_take from m line)

  pub walking_stop : {y v f : ℕ} → y ≡ y_of next → v ≡ y_of (get_or now from 0) → v < y → f ≡ flag_of (get_or now from 0) → f ≡ 0 → Walked line m at next now to from
  walking_stop e g under' i n =
      record {
        front = h.front;
        gap = h.gap;
        within = h.within;
        long = h.long;
        before = h.before;
        thinned = rw (unread_part, rest_is, ← walking_entry) (walk_stop come_to (sym i ∙ n) (omega arith));
      }

pub walking_end : {line : List ℕ} {m at next : ℕ} {now : List ℕ} {to from : ℕ} → Walking line m at next now to from → m ≤ from → Walked line m at next now to from
walking_end {line} {m} {at} {next} {now} {to} {from} h l =
    record {
      front = h.front;
      gap = h.gap;
      within = h.within;
      long = h.long;
      before = h.before;
      thinned = rw (none now) (walk_end (rw (none line) at h.walk));
    }
  where
    none : (r : List ℕ) → drop from (take m r) ≡ []
    none r = drop_of_length-le (take m r) {i = from} (omega (arith, length-take m r))
