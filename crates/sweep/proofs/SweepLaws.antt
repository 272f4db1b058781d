-- The sweep: after i points, the total of these and the contribution of each among them.
use Prim.Native.Nat.{ℕ, suc, ◌+◌, ◌-◌, ◌*◌, ◌^◌, ◌≤◌, ◌<◌}
use mathlib.Core.Path.{◌≡◌, refl, sym, ◌∙◌}
use mathlib.Core.List.{List, ◌∷◌, ◌++◌, []}
use native.Mathlib.Nat.{mul-one, mul-zero}
use native.Mathlib.Decide.{dec_le}
use native.Mathlib.Numerals.{add-one}
use native.Mathlib.Omega.{arith}
use lib.ListN.{length, take, drop, get_or, set, length-set, length-take, length-map, take-append-drop, get_or-eq_default}
use lib.Seq.{take-suc, take_all, take-take, get_or-take, get_or-set_same, get_or-set_other, length-take-le}
use Rattle.hypervolume.specs.Cells.{box}
use Rattle.hypervolume.specs.Counts.{total, contribution, contributions}
use Rattle.hypervolume.proofs.Counting.{total_none, total_le_box}
use Rattle.hypervolume.proofs.Last.{Under}
use Rattle.line.specs.declared.column.Column.{Column}
use Rattle.hypervolume.specs.Sorted.{Small}
use Rattle.sweep.specs.Points.{Ready}
use Rattle.line.specs.Line.{entry_of, index_of, Rising, Flagged, Ranked}
use Rattle.strips.specs.Strips.{shared_with, Seen, Crossing, Crossed}
use Rattle.line.specs.Entries.{Entered}
use Rattle.sweep.proofs.Coordinates.{three, ascending_at}
use Rattle.sweep.proofs.Front.{getD_mapped, front_then}
use Rattle.strips.proofs.SettleLaws.{three_fit}
use Rattle.line.proofs.Flags.{flagged_front}
use Rattle.sweep.proofs.Layers.{LineFor, line_for_none, line_for_more, shared_with_none, next_total, next_own, next_other}
use Rattle.line.proofs.Entries.{below_lift, below_at}

pub record Progress (ps : List (List ℕ)) (line₀ out : List ℕ) (rx ry rz i held volume : ℕ) (line left : List ℕ) : Type 0 where
  pub ready : Ready ps (rx ∷ ry ∷ rz ∷ []) line₀ out
  pub within : i ≤ length ps
  pub long : length line ≡ length line₀
  pub alike : length left ≡ length out
  pub counted : volume ≡ total (rx ∷ ry ∷ rz ∷ []) (take i ps)
  pub each : (j : ℕ) → j < i → get_or left j 0 ≡ contribution (rx ∷ ry ∷ rz ∷ []) (take i ps) (get_or ps j [])
  pub behind : (j : ℕ) → i ≤ j → get_or left j 0 ≡ get_or out j 0
  pub few : held ≤ i
  pub lined : LineFor ry (take i ps) (take held line)

pub progress_none : {ps : List (List ℕ)} {r line out : List ℕ} → Ready ps r line out → length r ≡ 3 → Progress ps line out (get_or r 0 0) (get_or r 1 0) (get_or r 2 0) 0 0 0 line out
progress_none {ps} {r} {line} {out} h e =
    record {
      ready = rw (three r e) h;
      within = omega arith;
      long = refl;
      alike = refl;
      counted = sym (total_none (get_or r 0 0 ∷ get_or r 1 0 ∷ get_or r 2 0 ∷ []));
      each = λ j l. absurd (let no' : ⊥ = omega arith in no');
      behind = λ j l. refl;
      few = omega arith;
      lined = line_for_none (get_or r 1 0);
    }

-- The next point, at i.
module _ {ps : List (List ℕ)} {line₀ out : List ℕ} {rx ry rz i held volume : ℕ} {line left : List ℕ} (h : Progress ps line₀ out rx ry rz i held volume line left) (l : i < length ps) {p : List ℕ} (here : p ≡ get_or ps i []) where
  ready : Ready ps (rx ∷ ry ∷ rz ∷ []) line₀ out
  ready = h.ready

  passed : List (List ℕ)
  passed = take i ps

  pub progress_small : Small p
  progress_small a = rw here (ready.sorted.small i a)

  passed_many : length passed ≡ i
  unfolding passed
  passed_many = length-take-le i ps (omega arith)

  passed_at : (j : ℕ) → j < i → get_or passed j [] ≡ get_or ps j []
  unfolding passed
  passed_at j m = get_or-take i ps j [] m

  this : get_or p 0 0 ∷ get_or p 1 0 ∷ get_or p 2 0 ∷ [] ≡ get_or ps i []
  this = rw here (three (get_or ps i []) (ready.sorted.axes i l))

  next : take (i + 1) ps ≡ passed ++ ((get_or p 0 0 ∷ get_or p 1 0 ∷ get_or p 2 0 ∷ []) ∷ [])
  unfolding passed
  next = rw (add-one i, take-suc ps i [] l, this)

  under : Under 2 (get_or p 2 0) passed
  under j m =
      let before : j < i = omega (arith, passed_many) in
      rw (passed_at j before, here) (ascending_at ready.sorted j i (omega arith) l)

  shared_at : (j : ℕ) → j < i → get_or left j 0 ≡ contribution (rx ∷ ry ∷ rz ∷ []) (take (i + 1) ps) (get_or ps j []) + (rz - get_or p 2 0) * shared_with (rx ∷ ry ∷ []) (take held line) (get_or p 0 0 ∷ get_or p 1 0 ∷ []) j
  unfolding passed
  shared_at j m =
      h.each j m
      ∙ rw (next, ← (passed_at j m))
      (next_other h.lined rx rz (get_or p 0 0) (get_or p 1 0) (get_or p 2 0) under j (omega (arith, passed_many)))

  shared_none : (j : ℕ) → i ≤ j → shared_with (rx ∷ ry ∷ []) (take held line) (get_or p 0 0 ∷ get_or p 1 0 ∷ []) j ≡ 0
  unfolding passed
  shared_none j m =
      shared_with_none (length passed) j (rx ∷ ry ∷ []) (take held line) (get_or p 0 0 ∷ get_or p 1 0 ∷ []) h.lined.below (omega (arith, passed_many))

  line_indices : (k : ℕ) → index_of (get_or (take held line) k 0) < length left
  unfolding passed
  line_indices k =
      below_at (length left) (take held line)
      (omega (arith, ready, h.alike))
      (below_lift (length passed) (length left) (take held line) (omega (arith, passed_many, ready, h.alike)) h.lined.below)
      k

  pub progress_rising : Rising 0 (take held line)
  progress_rising = h.lined.valid.rising

  -- where the next point belongs, and the column there
  module _ {at : ℕ} (ranked : Ranked (take held line) (get_or p 0 0) at) where
    held_long : length (take held line) ≡ held
    held_long = length-take-le held line (omega (arith, h.long, h.few, ready.line_room))

    at_held : at ≤ held
    at_held = omega (arith, ranked.within, held_long)

    part : take at (take held line) ≡ take at line
    part = take-take at held line at_held

    pub progress_flags : Flagged [] (take at line)
    progress_flags =
        rw part at
        (flagged_front [] (take at (take held line)) (drop at (take held line)) (rw (take-append-drop at (take held line)) h.lined.valid.flags))

  module _ {height : ℕ} (e : height ≡ rz - get_or p 2 0) where
    pub progress_crossing : {at : ℕ} {column : Column} → Ranked (take held line) (get_or p 0 0) at → Seen ry (take at line) column → Crossing (take held line) at column (get_or p 0 0) (get_or p 1 0) rx ry height left
    progress_crossing {at} {column} ranked seen =
        record {
          rising = progress_rising;
          indices = line_indices;
          reached = ranked.before;
          state = rw (part ranked) seen.state;
          owned = seen.owned (length left) (λ k. first_indices k (dec_le (suc k) at));
          rx_small = ready.reference_small 0;
          ry_small = ready.reference_small 1;
          height_small = omega (arith, ready.reference_small 2);
          enough = λ j. enough j (dec_le (suc j) i);
        }
      where
        first_indices : (k : ℕ) → Dec (k < at) → index_of (get_or (take at line) k 0) < length left
        first_indices k (yes a) =
            rw (get_or-take at line k 0 a, ← (get_or-take held line k 0 (let u : k < held = omega (arith, at_held ranked) in u))) (line_indices k)
        first_indices k (no a) =
            rw (get_or-eq_default (take at line) 0 {n = k} (omega (arith, length-take at line)))
            (omega (arith, ready, h.alike))

        enough : (j : ℕ) → Dec (j < i) → height * shared_with (rx ∷ ry ∷ []) (take held line) (get_or p 0 0 ∷ get_or p 1 0 ∷ []) j ≤ get_or left j 0
        enough j (yes a) = rw e (omega (arith, shared_at j a))
        enough j (no a) = rw (shared_none j (omega arith), mul-zero height) (omega arith)

    module _ {left' : List ℕ} {area : ℕ} (c : Crossed (take held line) (get_or p 0 0) (get_or p 1 0) rx ry height left left' area) where
      new_total : total (rx ∷ ry ∷ rz ∷ []) (take (i + 1) ps) ≡ volume + height * area
      unfolding passed
      new_total =
          rw (next, e, h.counted, c.gained)
          (next_total h.lined rx rz (get_or p 0 0) (get_or p 1 0) (get_or p 2 0) under)

      pub progress_fits : volume + height * area < 2 ^ 64
      unfolding box
      progress_fits =
          let most : total (rx ∷ ry ∷ rz ∷ []) (take (i + 1) ps) ≤ rx * (ry * (rz * 1)) =
          total_le_box (rx ∷ ry ∷ rz ∷ []) (take (i + 1) ps) in
          let small : rx * (ry * (rz * 1)) ≤ 1152921504606846976 =
          rw (mul-one rz) (three_fit (ready.reference_small 0) (ready.reference_small 1) (ready.reference_small 2)) in
          omega (arith, new_total)

      pub progress_own : height * area < 2 ^ 64
      progress_own = omega (arith, progress_fits)

      new_each : (own : ℕ) → own ≡ height * area → length left' ≡ length left → (j : ℕ) → j < i + 1 → Dec (j < i) → get_or (set left' i own) j 0 ≡ contribution (rx ∷ ry ∷ rz ∷ []) (take (i + 1) ps) (get_or ps j [])
      unfolding passed
      new_each own f g j m (yes a) =
          let fall : get_or left' j 0 + height * shared_with (rx ∷ ry ∷ []) (take held line) (get_or p 0 0 ∷ get_or p 1 0 ∷ []) j ≡ get_or left j 0 = c.fallen j in
          let due : get_or left j 0 ≡ contribution (rx ∷ ry ∷ rz ∷ []) (take (i + 1) ps) (get_or ps j []) + height * shared_with (rx ∷ ry ∷ []) (take held line) (get_or p 0 0 ∷ get_or p 1 0 ∷ []) j =
          rw e (shared_at j a) in
          get_or-set_other left' i j own 0 (λ q. omega arith) ∙ omega arith
      new_each own f g j m (no a) =
          let last : j ≡ i = omega arith in
          rw (last, get_or-set_same left' i own 0 (omega (arith, g, h.alike, ready.room)), f, ← this, next, e, c.gained)
          (sym (next_own h.lined rx rz (get_or p 0 0) (get_or p 1 0) (get_or p 2 0) under))

      new_behind : (own : ℕ) → (j : ℕ) → i + 1 ≤ j → get_or (set left' i own) j 0 ≡ get_or out j 0
      new_behind own j m =
          let none : height * shared_with (rx ∷ ry ∷ []) (take held line) (get_or p 0 0 ∷ get_or p 1 0 ∷ []) j ≡ 0 =
          rw (shared_none j (omega arith)) (mul-zero height) in
          get_or-set_other left' i j own 0 (λ q. omega arith)
          ∙ omega (arith, c.fallen j, h.behind j (let n : i ≤ j = omega arith in n))

      pub progress_more : {own entry end : ℕ} {line' : List ℕ} → own ≡ height * area → length left' ≡ length left → entry ≡ entry_of (get_or p 0 0) (get_or p 1 0) i → Entered ry line held entry line' end → length line' ≡ length line → Progress ps line₀ out rx ry rz (i + 1) end (volume + own) line' (set left' i own)
      unfolding passed
      progress_more {own} {entry} {end} {line'} f g k t q =
          record {
            ready = ready;
            within = omega arith;
            long = q ∙ h.long;
            alike = length-set left' i own ∙ g ∙ h.alike;
            counted = rw f (sym new_total);
            each = λ j m. new_each own f g j m (dec_le (suc j) i);
            behind = new_behind own;
            few = omega (arith, t.within, h.few);
            lined =
                rw next
                (line_for_more h.lined (get_or p 0 0) (get_or p 1 0) (get_or p 2 0) (progress_small 1)
                (omega (arith, passed_many, ready.sorted.few))
                t.valid
                (rw (passed_many, ← k) t.alike)
                (t.below (suc (length passed)) (below_lift (length passed) (suc (length passed)) (take held line) (omega arith) h.lined.below)
                (rw (k, index_is) (omega (arith, passed_many)))));
          }
        where
          index_is : index_of (entry_of (get_or p 0 0) (get_or p 1 0) i) ≡ i
          index_is = omega (arith, ready.sorted.few)

-- After the last point.
module _ {ps : List (List ℕ)} {line₀ out : List ℕ} {rx ry rz i held volume : ℕ} {line left : List ℕ} (h : Progress ps line₀ out rx ry rz i held volume line left) (l : length ps ≤ i) where
  whole : take i ps ≡ ps
  whole = take_all i ps l

  progress_total : volume ≡ total (rx ∷ ry ∷ rz ∷ []) ps
  progress_total = rw whole at h.counted

  counts : List ℕ
  counts = contributions (rx ∷ ry ∷ rz ∷ []) ps

  counts_many : length counts ≡ length ps
  unfolding counts contributions
  counts_many = length-map ps (λ t. contribution (rx ∷ ry ∷ rz ∷ []) ps t)

  counts_at : (j : ℕ) → j < length ps → get_or counts j 0 ≡ get_or left j 0
  unfolding counts contributions
  counts_at j m =
      getD_mapped (λ t. contribution (rx ∷ ry ∷ rz ∷ []) ps t) [] 0 ps j m
      ∙ rw (h.each j (omega arith), whole)

  progress_contributions : left ≡ contributions (rx ∷ ry ∷ rz ∷ []) ps ++ drop (length ps) out
  unfolding counts
  progress_contributions =
      rw (← counts_many)
      (front_then left counts out h.alike
      (omega (arith, counts_many, h.ready.room))
      (λ j m. sym (counts_at j (omega (arith, counts_many))))
      (λ j m. h.behind j (omega (arith, counts_many, h.within))))

pub progress_end : {ps : List (List ℕ)} {line₀ out : List ℕ} {i held volume : ℕ} {line left : List ℕ} (r : List ℕ) → length r ≡ 3 → Progress ps line₀ out (get_or r 0 0) (get_or r 1 0) (get_or r 2 0) i held volume line left → length ps ≤ i → (volume ≡ total r ps) × (left ≡ contributions r ps ++ drop (length ps) out)
progress_end r e h l = (rw (three r e) at (progress_total h l), rw (three r e) at (progress_contributions h l))
