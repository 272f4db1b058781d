-- The flags of the line: what they say of the entries before, and when they stay right.
use Prim.Native.Nat.{ℕ, zero, suc, ◌≤◌, ◌<◌}
use mathlib.Core.Path.{◌≡◌, sym, ◌∙◌}
use mathlib.Core.List.{List, ◌∷◌, ◌++◌, append-nil, []}
use native.Mathlib.Decide.{dec_le}
use native.Mathlib.Omega.{arith}
use lib.ListN.{length, take, get_or}
use lib.Seq.{append_snoc}
use Rattle.line.specs.Line.{x_of, y_of, over, low, FlagRight, Flagged}
use Rattle.line.proofs.Tally.{low_more, over_more}

-- Entries that tell a flag no more than others do: where those leave the rows below y free, so do these, and these dominate
-- every cell that those dominate.
pub record Fewer (before other : List ℕ) : Type 0 where
  pub free : (y : ℕ) → ((j : ℕ) → j < y → low before j ≡ 0) → (j : ℕ) → j < y → low other j ≡ 0
  pub some : (i j : ℕ) → 1 ≤ over before (i ∷ j ∷ []) → 1 ≤ over other (i ∷ j ∷ [])

fewer_more : {before other : List ℕ} → Fewer before other → (w : ℕ) → Fewer (before ++ (w ∷ [])) (other ++ (w ∷ []))
fewer_more {before} {other} h w =
    record {
      free = λ y e j l.
          let none : (j : ℕ) → j < y → low before j ≡ 0 = λ j l. omega (arith, e j l, low_more before w j) in
          omega (arith, low_more other w j, h.free y none j l, e j l, low_more before w j);
      some = λ i j l. go i j l (dec_le 1 (over before (i ∷ j ∷ [])));
    }
  where
    go : (i j : ℕ) → 1 ≤ over (before ++ (w ∷ [])) (i ∷ j ∷ []) → Dec (1 ≤ over before (i ∷ j ∷ [])) → 1 ≤ over (other ++ (w ∷ [])) (i ∷ j ∷ [])
    go i j l (yes m) = omega (arith, over_more other w (i ∷ j ∷ []), h.some i j m)
    go i j l (no m) = omega (arith, over_more other w (i ∷ j ∷ []), over_more before w (i ∷ j ∷ []))

-- two entries of one point tell the same
pub fewer_same : (before : List ℕ) (v w : ℕ) → x_of v ≡ x_of w → y_of v ≡ y_of w → Fewer (before ++ (w ∷ [])) (before ++ (v ∷ []))
fewer_same before v w e f =
    record {
      free = λ y g j l. low_more before v j ∙ rw f (sym (low_more before w j) ∙ g j l);
      some = λ i j l.
          let same : over (before ++ (v ∷ [])) (i ∷ j ∷ []) ≡ over (before ++ (w ∷ [])) (i ∷ j ∷ []) =
          over_more before v (i ∷ j ∷ []) ∙ rw (e, f) (sym (over_more before w (i ∷ j ∷ []))) in
          omega arith;
    }

pub flag_fewer : {before other : List ℕ} → Fewer before other → {w : ℕ} → FlagRight before w → FlagRight other w
flag_fewer h {w} f = record { clear = λ e. h.free (y_of w) (f.clear e); set = λ e i j d. h.some i j (f.set e i j d) }

pub flagged_fewer : (before other line : List ℕ) → Fewer before other → Flagged before line → Flagged other line
unfolding Flagged
flagged_fewer before other [] h f = tt
flagged_fewer before other (w ∷ line) h f =
    (flag_fewer h f.0, flagged_fewer (before ++ (w ∷ [])) (other ++ (w ∷ [])) line (fewer_more h w) f.1)

-- Two lines, one behind the other.
pub flagged_front : (before s t : List ℕ) → Flagged before (s ++ t) → Flagged before s
unfolding Flagged
flagged_front before [] t f = tt
flagged_front before (w ∷ s) t f = (f.0, flagged_front (before ++ (w ∷ [])) s t f.1)

pub flagged_back : (before s t : List ℕ) → Flagged before (s ++ t) → Flagged (before ++ s) t
unfolding Flagged
flagged_back before [] t f = rw (append-nil before) f
flagged_back before (w ∷ s) t f = rw (append_snoc before w s) at (flagged_back (before ++ (w ∷ [])) s t f.1)

pub flagged_join : (before s t : List ℕ) → Flagged before s → Flagged (before ++ s) t → Flagged before (s ++ t)
unfolding Flagged
flagged_join before [] t f g = rw (append-nil before) at g
flagged_join before (w ∷ s) t f g =
    (f.0, flagged_join (before ++ (w ∷ [])) s t f.1 (rw (append_snoc before w s) g))

pub flagged_one : (before : List ℕ) (w : ℕ) → FlagRight before w → Flagged before (w ∷ [])
unfolding Flagged
flagged_one before w f = (f, tt)

pub flagged_at : (before line : List ℕ) → Flagged before line → (k : ℕ) → k < length line → FlagRight (before ++ take k line) (get_or line k 0)
unfolding Flagged
flagged_at before [] f k l = absurd (let no' : ⊥ = omega arith in no')
flagged_at before (w ∷ line) f zero l = rw (append-nil before) f.0
flagged_at before (w ∷ line) f (suc k) l =
    rw (append_snoc before w (take k line)) at (flagged_at (before ++ (w ∷ [])) line f.1 k (omega arith))
