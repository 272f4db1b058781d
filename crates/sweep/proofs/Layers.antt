-- The next point of the sweep, seen along z: its gain and its joint contributions are counts of the line.
use Prim.Native.Nat.{ℕ, suc, ◌+◌, ◌-◌, ◌*◌, ◌≤◌, ◌<◌, min}
use mathlib.Core.Path.{◌≡◌, refl, sym, ap, ◌∙◌}
use mathlib.Core.Bool.{Bool, true, false}
use mathlib.Core.List.{List, ◌∷◌, ◌++◌, []}
use native.Mathlib.Nat.{zero-add, add-zero, add_comm}
use native.Mathlib.Decide.{dec_le}
use native.Mathlib.Numerals.{one-add, add-one}
use native.Mathlib.Omega.{arith}
use lib.Dec.{leb, eqb, eqb-suc-suc}
use lib.ListN.{length, get_or, length-append, get_or-append}
use lib.Seq.{get_or-append_seam}
use borrow.Author.Tests.{eq-eqb, ne_eqb}
use Rattle.slices.specs.Choices.{both}
use Rattle.hypervolume.specs.Cells.{holds, dominates, cells, count}
use Rattle.hypervolume.specs.Counts.{cover, total, contribution, gain, joint}
use Rattle.hypervolume.proofs.Sums.{sum_ext}
use Rattle.hypervolume.proofs.Tests.{Equated, same, differs, equated}
use Rattle.slices.proofs.Choices.{both_comm}
use Rattle.hypervolume.proofs.Dominance.{cover_append, among_at}
use Rattle.hypervolume.proofs.Counting.{count_none, SameCover, total_same, total_more, contribution_same, contribution_new, contribution_more}
use Rattle.hypervolume.proofs.Last.{Under, gain_last, joint_last}
use Rattle.line.specs.Line.{entry_of, x_of, y_of, index_of, spot, tally, over, over_by, Rising, Flagged, ValidLine, Alike}
use Rattle.strips.specs.Strips.{gain_over, shared_with}
use Rattle.line.specs.Entries.{Below}
use Rattle.line.proofs.Tally.{over_cons}

-- The line counts as the trials do, seen along z, in the rows below ry, where two are as good as more.
unfoldable pub LineCovers : ℕ → List ℕ → List (List ℕ) → Type 0
LineCovers ry line trials = (i j : ℕ) → j < ry → min (over line (i ∷ j ∷ [])) 2 ≡ min (cover trials (i ∷ j ∷ [])) 2

-- Where there is at most one entry over a cell, the entry of index t is over it just where the trial is.
unfoldable pub LineCoversAt : ℕ → ℕ → List ℕ → List ℕ → Type 0
LineCoversAt ry t line trial = (i j : ℕ) → j < ry → over line (i ∷ j ∷ []) ≤ 1 → over_by t line (i ∷ j ∷ []) ≡ holds (dominates trial (i ∷ j ∷ []))

-- Counts of a layer, cell by cell.
pub count_layer : (rx ry : ℕ) (p q : List ℕ → Bool) → ((i j : ℕ) → j < ry → p (i ∷ j ∷ []) ≡ q (i ∷ j ∷ [])) → count (rx ∷ ry ∷ []) p ≡ count (rx ∷ ry ∷ []) q
unfolding count cells
count_layer rx ry p q h =
    sum_ext rx _ _ (λ i l. sum_ext ry _ _ (λ j m. ap holds (h i j m)))

none_alike : (k n : ℕ) → min k 2 ≡ min n 2 → eqb k 0 ≡ eqb n 0
none_alike k n e = go (eqb k 0) (eqb n 0) (equated k 0) (equated n 0)
  where
    go : (a b : Bool) → Equated k 0 a → Equated n 0 b → a ≡ b
    go true true p q = refl
    go false false p q = refl
    go true false (same p) (differs q) = absurd (let no' : ⊥ = q (omega arith) in no')
    go false true (differs p) (same q) = absurd (let no' : ⊥ = p (omega arith) in no')

-- In a layer a point is not compared on z, whatever its z is.
pub gain_over_gain : (rx ry : ℕ) (line : List ℕ) (trials : List (List ℕ)) (x y z : ℕ) → LineCovers ry line trials → gain_over (rx ∷ ry ∷ []) line (x ∷ y ∷ []) ≡ gain (rx ∷ ry ∷ []) trials (x ∷ y ∷ z ∷ [])
unfolding gain_over gain LineCovers dominates
gain_over_gain rx ry line trials x y z h =
    count_layer rx ry _ _
    (λ i j l. ap (both (dominates (x ∷ y ∷ []) (i ∷ j ∷ []))) (none_alike (over line (i ∷ j ∷ [])) (cover trials (i ∷ j ∷ [])) (h i j l)))

jointly : (p t : Bool) (n k b : ℕ) → min n 2 ≡ min k 2 → (n ≤ 1 → b ≡ holds t) → both p (both (eqb n 1) (leb 1 b)) ≡ both p (both t (eqb (holds p + k) 2))
unfolding both holds
jointly false t n k b e f = refl
jointly true t n k b e f = rw (one-add k, eqb-suc-suc k 1) (go t (eqb n 1) (eqb k 1) (equated n 1) (equated k 1) f)
  where
    go : (t c d : Bool) → Equated n 1 c → Equated k 1 d → (n ≤ 1 → b ≡ holds t) → both c (leb 1 b) ≡ both t d
    go t true false (same p) (differs q) f = absurd (let no' : ⊥ = q (omega arith) in no')
    go t false true (differs p) (same q) f = absurd (let no' : ⊥ = p (omega arith) in no')
    go t false false p q f = sym (both_comm t false)
    go true true true (same p) q f = rw (f (omega arith))
    go false true true (same p) q f = rw (f (omega arith))

pub shared_with_joint : (rx ry : ℕ) (line : List ℕ) (trials : List (List ℕ)) (x y z : ℕ) (t : List ℕ) (j : ℕ) → LineCovers ry line trials → LineCoversAt ry j line t → shared_with (rx ∷ ry ∷ []) line (x ∷ y ∷ []) j ≡ joint (rx ∷ ry ∷ []) ((x ∷ y ∷ z ∷ []) ∷ trials) (x ∷ y ∷ z ∷ []) t
unfolding shared_with joint cover LineCovers LineCoversAt dominates
shared_with_joint rx ry line trials x y z t j h o =
    count_layer rx ry _ _
    (λ i k l. jointly (dominates (x ∷ y ∷ []) (i ∷ k ∷ [])) (dominates t (i ∷ k ∷ [])) (over line (i ∷ k ∷ [])) (cover trials (i ∷ k ∷ [])) (over_by j line (i ∷ k ∷ [])) (h i k l) (o i k l))

-- No entry has the index j.
pub over_by_none : (n j : ℕ) (line c : List ℕ) → Below n line → n ≤ j → over_by j line c ≡ 0
unfolding over_by tally Below both holds
over_by_none n j [] c b l = refl
over_by_none n j (w ∷ line) c b l =
    rw (ne_eqb (index_of w) j (λ e. omega (arith, b.0)), over_by_none n j line c b.1 l)

pub shared_with_none : (n j : ℕ) (r line p : List ℕ) → Below n line → n ≤ j → shared_with r line p j ≡ 0
unfolding shared_with both
shared_with_none n j r line p b l =
    count_none r _ (λ c. rw (over_by_none n j line c b l) (closed (dominates p c) (eqb (over line c) 1)))
  where
    closed : (a b : Bool) → both a (both b false) ≡ false
    closed a b = rw (both_comm b false) (both_comm a false)

-- An entry gives back what was put in.
module _ (x y index : ℕ) (y_small : y ≤ 1048576) (index-small : index < 512) where
  pub spot_entry : spot (entry_of x y index) ≡ x ∷ y ∷ []
  spot_entry =
      let first' : x_of (entry_of x y index) ≡ x = omega arith in
      let second' : y_of (entry_of x y index) ≡ y = omega arith in
      rw (first', second')

  pub index_entry : index_of (entry_of x y index) ≡ index
  index_entry = omega arith

-- The line stands for the points passed, each with its index in the list.
pub record LineFor (ry : ℕ) (trials : List (List ℕ)) (line : List ℕ) : Type 0 where
  pub valid : ValidLine line
  pub all : LineCovers ry line trials
  pub each : (j : ℕ) → j < length trials → LineCoversAt ry j line (get_or trials j [])
  pub below : Below (length trials) line

pub line_for_none : (ry : ℕ) → LineFor ry [] []
unfolding LineCovers over tally cover Below Rising Flagged
line_for_none ry =
    record {
      valid = record { rising = tt; flags = tt };
      all = λ i j l. refl;
      each = λ j l. absurd (let no' : ⊥ = omega arith in no');
      below = tt;
    }

-- One more point: a line that counts as the old one with its entry.
module _ {ry : ℕ} {trials : List (List ℕ)} {line : List ℕ} (h : LineFor ry trials line) (x y z : ℕ) (y_small : y ≤ 1048576) (few : length trials < 512) where
  p : List ℕ
  p = x ∷ y ∷ z ∷ []

  abbrev w : ℕ
  w = entry_of x y (length trials)

  over_more : (c : List ℕ) → over (w ∷ line) c ≡ holds (dominates (x ∷ y ∷ []) c) + over line c
  over_more c = rw (over_cons (entry_of x y (length trials)) line c, spot_entry x y (length trials) y_small few)

  over_by_more : (j : ℕ) (c : List ℕ) → over_by j (w ∷ line) c ≡ holds (both (eqb (length trials) j) (dominates (x ∷ y ∷ []) c)) + over_by j line c
  unfolding over_by tally
  over_by_more j c =
      rw (spot_entry x y (length trials) y_small few, index_entry x y (length trials) y_small few)

  cover_next : (i j : ℕ) → cover (trials ++ (p ∷ [])) (i ∷ j ∷ []) ≡ cover trials (i ∷ j ∷ []) + holds (dominates (x ∷ y ∷ []) (i ∷ j ∷ []))
  unfolding p cover dominates
  cover_next i j =
      cover_append trials (p ∷ []) (i ∷ j ∷ [])
      ∙ ap (λ k. cover trials (i ∷ j ∷ []) + k) (add-zero (holds (dominates (x ∷ y ∷ []) (i ∷ j ∷ []))))

  module _ {left : List ℕ} (valid : ValidLine left) (alike : Alike ry (entry_of x y (length trials) ∷ line) left) (below' : Below (suc (length trials)) left) where
    -- where at most one entry is over a cell now, at most one was before
    few_before : (i j : ℕ) → j < ry → over left (i ∷ j ∷ []) ≤ 1 → over (w ∷ line) (i ∷ j ∷ []) ≤ 1
    few_before i j l m = omega (arith, (alike i j l).many)

    each_more : (t : ℕ) → t < length (trials ++ (p ∷ [])) → Dec (t < length trials) → LineCoversAt ry t left (get_or (trials ++ (p ∷ [])) t [])
    unfolding LineCoversAt both holds p dominates
    each_more t l (yes a) i j m o =
        let one : over (w ∷ line) (i ∷ j ∷ []) ≤ 1 = few_before i j m o in
        rw (get_or-append trials (p ∷ []) [] t a)
        ((alike i j m).whose t one
        ∙ over_by_more t (i ∷ j ∷ [])
        ∙ rw (ne_eqb (length trials) t (λ e. omega arith)) (zero-add (over_by t line (i ∷ j ∷ [])))
        ∙ h.each t a i j m (omega (arith, over_more (i ∷ j ∷ []))))
    each_more t l (no a) i j m o =
        let last : t ≡ length trials = omega (arith, length-append trials (p ∷ [])) in
        rw (last, get_or-append_seam trials p [] [])
        ((alike i j m).whose (length trials) (few_before i j m o)
        ∙ over_by_more (length trials) (i ∷ j ∷ [])
        ∙ rw (eq-eqb (length trials) (length trials) refl, over_by_none (length trials) (length trials) line (i ∷ j ∷ []) h.below (omega arith))
        (add-zero (holds (dominates (x ∷ y ∷ []) (i ∷ j ∷ [])))))

    pub line_for_more : LineFor ry (trials ++ ((x ∷ y ∷ z ∷ []) ∷ [])) left
    unfolding LineCovers p
    line_for_more =
        record {
          valid = valid;
          all = λ i j l.
              let before : min (over line (i ∷ j ∷ [])) 2 ≡ min (cover trials (i ∷ j ∷ [])) 2 = h.all i j l in
              omega (arith, (alike i j l).many, over_more (i ∷ j ∷ []), cover_next i j);
          each = λ t l. each_more t l (dec_le (suc t) (length trials));
          below = rw (length-append trials (p ∷ []), add-one (length trials)) below';
        }

-- The next point q of the sweep, whose z is no less than that of any point passed: each of its counts is the height of
-- its layers times the count of the line (law 7), and the counts of the points passed move by them (laws 1 and 2).
module _ {ry : ℕ} {trials : List (List ℕ)} {line : List ℕ} (h : LineFor ry trials line) (rx rz x y z : ℕ) (under : Under 2 z trials) where
  reference : List ℕ
  reference = rx ∷ ry ∷ rz ∷ []

  q : List ℕ
  q = x ∷ y ∷ z ∷ []

  last : SameCover (trials ++ (q ∷ [])) (q ∷ trials)
  unfolding SameCover cover
  last c =
      cover_append trials (q ∷ []) c
      ∙ rw (add-zero (holds (dominates q c))) (add_comm (cover trials c) (holds (dominates q c)))

  next_gain : gain reference trials q ≡ (rz - z) * gain_over (rx ∷ ry ∷ []) line (x ∷ y ∷ [])
  unfolding reference q
  next_gain = gain_last (rx ∷ ry ∷ []) rz trials q under ∙ rw (gain_over_gain rx ry line trials x y z h.all)

  next_joint : (j : ℕ) → j < length trials → joint reference (q ∷ trials) q (get_or trials j []) ≡ (rz - z) * shared_with (rx ∷ ry ∷ []) line (x ∷ y ∷ []) j
  unfolding reference q
  next_joint j l =
      joint_last (rx ∷ ry ∷ []) rz trials q (get_or trials j []) under (under j l)
      ∙ rw (shared_with_joint rx ry line trials x y z (get_or trials j []) j h.all (h.each j l))

  pub next_total : total (rx ∷ ry ∷ rz ∷ []) (trials ++ ((x ∷ y ∷ z ∷ []) ∷ [])) ≡ total (rx ∷ ry ∷ rz ∷ []) trials + (rz - z) * gain_over (rx ∷ ry ∷ []) line (x ∷ y ∷ [])
  unfolding reference q
  next_total =
      total_same reference (trials ++ (q ∷ [])) (q ∷ trials) last
      ∙ total_more reference trials q
      ∙ ap (λ k. total reference trials + k) next_gain

  pub next_own : contribution (rx ∷ ry ∷ rz ∷ []) (trials ++ ((x ∷ y ∷ z ∷ []) ∷ [])) (x ∷ y ∷ z ∷ []) ≡ (rz - z) * gain_over (rx ∷ ry ∷ []) line (x ∷ y ∷ [])
  unfolding reference q
  next_own =
      contribution_same reference (trials ++ (q ∷ [])) (q ∷ trials) q last
      ∙ contribution_new reference trials q
      ∙ next_gain

  pub next_other : (j : ℕ) → j < length trials → contribution (rx ∷ ry ∷ rz ∷ []) trials (get_or trials j []) ≡ contribution (rx ∷ ry ∷ rz ∷ []) (trials ++ ((x ∷ y ∷ z ∷ []) ∷ [])) (get_or trials j []) + (rz - z) * shared_with (rx ∷ ry ∷ []) line (x ∷ y ∷ []) j
  unfolding reference q
  next_other j l =
      contribution_more reference trials q (get_or trials j []) (among_at trials j l)
      ∙ rw (contribution_same reference (trials ++ (q ∷ [])) (q ∷ trials) (get_or trials j []) last, next_joint j l)
