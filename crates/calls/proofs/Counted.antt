-- Counted archives: insertion and removal keep total, front and contributions equal to their counts, the audit tells
-- whether they are, and row 13 never comes where they are.
use Prim.Native.Nat.{ℕ, ◌+◌, ◌-◌, ◌≤◌}
use mathlib.Core.Path.{◌≡◌, refl, sym, ap, ◌∙◌}
use mathlib.Core.Bool.{true, false}
use mathlib.Core.Logic.{◌⊎◌, inl, inr, ◌↔◌}
use mathlib.Core.List.Memᴰ
use mathlib.Core.List.{List, ◌∷◌, map, Memᴰ, []}
use native.Mathlib.Omega.{arith}
use lib.Dec.{eqb}
use borrow.Author.Tests.{eqb-true, eq-eqb, le-ltb}
use Rattle.hypervolume.specs.Counts.{total, contribution, joint, gain}
use Rattle.hypervolume.specs.Front.{front}
use Rattle.slices.proofs.Choices.{both_true, both_intro, neither}
use Rattle.hypervolume.proofs.Dominance.{Among, among_member}
use Rattle.hypervolume.proofs.Counting.{SameCover, total_same, contribution_same, total_more, contribution_new, contribution_more, total_le_box, contribution_le_box, total_none}
use Rattle.words.specs.Archive.{Trial, Row, Shape, Archive, point, trials, points}
use Rattle.words.specs.Format.{held, distinct}
use Rattle.calls.specs.Calls.{held_trials, held_points, reference_of, box_of, empty, place, insert_gain, joint_with, lowered, inserted, falls_below, insert_overruns, row_of, others, without, removal_loss, raised, removed, exceeds, remove_overruns, rows_counted, audited}
use Rattle.calls.specs.Counted.{IsCounted, counted_row, counted}
use Rattle.calls.proofs.Members.{tested_each, each_tested, map_on, map-map, map_id, trials_map, place_map, place_member, place_cover, others_member, Split, split}

-- A list of trials with one more, in whatever place: what the counts of the two have to do with each other.
module _ (r : List ℕ) (ts more : List (List ℕ)) (t : List ℕ) (same : SameCover more (t ∷ ts)) where
  pub total_with : total r more ≡ total r ts + gain r ts t
  total_with = total_same r more (t ∷ ts) same ∙ total_more r ts t

  pub contribution_with_new : contribution r more t ≡ gain r ts t
  contribution_with_new = contribution_same r more (t ∷ ts) t same ∙ contribution_new r ts t

  pub contribution_with : (u : List ℕ) → Among ts u → contribution r ts u ≡ contribution r more u + joint r (t ∷ ts) t u
  contribution_with u a = rw (contribution_same r more (t ∷ ts) u same) (contribution_more r ts t u a)

-- A record's point is among the points of the archive.
pub row_among : (rows : List Row) (r : Row) → Memᴰ r rows → Among (points (trials rows)) (point r.trial)
unfolding points trials
row_among rows r m = among_member (Memᴰ.map point (Memᴰ.map (λ q. q.trial) m))

-- The trials after an insertion.
pub inserted_trials : (a : Archive) (t : Trial) → held_trials (inserted a t) ≡ place (λ u. u) t (held_trials a)
unfolding inserted lowered trials
inserted_trials a t =
    place_map (λ r. r.trial) (λ r. r.trial) (λ u. u) (λ r. refl) _ (map (lowered a t) a.rows)
    ∙ ap (place (λ u. u) t) (trials_map (lowered a t) a.rows (λ r. refl))

pub inserted_cover : (a : Archive) (t : Trial) → SameCover (held_points (inserted a t)) (points (t ∷ held_trials a))
unfolding SameCover
inserted_cover a t c = rw (inserted_trials a t) (place_cover t (held_trials a) c)

-- What a held trial contributes with one trial more, and what that one shares with it.
pub contribution_inserted : (a : Archive) (t : Trial) (q : Row) → Memᴰ q a.rows
    → contribution (reference_of a) (held_points a) (point q.trial) ≡ contribution (reference_of a) (held_points (inserted a t)) (point q.trial) + joint_with a t q
unfolding joint_with points
contribution_inserted a t q m =
    contribution_with (reference_of a) (held_points a) (held_points (inserted a t)) (point t) (inserted_cover a t)
    (point q.trial) (row_among a.rows q m)

pub inserted_counted : (a : Archive) (t : Trial) → IsCounted a → IsCounted (inserted a t)
unfolding inserted insert_gain lowered points
inserted_counted a t h =
    record {
      sum =
          ap (λ k. k + insert_gain a t) h.sum
          ∙ sym (total_with (reference_of a) (held_points a) (held_points (inserted a t)) (point t) (inserted_cover a t));
      front = refl;
      rows = λ q m. go q (Memᴰ.cases_cons (place_member (λ u. u.trial) q _ _ m));
    }
  where
    new : Row
    new = record { trial = t; kept = insert_gain a t }

    moved : (q : Row) → (p : Row) × Memᴰ p a.rows × (lowered a t p ≡ q)
        → q.kept ≡ contribution (reference_of a) (held_points (inserted a t)) (point q.trial)
    moved q w = rw (← w.2) (let was = h.rows w.0 w.1 in let now = contribution_inserted a t w.0 w.1 in omega arith)

    go : (q : Row) → (q ≡ new) ⊎ Memᴰ q (map (lowered a t) a.rows)
        → q.kept ≡ contribution (reference_of a) (held_points (inserted a t)) (point q.trial)
    go q (inl e) = rw e (sym (contribution_with_new (reference_of a) (held_points a) (held_points (inserted a t)) (point t) (inserted_cover a t)))
    go q (inr m) = moved q (Memᴰ.of_map (lowered a t) a.rows m)

-- The trials after a removal.
pub removed_trials : (a : Archive) (n : ℕ) → held_trials (removed a n) ≡ held_trials (without a n)
unfolding removed without raised
removed_trials a n = trials_map (raised (without a n) (row_of n a.rows).trial) (others n a.rows) (λ r. refl)

-- What a trial that stays contributes without the removed one, and what the two shared.
pub contribution_removed : (a : Archive) (n : ℕ) → Split n a.rows → (q : Row) → Memᴰ q (others n a.rows)
    → contribution (reference_of a) (held_points (without a n)) (point q.trial) ≡ contribution (reference_of a) (held_points a) (point q.trial) + joint_with (without a n) (row_of n a.rows).trial q
unfolding joint_with points without
contribution_removed a n p q m =
    contribution_with (reference_of a) (held_points (without a n)) (held_points a) (point (row_of n a.rows).trial) p.covers
    (point q.trial) (row_among (others n a.rows) q m)

-- What a removal takes from the total: the contribution of the removed trial.
pub total_removed : (a : Archive) (n : ℕ) → Split n a.rows
    → total (reference_of a) (held_points a) ≡ total (reference_of a) (held_points (without a n)) + removal_loss a n
unfolding removal_loss insert_gain points without
total_removed a n p =
    total_with (reference_of a) (held_points (without a n)) (held_points a) (point (row_of n a.rows).trial) p.covers

pub loss_kept : (a : Archive) (n : ℕ) → IsCounted a → Split n a.rows → (row_of n a.rows).kept ≡ removal_loss a n
unfolding removal_loss insert_gain points without
loss_kept a n h p =
    h.rows (row_of n a.rows) p.member
    ∙ contribution_with_new (reference_of a) (held_points (without a n)) (held_points a) (point (row_of n a.rows).trial) p.covers

pub removed_counted : (a : Archive) (n : ℕ) → IsCounted a → Split n a.rows → IsCounted (removed a n)
unfolding removed raised
removed_counted a n h p =
    record {
      sum =
          let was = h.sum in
          let now = total_removed a n p in
          let left : a.sum - removal_loss a n ≡ total (reference_of a) (held_points (without a n)) = omega arith in
          left ∙ ap (λ ts. total (reference_of a) (points ts)) (sym (removed_trials a n));
      front = refl;
      rows = λ q m. moved q (Memᴰ.of_map _ (others n a.rows) m);
    }
  where
    moved : (q : Row)
        → (p' : Row) × Memᴰ p' (others n a.rows) × (raised (without a n) (row_of n a.rows).trial p' ≡ q)
        → q.kept ≡ contribution (reference_of a) (held_points (removed a n)) (point q.trial)
    moved q w =
        rw (← w.2, removed_trials a n)
        (let was = h.rows w.0 (others_member n a.rows w.0 w.1) in
        let now = contribution_removed a n p w.0 w.1 in
        omega arith)

-- "The audit answers yes exactly when the total and all contributions equal their counts", and the front.
unfoldable RowCounted : Archive → Row → Type 0
RowCounted a r = r.kept ≡ contribution (reference_of a) (held_points a) (point r.trial)

pub audited_counted : (a : Archive) → audited a ≡ true → IsCounted a
unfolding audited rows_counted RowCounted
audited_counted a e =
    let parts = both_true (eqb a.sum (total (reference_of a) (held_points a))) _ e in
    let rest = both_true (eqb a.front (front (held_points a))) (rows_counted a a.rows) parts.1 in
    record {
      sum = eqb-true _ _ parts.0;
      front = eqb-true _ _ rest.0;
      rows = tested_each (rows_counted a) true (RowCounted a) each a.rows rest.1;
    }
  where
    each : (r : Row) (rows : List Row) → rows_counted a (r ∷ rows) ≡ true → RowCounted a r × (rows_counted a rows ≡ true)
    each r rows k = let parts = both_true _ _ k in (eqb-true r.kept _ parts.0, parts.1)

pub counted_audited : (a : Archive) → IsCounted a → audited a ≡ true
unfolding audited rows_counted RowCounted
counted_audited a h =
    both_intro _ _ (eq-eqb a.sum (total (reference_of a) (held_points a)) h.sum)
    (both_intro _ _ (eq-eqb a.front (front (held_points a)) h.front)
    (each_tested (rows_counted a) true (RowCounted a) refl (λ r rows k later. both_intro _ _ (eq-eqb r.kept _ k) later) a.rows h.rows))

-- A counted archive is the counted archive of its trials, and that one is counted.
pub counted_trials : (s : Shape) (ts : List Trial) → held_trials (counted s ts) ≡ ts
unfolding counted counted_row trials
counted_trials s ts = map-map (counted_row s ts) (λ r. r.trial) ts ∙ map_id ts

pub counted_is_counted : (s : Shape) (ts : List Trial) → IsCounted (counted s ts)
unfolding counted counted_row
counted_is_counted s ts =
    record {
      sum = ap (λ us. total (reference_of (counted s ts)) (points us)) (sym (counted_trials s ts));
      front = ap (λ us. front (points us)) (sym (counted_trials s ts));
      rows = λ q m. each q (Memᴰ.of_map (counted_row s ts) ts m);
    }
  where
    each : (q : Row) → (t : Trial) × Memᴰ t ts × (counted_row s ts t ≡ q)
        → q.kept ≡ contribution (reference_of (counted s ts)) (held_points (counted s ts)) (point q.trial)
    each q w =
        rw (← w.2)
        (ap (λ us. contribution (reference_of (counted s ts)) (points us) (point w.0)) (sym (counted_trials s ts)))

pub is_counted : (a : Archive) → IsCounted a → a ≡ counted a.shape (held_trials a)
unfolding counted counted_row trials
is_counted a h = λ i. record { shape = a.shape; sum = h.sum i; front = h.front i; rows = same i }
  where
    row : Row → Row
    row r = counted_row a.shape (held_trials a) r.trial

    same : a.rows ≡ map (counted_row a.shape (held_trials a)) (held_trials a)
    same =
        sym (map-map (λ r. r.trial) (counted_row a.shape (held_trials a)) a.rows
        ∙ map_on row (λ r. r) a.rows (λ r m. λ i. record { trial = r.trial; kept = sym (h.rows r m) i })
        ∙ map_id a.rows)

pub audited_iff : (a : Archive) → (audited a ≡ true) ↔ (a ≡ counted a.shape (held_trials a))
audited_iff a =
    (λ e. is_counted a (audited_counted a e), λ e. counted_audited a (rw e (counted_is_counted a.shape (held_trials a))))

-- An archive just started, insertion and removal, in terms of the trials alone.
pub empty_counted : (s : Shape) → empty s ≡ counted s []
unfolding empty counted trials points
empty_counted s = λ i. record { shape = s; sum = sym (total_none (reference_of (empty s))) i; front = front []; rows = [] }

pub counted_insert : (s : Shape) (ts : List Trial) (t : Trial) → inserted (counted s ts) t ≡ counted s (place (λ u. u) t ts)
unfolding inserted counted
counted_insert s ts t =
    is_counted (inserted (counted s ts) t) (inserted_counted (counted s ts) t (counted_is_counted s ts))
    ∙ ap (counted s) (inserted_trials (counted s ts) t ∙ ap (place (λ u. u) t) (counted_trials s ts))

pub counted_split : (s : Shape) (ts : List Trial) (n : ℕ) → held n ts ≡ true → distinct ts ≡ true → Split n (counted s ts).rows
counted_split s ts n h d = split n (counted s ts).rows (rw (counted_trials s ts) h) (rw (counted_trials s ts) d)

pub counted_remove : (s : Shape) (ts : List Trial) (n : ℕ) → held n ts ≡ true → distinct ts ≡ true
    → removed (counted s ts) n ≡ counted s (held_trials (without (counted s ts) n))
unfolding removed counted
counted_remove s ts n h d =
    is_counted (removed (counted s ts) n) (removed_counted (counted s ts) n (counted_is_counted s ts) (counted_split s ts n h d))
    ∙ ap (counted s) (removed_trials (counted s ts) n)

-- Row 13 never comes on a counted archive.
pub insert_fits : (a : Archive) (t : Trial) → IsCounted a → insert_overruns a t ≡ false
unfolding insert_overruns inserted falls_below
insert_fits a t h =
    neither _ _
    (le-ltb (box_of a) (a.sum + insert_gain a t)
    (rw (inserted_counted a t h).sum (total_le_box (reference_of a) (held_points (inserted a t)))))
    (each_tested (falls_below a t) false (λ r. joint_with a t r ≤ r.kept) refl
    (λ r rows k later. neither _ _ (le-ltb r.kept (joint_with a t r) k) later) a.rows
    (λ r m. let was = h.rows r m in let now = contribution_inserted a t r m in omega arith))

pub remove_fits : (a : Archive) (n : ℕ) → IsCounted a → Split n a.rows → remove_overruns a n ≡ false
unfolding remove_overruns without exceeds
remove_fits a n h p =
    neither _ _
    (le-ltb a.sum (removal_loss a n) (let was = h.sum in let now = total_removed a n p in omega arith))
    (each_tested (exceeds (without a n) t) false (λ r. r.kept + joint_with (without a n) t r ≤ box_of a) refl
    (λ r rows k later. neither _ _ (le-ltb (box_of a) (r.kept + joint_with (without a n) t r) k) later) (others n a.rows)
    (λ r m.
    let was = h.rows r (others_member n a.rows r m) in
    let now = contribution_removed a n p r m in
    let most = contribution_le_box (reference_of a) (held_points (without a n)) (point r.trial) in
    omega arith))
  where
    t : Trial
    t = (row_of n a.rows).trial

-- An archive just started has the audit's yes, and where it is yes before an insertion or a removal it is yes after.
pub audited_started : (s : Shape) → audited (empty s) ≡ true
audited_started s = counted_audited (empty s) (rw (empty_counted s) (counted_is_counted s []))

pub audited_inserted : (a : Archive) (t : Trial) → audited a ≡ true → audited (inserted a t) ≡ true
audited_inserted a t e = counted_audited (inserted a t) (inserted_counted a t (audited_counted a e))

pub audited_removed : (a : Archive) (n : ℕ) → audited a ≡ true → held n (held_trials a) ≡ true
    → distinct (held_trials a) ≡ true → audited (removed a n) ≡ true
audited_removed a n e h d =
    counted_audited (removed a n) (removed_counted a n (audited_counted a e) (split n a.rows h d))
