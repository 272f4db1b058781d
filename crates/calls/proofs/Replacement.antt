-- What a replacement would change, by the counts over the other trials.
use Prim.Native.Nat.{ℕ, zero, suc, ◌+◌, ◌-◌, ◌≤◌}
use mathlib.Core.Path.{◌≡◌, refl, sym, ap, ap₂, ◌∙◌}
use mathlib.Core.Bool.{Bool, true, false, true≢false, cond}
use mathlib.Core.List.{List, ◌∷◌, []}
use native.Mathlib.Omega.{arith}
use lib.Dec.{ltb, eqb}
use lib.IntN.{ℤ, pos, negsuc, neg_ℤ, ◌+ℤ◌, ◌-ℤ◌, nat_abs, +ℤ_assoc, +ℤ_comm, +ℤ_invr, +ℤ-neg_ℤ_cancel, neg_ℤ-+ℤ, pos-+ℤ-pos}
use borrow.Author.Tests.{not-true}
use Rattle.slices.specs.Choices.{pick, either}
use Rattle.slices.proofs.Choices.{both_true}
use Rattle.hypervolume.specs.Counts.{cover, total, gain}
use Rattle.hypervolume.proofs.Tests.{Equated, same, differs, equated}
use Rattle.hypervolume.proofs.Counting.{SameCover, total_le_box}
use Rattle.words.specs.Archive.{Trial, Row, Archive, point, trials, points}
use Rattle.words.specs.Layout.{read}
use Rattle.words.specs.Format.{held, distinct}
use Rattle.words.proofs.Passed.{passes_again}
use Rattle.calls.specs.Calls.{held_points, reference_of, box_of, insert_gain, row_of, others, without, removal_loss, inserted, removed}
use Rattle.calls.specs.Lent.{insert, remove}
use Rattle.calls.specs.Replacement.{replaced, difference, change_of, counted_total, Replaceable, ReplacementLaws}
use Rattle.calls.proofs.Members.{others_here, others_later, others_none, split}
use Rattle.calls.proofs.Counted.{total_with, total_removed, inserted_cover, removed_trials}
use Rattle.calls.proofs.Sound.{remove_passed}
use Rattle.calls.proofs.Known.{known}
use Rattle.calls.proofs.Lent.{insert_done, remove_done, done_reads}

-- Differences of counts.
pub difference_more : (x m n : ℕ) → difference (x + m) (x + n) ≡ difference m n
unfolding difference
difference_more x m n =
    ap₂ (λ a b. a -ℤ b) (sym (pos-+ℤ-pos x m) ∙ +ℤ_comm (pos x) (pos m)) (sym (pos-+ℤ-pos x n))
    ∙ ap (λ (k : ℤ). pos m +ℤ pos x +ℤ k) (neg_ℤ-+ℤ (pos x) (pos n))
    ∙ sym (+ℤ_assoc (pos m +ℤ pos x) (neg_ℤ (pos x)) (neg_ℤ (pos n)))
    ∙ ap (λ (k : ℤ). k +ℤ neg_ℤ (pos n)) (+ℤ-neg_ℤ_cancel (pos m) (pos x))

pub difference_none : (m : ℕ) → difference m m ≡ pos 0
unfolding difference
difference_none m = +ℤ_invr (pos m)

pub difference_bound : (m n most : ℕ) → m ≤ most → n ≤ most → nat_abs (difference m n) ≤ most
unfolding difference
difference_bound m zero most h k = none m h
  where
    none : (m : ℕ) → m ≤ most → m + 0 ≤ most
    none m h = omega arith
difference_bound m (suc n) most h k = go (ltb m (suc n))
  where
    go : (t : Bool) → nat_abs (cond t (negsuc (suc n - suc m)) (pos (m - suc n))) ≤ most
    go true = omega (arith, h, k)
    go false = omega (arith, h, k)

-- The points with one replaced: that point, and those of the others.
replaced_none : (n : ℕ) (p : List ℕ) (rows : List Row) → held n (trials rows) ≡ false → replaced n p rows ≡ points (trials rows)
unfolding replaced held trials points either pick
replaced_none n p [] h = refl
replaced_none n p (r ∷ rows) h = go (eqb r.trial.number n) h (replaced_none n p rows)
  where
    go : (t : Bool) → either t (held n (trials rows)) ≡ false → (held n (trials rows) ≡ false → replaced n p rows ≡ points (trials rows))
        → pick t p (point r.trial) ∷ replaced n p rows ≡ point r.trial ∷ points (trials rows)
    go true k later = absurd (let e : true ≡ false = k in true≢false e)
    go false k later = ap (λ l. point r.trial ∷ l) (later k)

pub replaced_cover : (n : ℕ) (p : List ℕ) (rows : List Row) → held n (trials rows) ≡ true → distinct (trials rows) ≡ true → SameCover (replaced n p rows) (p ∷ points (trials (others n rows)))
unfolding replaced held distinct trials points either pick cover SameCover
replaced_cover n p [] h d c = absurd (true≢false (sym h))
replaced_cover n p (r ∷ rows) h d c =
    go (eqb r.trial.number n) (equated r.trial.number n) (λ k. replaced_cover n p rows k (both_true _ _ d).1 c) h
  where
    go : (t : Bool) → Equated r.trial.number n t → (held n (trials rows) ≡ true → cover (replaced n p rows) c ≡ cover (p ∷ points (trials (others n rows))) c)
        → either t (held n (trials rows)) ≡ true → cover (pick t p (point r.trial) ∷ replaced n p rows) c ≡ cover (p ∷ points (trials (others n (r ∷ rows)))) c
    go true (same e) later k =
        let once : held r.trial.number (trials rows) ≡ false = not-true _ (both_true _ _ d).0 in
        let rest : others n (r ∷ rows) ≡ rows = others_here n r rows e ∙ others_none n rows (rw e at once) in
        rw (rest, replaced_none n p rows (rw e at once))
    go false (differs e) later k =
        rw (others_later n r rows e) (let more = later k in omega arith)

module _ (w : List ℕ) (n : ℕ) (t : Trial) (h : Replaceable w n) where
  by_gains : change_of (read w) n t ≡ difference (insert_gain (without (read w) n) t) (removal_loss (read w) n)
  unfolding change_of insert_gain without points
  by_gains =
      let apart = (known w h.passes).sound.apart in
      let after = total_with (reference_of (read w)) (held_points (without (read w) n)) (replaced n (point t) (read w).rows) (point t) (replaced_cover n (point t) (read w).rows h.known apart) in
      let before = total_removed (read w) n (split n (read w).rows h.known apart) in
      rw (after, before) (difference_more _ _ _)

  of_equal : point t ≡ point (row_of n (read w).rows).trial → change_of (read w) n t ≡ pos 0
  unfolding removal_loss insert_gain
  of_equal e = by_gains ∙ rw e (difference_none _)

of_any : (a : Archive) (n : ℕ) (t : Trial) → nat_abs (change_of a n t) ≤ box_of a
unfolding change_of
of_any a n t = difference_bound _ _ _ (total_le_box _ _) (total_le_box _ _)

-- A removal and an insertion that are done.
done_counts : (w : List ℕ) (n : ℕ) (t : Trial) → Replaceable w n
    → difference (total (reference_of (inserted (removed (read w) n) t)) (held_points (inserted (removed (read w) n) t))) (counted_total w) ≡ difference (insert_gain (without (read w) n) t) (removal_loss (read w) n)
unfolding inserted removed insert_gain without points
done_counts w n t able =
    let apart = (known w able.passes).sound.apart in
    let after = total_with (reference_of (read w)) (held_points (removed (read w) n)) (held_points (inserted (removed (read w) n) t)) (point t) (inserted_cover (removed (read w) n) t) in
    let before = total_removed (read w) n (split n (read w).rows able.known apart) in
    let same_points : held_points (removed (read w) n) ≡ held_points (without (read w) n) = ap points (removed_trials (read w) n) in
    ap₂ difference (after ∙ ap (λ ps. total (reference_of (read w)) ps + gain (reference_of (read w)) ps (point t)) same_points) before
    ∙ difference_more (total (reference_of (read w)) (held_points (without (read w) n))) (insert_gain (without (read w) n) t) (removal_loss (read w) n)

both_done : (w : List ℕ) (n : ℕ) (t : Trial) → t.number ≡ n → (remove w n).refusal ≡ 0 → (insert (remove w n).words t).refusal ≡ 0
    → change_of (read w) n t ≡ difference (counted_total (insert (remove w n).words t).words) (counted_total w)
both_done w n t e gone come =
    let out = remove_done w n gone in
    let left : read (remove w n).words ≡ removed (read w) n = done_reads _ _ _ _ _ _ _ out in
    let is = (remove_passed (read w) n out.rows).known in
    let able : Replaceable w n = record { passes = passes_again w 0 out.passed; known = is } in
    let now : read (insert (remove w n).words t).words ≡ inserted (removed (read w) n) t =
    done_reads _ _ _ _ _ _ _ (insert_done (remove w n).words t come) ∙ ap (λ a. inserted a t) left in
    by_gains w n t able ∙ sym (rw now (done_counts w n t able))

pub replacements : ReplacementLaws
replacements = record { gains = by_gains; equal = of_equal; within = of_any; made = both_done }
