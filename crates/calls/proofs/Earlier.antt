-- Archives kept from before W-209: the audit says no, and yes after an insertion or a removal.
use Prim.Native.Nat.{ℕ, ◌+◌, ◌*◌, ◌-◌, ◌≤◌}
use mathlib.Core.Path.{◌≡◌, refl, sym, ap, ◌∙◌}
use mathlib.Core.Bool.{Bool, true, false}
use mathlib.Core.List.Memᴰ
use mathlib.Core.List.{List, ◌∷◌, ◌++◌, Memᴰ, []}
use native.Mathlib.Omega.{arith}
use lib.Dec.{ltb}
use lib.ListN.{length}
use borrow.Author.Tests.{le-ltb}
use Rattle.slices.specs.Choices.{either}
use Rattle.hypervolume.specs.Cells.{holds}
use Rattle.hypervolume.specs.Front.{front, unbeaten}
use Rattle.hypervolume.proofs.Front.{front_laws}
use Rattle.words.specs.Archive.{Trial, Row, Archive, point, trials, points}
use Rattle.words.specs.Layout.{layout, read, word, behind}
use Rattle.words.specs.Format.{guard, archive_rows}
use Rattle.words.proofs.Reading.{read_layout}
use Rattle.words.proofs.Passed.{Sound, sound_passes}
use Rattle.calls.specs.Calls.{held_points, box_of, renewed, insert_gain, joint_with, lowered, inserted, falls_below, insert_overruns, admission_rows, insert_rows, without, removal_loss, raised, removed, audited, rule_allowed, reduce_rows}
use Rattle.calls.specs.Counted.{IsCounted}
use Rattle.calls.specs.Lent.{answer, insert, remove, reduce, audit}
use Rattle.calls.specs.Earlier.{KeptFromBefore, EarlierArchives}
use Rattle.calls.proofs.Members.{split}
use Rattle.calls.proofs.Known.{known, count_rows}
use Rattle.calls.proofs.Answers.{rows_passed}
use Rattle.calls.proofs.Counted.{inserted_counted, removed_counted, audited_counted, counted_audited}
use Rattle.calls.proofs.Sound.{insert_passed, inserted_sound, remove_passed, removed_sound}
use Rattle.calls.proofs.Lent.{insert_done, remove_done, leaves_refusal}

-- Where a trial is held the front is not 0.
front_held : (rows : List Row) → 1 ≤ length rows → 1 ≤ front (points (trials rows))
unfolding points trials
front_held [] l = absurd (let z : ⊥ = omega arith in z)
front_held (r ∷ rows) l =
    front_laws.some 3 (point r.trial) (points (trials rows)) (λ q m. three q (Memᴰ.of_map point (trials (r ∷ rows)) m))
  where
    three : (q : List ℕ) → (t : Trial) × Memᴰ t (trials (r ∷ rows)) × (point t ≡ q) → length q ≡ 3
    three q w = ap length (sym w.2)

-- Insertion and removal do not look at the front.
pub inserted_front : (a : Archive) (k : ℕ) (t : Trial) → inserted (record { shape = a.shape; sum = a.sum; front = k; rows = a.rows }) t ≡ inserted a t
unfolding inserted insert_gain lowered joint_with
inserted_front a k t = refl

falls_below_front : (a : Archive) (k : ℕ) (t : Trial) (rows : List Row) → falls_below (record { shape = a.shape; sum = a.sum; front = k; rows = a.rows }) t rows ≡ falls_below a t rows
unfolding falls_below joint_with
falls_below_front a k t [] = refl
falls_below_front a k t (r ∷ rows) = ap (either (ltb r.kept (joint_with a t r))) (falls_below_front a k t rows)

pub insert_rows_front : (a : Archive) (k : ℕ) (t : Trial) → insert_rows (record { shape = a.shape; sum = a.sum; front = k; rows = a.rows }) t ≡ insert_rows a t
unfolding insert_rows admission_rows insert_overruns insert_gain
insert_rows_front a k t =
    ap (λ b. admission_rows a t (guard (either (ltb (box_of a) (a.sum + insert_gain a t)) b) 13 0)) (falls_below_front a k t a.rows)

removed_front : (a : Archive) (n : ℕ) → removed (renewed a.shape a.sum a.rows) n ≡ removed a n
unfolding removed removal_loss insert_gain without raised joint_with
removed_front a n = refl

audit_is : (w : List ℕ) (b : Bool) → archive_rows w 0 ≡ 0 → audited (read w) ≡ b → audit w ≡ record { refusal = 0; value = holds b }
unfolding audit answer
audit_is w b p e = rw (p, e)

module _ (w : List ℕ) (h : KeptFromBefore w) where
  unaudited : 1 ≤ word w 0 → audited (read w) ≡ false
  unaudited l = go (audited (read w)) refl
    where
      no : IsCounted (read w) → ⊥
      no c =
          let zero : (read w).front ≡ 0 = unfold read in h.no_front in
          omega (arith, c.front, front_held (read w).rows (omega (arith, count_rows w)))

      go : (b : Bool) → audited (read w) ≡ b → b ≡ false
      go true e = absurd (no (audited_counted (read w) e))
      go false e = refl

  says_no : 1 ≤ word w 0 → audit w ≡ record { refusal = 0; value = 0 }
  unfolding holds
  says_no l = audit_is w false h.passes (unaudited l)

  turned_down : (k rule : ℕ) (log : List ℕ) → 1 ≤ word w 0 → rule_allowed rule ≡ true → k ≤ word w 0 → 2 * (word w 0 - k) ≤ length log → (reduce w k rule log).refusal ≡ 13
  unfolding reduce reduce_rows guard
  turned_down k rule log l e a b =
      leaves_refusal w log _ _ _ _ ∙ rows_passed w _ h.passes
      ∙ rw (e, count_rows w, le-ltb (word w 0) k a, le-ltb (length log) (2 * (word w 0 - k)) b, unaudited l)

  -- Words left by a call that is done.
  says_yes : (w' : List ℕ) (a : Archive) → w' ≡ layout a ++ behind w → Sound a → IsCounted a → audit w' ≡ record { refusal = 0; value = 1 }
  unfolding holds
  says_yes w' a e s c =
      audit_is w' true (rw e (sound_passes a (behind w) 0 s)) (ap audited (ap read e ∙ read_layout a (behind w)) ∙ counted_audited a c)

  after_insertion : (t : Trial) → (insert w t).refusal ≡ 0 → audit (insert w t).words ≡ record { refusal = 0; value = 1 }
  after_insertion t e =
      let done = insert_done w t e in
      says_yes (insert w t).words (inserted (read w) t) done.words
      (inserted_sound (read w) t (known w h.passes).sound (insert_passed (read w) t done.rows)) (rw (← inserted_front (read w) (front (held_points (read w))) t) (inserted_counted (renewed (read w).shape (read w).sum (read w).rows) t h.counted))

  after_removal : (n : ℕ) → (remove w n).refusal ≡ 0 → audit (remove w n).words ≡ record { refusal = 0; value = 1 }
  after_removal n e =
      let done = remove_done w n e in
      let sound = (known w h.passes).sound in
      let passed = remove_passed (read w) n done.rows in
      says_yes (remove w n).words (removed (read w) n) done.words
      (removed_sound (read w) n sound passed) (rw (← removed_front (read w) n) (removed_counted (renewed (read w).shape (read w).sum (read w).rows) n h.counted (split n (read w).rows passed.known sound.apart)))

  without_trials : word w 0 ≡ 0 → audit w ≡ record { refusal = 0; value = 1 }
  unfolding holds
  without_trials z = audit_is w true h.passes (counted_audited (read w) (record { sum = h.counted.sum; front = none; rows = h.counted.rows }))
    where
      empty : (rows : List Row) → length rows ≡ 0 → front (points (trials rows)) ≡ 0
      empty [] e = unfold points trials front unbeaten in refl
      empty (r ∷ rows) e = absurd (let n : ⊥ = omega arith in n)

      none : (read w).front ≡ front (held_points (read w))
      none = unfold read in (h.no_front ∙ sym (empty (read w).rows (count_rows w ∙ z)))

pub earlier : EarlierArchives
earlier =
    record {
      audit_no = says_no;
      reduce_13 = λ w k rule log h. turned_down w h k rule log;
      inserted_yes = λ w t h. after_insertion w h t;
      removed_yes = λ w n h. after_removal w h n;
      empty_yes = without_trials;
    }
