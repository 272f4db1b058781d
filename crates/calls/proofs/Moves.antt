-- What an insertion or a removal that is done does to every other record, on any sound archive: the record's trial
-- stays, and its contribution moves by just the joint count of the two.
use Prim.Native.Nat.{ℕ, ◌+◌}
use mathlib.Core.Path.{◌≡◌, refl, sym, ◌∙◌}
use mathlib.Core.Bool.{true}
use mathlib.Core.List.Memᴰ
use mathlib.Core.List.{Memᴰ}
use native.Mathlib.Omega.{arith}
use Rattle.slices.proofs.Choices.{either_false}
use Rattle.hypervolume.proofs.Counting.{joint_same}
use Rattle.words.specs.Archive.{Trial, Row, Archive, point, trials, points}
use Rattle.words.specs.Format.{held}
use Rattle.words.proofs.Passed.{Sound}
use Rattle.calls.specs.Calls.{held_trials, reference_of, insert_gain, joint_with, lowered, inserted, insert_overruns, row_of, without, raised, removed, joint_of}
use Rattle.calls.proofs.Members.{member_place, member_others, Split, split}
use Rattle.calls.proofs.Order.{held_of}
use Rattle.calls.proofs.Counted.{inserted_cover}
use Rattle.calls.proofs.Sound.{InsertPassed, RemovePassed, kept_covers, inserted_sound, removed_sound}
use Rattle.calls.proofs.Ranking.{row_of_member}

-- The record of a number, where its record is known to be there.
row_is : (a : Archive) → Sound a → (r : Row) → Memᴰ r a.rows → (n : ℕ) → r.trial.number ≡ n → row_of n a.rows ≡ r
row_is a s r m n e = rw (← e) (row_of_member a.rows s.apart r m)

-- A number is held where its record is.
row_held : (a : Archive) (r : Row) → Memᴰ r a.rows → (n : ℕ) → r.trial.number ≡ n → held n (held_trials a) ≡ true
unfolding trials
row_held a r m n e = rw (← e) (held_of r.trial (held_trials a) (Memᴰ.map (λ q. q.trial) m))

module _ (a : Archive) (t : Trial) (s : Sound a) (p : InsertPassed a t) where
  new_member : Memᴰ (record { trial = t; kept = insert_gain a t }) (inserted a t).rows
  unfolding inserted
  new_member = member_place (λ r. r.trial) _ _ _ (Memᴰ.head refl)

  pub new_held : held t.number (held_trials (inserted a t)) ≡ true
  new_held = row_held (inserted a t) _ new_member t.number refl

  pub row_inserted : row_of t.number (inserted a t).rows ≡ record { trial = t; kept = insert_gain a t }
  row_inserted = row_is (inserted a t) (inserted_sound a t s p) _ new_member t.number refl

  lowered_member : (n : ℕ) → Split n a.rows → Memᴰ (lowered a t (row_of n a.rows)) (inserted a t).rows
  unfolding inserted
  lowered_member n found =
      member_place (λ r. r.trial) _ _ _ (Memᴰ.tail (Memᴰ.map (lowered a t) found.member))

  pub still_held : (n : ℕ) → held n (held_trials a) ≡ true → held n (held_trials (inserted a t)) ≡ true
  unfolding lowered
  still_held n h =
      let found = split n a.rows h s.apart in
      row_held (inserted a t) _ (lowered_member n found) n found.number

  pub row_lowered : (n : ℕ) → held n (held_trials a) ≡ true → row_of n (inserted a t).rows ≡ lowered a t (row_of n a.rows)
  unfolding lowered
  row_lowered n h =
      let found = split n a.rows h s.apart in
      row_is (inserted a t) (inserted_sound a t s p) _ (lowered_member n found) n found.number

  -- the joint count just after the insertion, as the joint call counts it
  pub joint_after : (n : ℕ) → held n (held_trials a) ≡ true → joint_of (inserted a t) t.number n ≡ joint_with a t (row_of n a.rows)
  unfolding joint_of joint_with lowered points
  joint_after n h =
      rw (row_inserted, row_lowered n h)
      (unfold inserted in joint_same (reference_of a) _ _ (point t) _ (inserted_cover a t))

  pub kept_lowered : (n : ℕ) → held n (held_trials a) ≡ true
      → (row_of n a.rows).kept ≡ (row_of n (inserted a t).rows).kept + joint_of (inserted a t) t.number n
  unfolding insert_overruns
  kept_lowered n h =
      let found = split n a.rows h s.apart in
      let enough = kept_covers a t a.rows (either_false _ _ p.fits).1 (row_of n a.rows) found.member in
      rw (row_lowered n h, joint_after n h) (unfold lowered in omega arith)

module _ (a : Archive) (n : ℕ) (s : Sound a) (p : RemovePassed a n) where
  raised_member : (m : ℕ) → Split m a.rows → (m ≡ n → ⊥)
      → Memᴰ (raised (without a n) (row_of n a.rows).trial (row_of m a.rows)) (removed a n).rows
  unfolding removed
  raised_member m found d =
      Memᴰ.map _ (member_others n a.rows (row_of m a.rows) (λ e. d (sym found.number ∙ e)) found.member)

  pub left_held : (m : ℕ) → held m (held_trials a) ≡ true → (m ≡ n → ⊥) → held m (held_trials (removed a n)) ≡ true
  unfolding raised
  left_held m h d =
      let found = split m a.rows h s.apart in
      row_held (removed a n) _ (raised_member m found d) m found.number

  pub row_raised : (m : ℕ) → held m (held_trials a) ≡ true → (m ≡ n → ⊥)
      → row_of m (removed a n).rows ≡ raised (without a n) (row_of n a.rows).trial (row_of m a.rows)
  unfolding raised
  row_raised m h d =
      let found = split m a.rows h s.apart in
      row_is (removed a n) (removed_sound a n s p) _ (raised_member m found d) m found.number

  -- the joint count just before the removal, as the joint call counts it
  pub joint_before : (m : ℕ) → joint_of a n m ≡ joint_with (without a n) (row_of n a.rows).trial (row_of m a.rows)
  unfolding joint_of joint_with points without
  joint_before m =
      joint_same (reference_of a) _ _ (point (row_of n a.rows).trial) (point (row_of m a.rows).trial)
      (split n a.rows p.known s.apart).covers

  pub kept_raised : (m : ℕ) → held m (held_trials a) ≡ true → (m ≡ n → ⊥)
      → (row_of m (removed a n).rows).kept ≡ (row_of m a.rows).kept + joint_of a n m
  unfolding raised
  kept_raised m h d = rw (row_raised m h d, joint_before m)
