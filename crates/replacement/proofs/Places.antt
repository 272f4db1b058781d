-- What a replacement changes, by the place of the trial that is replaced.
use Prim.Native.Nat.{ℕ, zero, suc, ◌≤◌, ◌<◌}
use mathlib.Core.Path.{◌≡◌, sym, ap, ap₂, ◌∙◌}
use mathlib.Core.Bool.{true, false, not}
use mathlib.Core.List.{List}
use native.Mathlib.Nat.{le_trans}
use native.Mathlib.Omega.{arith}
use lib.ListN.{length, get_or}
use lib.IntN.{ℤ, pos}
use Rattle.hypervolume.specs.Counts.{gain}
use Rattle.hypervolume.proofs.Counting.{gain_le_box}
use Rattle.words.specs.Archive.{Trial, point, trials, points}
use Rattle.words.specs.Layout.{word, read}
use Rattle.words.specs.Format.{held, coordinates_allowed, archive_rows}
use Rattle.words.specs.Places.{row_at}
use Rattle.calls.specs.Calls.{held_trials, row_of, others, without, insert_gain, removal_loss, reference_of}
use Rattle.calls.specs.Replacement.{difference, change_of, replace_rows, change, replace_effect}
use Rattle.calls.proofs.Replacement.{replacements}
use Rattle.calls.proofs.Known.{known, count_rows}
use Rattle.calls.proofs.Answers.{guard_yes, guard_no, rows_refused, rows_passed}
use Rattle.records.specs.Columns.{leave_out}
use Rattle.records.proofs.LeaveOut.{row_of_at, others_at}
use Rattle.records.proofs.RowAt.{blank, row_there}
use Rattle.replacement.specs.Others.{gain_but}

-- A gain is at most the box.
pub gain_few : (w : List ℕ) (i : ℕ) (p : List ℕ) → archive_rows w 0 ≡ 0 → gain_but w i p ≤ 1152921504606846976
unfolding gain_but read
gain_few w i p h =
    le_trans (gain_le_box (reference_of (read w)) (points (trials (leave_out i (read w).rows))) p) (known w h).box_small

-- Of the trial at place i.
module _ (w : List ℕ) (i n : ℕ) (t : Trial) (p : archive_rows w 0 ≡ 0) (l : i < word w 0) (e : (row_at w i).trial.number ≡ n) (h : held n (held_trials (read w)) ≡ true) where
  at_place : get_or (read w).rows i blank ≡ row_at w i
  unfolding read
  at_place = row_there w (word w 0) i l

  inside : i < length (read w).rows
  inside = omega (arith, count_rows w, l)

  others_left : others n (read w).rows ≡ leave_out i (read w).rows
  others_left =
      ap (λ m. others m (read w).rows) (sym e ∙ ap (λ r. r.trial.number) (sym at_place))
      ∙ others_at (read w).rows i blank inside (known w p).sound.apart

  row_gone : row_of n (read w).rows ≡ row_at w i
  row_gone =
      ap (λ m. row_of m (read w).rows) (sym e ∙ ap (λ r. r.trial.number) (sym at_place))
      ∙ row_of_at (read w).rows i blank inside (known w p).sound.apart
      ∙ at_place

  gain_there : (u : Trial) → insert_gain (without (read w) n) u ≡ gain_but w i (point u)
  unfolding insert_gain without gain_but
  gain_there u = ap (λ rows. gain (reference_of (read w)) (points (trials rows)) (point u)) others_left

  pub change_there : change_of (read w) n t ≡ difference (gain_but w i (point t)) (gain_but w i (point (row_at w i).trial))
  unfolding removal_loss
  change_there =
      replacements.gains w n t (record { passes = p; known = h })
      ∙ ap₂ difference (gain_there t) (gain_there (row_of n (read w).rows).trial ∙ ap (λ r. gain_but w i (point r.trial)) row_gone)

-- The ways out.
change_refused : (k r : ℕ) (d : ℤ) → k ≡ r → (r ≡ 0 → ⊥) → record { refusal = r; difference = pos 0 } ≡ change k d
unfolding change
change_refused zero r d e f = absurd (f (sym e))
change_refused (suc k) r d e f = ap (λ m. record { refusal = m; difference = pos 0 }) (sym e)

change_done : (k : ℕ) (c d : ℤ) → k ≡ 0 → c ≡ d → record { refusal = 0; difference = c } ≡ change k d
unfolding change
change_done k c d e f = rw (e, f)

pub effect_turned : (w : List ℕ) (n : ℕ) (t : Trial) (r : ℕ) → r ≡ archive_rows w 0 → (r ≡ 0 → ⊥) → record { refusal = r; difference = pos 0 } ≡ replace_effect w n t
unfolding replace_effect
effect_turned w n t r e f = change_refused _ r _ (rows_refused w r _ e f) f

module _ (w : List ℕ) (n : ℕ) (t : Trial) (p : archive_rows w 0 ≡ 0) where
  pub effect_absent : held n (held_trials (read w)) ≡ false → record { refusal = 9; difference = pos 0 } ≡ replace_effect w n t
  unfolding replace_effect replace_rows
  effect_absent h = change_refused _ 9 _ (rows_passed w _ p ∙ guard_yes _ 9 _ (ap not h)) (λ z. omega arith)

  pub effect_beyond : held n (held_trials (read w)) ≡ true → coordinates_allowed t ≡ false → record { refusal = 6; difference = pos 0 } ≡ replace_effect w n t
  unfolding replace_effect replace_rows
  effect_beyond h a = change_refused _ 6 _ (rows_passed w _ p ∙ guard_no _ 9 _ (ap not h) ∙ guard_yes _ 6 0 (ap not a)) (λ z. omega arith)

  pub effect_done : (d : ℤ) → held n (held_trials (read w)) ≡ true → coordinates_allowed t ≡ true → d ≡ change_of (read w) n t → record { refusal = 0; difference = d } ≡ replace_effect w n t
  unfolding replace_effect replace_rows
  effect_done d h a e = change_done _ d _ (rows_passed w _ p ∙ guard_no _ 9 _ (ap not h) ∙ guard_no _ 6 0 (ap not a)) e
