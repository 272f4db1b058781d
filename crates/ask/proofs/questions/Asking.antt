-- Least, share, joint and gain: what their rows and values come to.
use Prim.Native.Nat.{ℕ, suc, ◌*◌, ◌≤◌}
use mathlib.Core.Path.{◌≡◌, refl, sym, ap, ◌∙◌}
use mathlib.Core.Bool.{true, false, not}
use mathlib.Core.List.{List}
use native.Mathlib.Omega.{arith}
use lib.Dec.{eqb}
use borrow.Author.Tests.{eq-eqb, ne_eqb}
use lib.ListN.{length}
use Rattle.slices.specs.Choices.{both}
use Rattle.rounding.specs.Nearest.{nearest}
use Rattle.words.specs.Archive.{Trial, Row, Archive}
use Rattle.words.specs.Layout.{read, word}
use Rattle.words.specs.Format.{guard, archive_rows, coordinates_allowed, held}
use Rattle.words.specs.Places.{rows_before}
use Rattle.calls.specs.Calls.{held_trials, box_of, rule_allowed, least_row, least_rows, joint_rows, gain_rows, share_of}
use Rattle.calls.specs.Lent.{answer, least, share}
use Rattle.calls.proofs.Answers.{guard_yes, guard_no, rows_refused, rows_passed, answer_refused, answer_done, least_refused, least_done}
use Rattle.calls.proofs.Known.{known, Known, count_rows, box_filled}

-- Rows 1 to 3 refuse.
pub answer_turned : (w : List ℕ) (r rest v : ℕ) → r ≡ archive_rows w 0 → (r ≡ 0 → ⊥)
    → record { refusal = r; value = 0 } ≡ answer (archive_rows w rest) v
answer_turned w r rest v e n = answer_refused _ r v (rows_refused w r rest e n) n

pub least_turned : (w : List ℕ) (rule r : ℕ) → r ≡ archive_rows w 0 → (r ≡ 0 → ⊥) → record { refusal = r; number = 0; contribution = 0 } ≡ least w rule
unfolding least
least_turned w rule r e n = least_refused _ r _ (rows_refused w r _ e n) n

-- A row of the call's own turns it down; or none does.
pub answer_row : (w : List ℕ) (r rest v : ℕ) → archive_rows w 0 ≡ 0 → rest ≡ suc r
    → record { refusal = suc r; value = 0 } ≡ answer (archive_rows w rest) v
answer_row w r rest v p e = answer_refused _ (suc r) v (rows_passed w rest p ∙ e) (λ z. omega arith)

pub answer_value : (w : List ℕ) (rest u v : ℕ) → archive_rows w 0 ≡ 0 → rest ≡ 0 → u ≡ v
    → record { refusal = 0; value = u } ≡ answer (archive_rows w rest) v
answer_value w rest u v p e f = answer_done _ v u (rows_passed w rest p ∙ e) f

-- Least.
module _ (w : List ℕ) (rule : ℕ) (p : archive_rows w 0 ≡ 0) where
  pub least_unruled : rule_allowed rule ≡ false → record { refusal = 18; number = 0; contribution = 0 } ≡ least w rule
  unfolding least least_rows
  least_unruled r =
      let row : archive_rows w (least_rows (read w) rule) ≡ 18 = rows_passed w _ p ∙ guard_yes (not (rule_allowed rule)) 18 _ (ap not r) in
      least_refused _ 18 _ row (λ z. omega arith)

  pub least_none_held : rule_allowed rule ≡ true → word w 0 ≡ 0 → record { refusal = 14; number = 0; contribution = 0 } ≡ least w rule
  unfolding least least_rows
  least_none_held r e =
      let row : archive_rows w (least_rows (read w) rule) ≡ 14 =
      rows_passed w _ p ∙ guard_no (not (rule_allowed rule)) 18 _ (ap not r) ∙ guard_yes (eqb (length (read w).rows) 0) 14 0 (eq-eqb _ _ (count_rows w ∙ e)) in
      least_refused _ 14 _ row (λ z. omega arith)

  pub least_found : (found : Row) → rule_allowed rule ≡ true → (word w 0 ≡ 0 → ⊥) → found ≡ least_row rule (rows_before w (word w 0))
      → record { refusal = 0; number = found.trial.number; contribution = found.kept } ≡ least w rule
  unfolding least least_rows read
  least_found found r n e =
      let row : archive_rows w (least_rows (read w) rule) ≡ 0 =
      rows_passed w _ p ∙ guard_no (not (rule_allowed rule)) 18 _ (ap not r) ∙ guard_no (eqb (length (read w).rows) 0) 14 0 (ne_eqb _ _ (λ z. n (sym (count_rows w) ∙ z))) in
      least_done _ (least_row rule (read w).rows) found row e

-- Share. The box has a cell, and the kept total is at most the box.
pub share_asks : (w : List ℕ) (cells : ℕ) → archive_rows w 0 ≡ 0 → cells ≡ box_of (read w)
    → (1 ≤ cells) × (word w 5 ≤ cells) × (cells ≤ 1152921504606846976)
unfolding read
share_asks w cells p e =
    let k : Known w = known w p in
    omega (arith, k, e, box_filled w p)

pub share_value : (w : List ℕ) (cells r : ℕ) → archive_rows w 0 ≡ 0 → cells ≡ box_of (read w)
    → r ≡ nearest (word w 5 * 1000000) cells → record { refusal = 0; value = r } ≡ share w
unfolding share share_of read
share_value w cells r p e f = answer_value w 0 r _ p refl (f ∙ ap (λ k. nearest (word w 5 * 1000000) k) e)

-- The rows of joint.
module _ (a : Archive) (m n : ℕ) where
  pub joint_first_absent : held m (held_trials a) ≡ false → joint_rows a m n ≡ 9
  unfolding joint_rows both
  joint_first_absent e = guard_yes _ 9 _ (rw e)

  pub joint_second_absent : held m (held_trials a) ≡ true → held n (held_trials a) ≡ false → joint_rows a m n ≡ 9
  unfolding joint_rows both
  joint_second_absent e f = guard_yes _ 9 _ (rw (e, f))

  behind_9 : held m (held_trials a) ≡ true → held n (held_trials a) ≡ true → joint_rows a m n ≡ guard (eqb m n) 10 0
  unfolding joint_rows both
  behind_9 e f = guard_no _ 9 _ (rw (e, f))

  pub joint_same_number : held m (held_trials a) ≡ true → held n (held_trials a) ≡ true → m ≡ n → joint_rows a m n ≡ 10
  joint_same_number e f g = behind_9 e f ∙ guard_yes _ 10 0 (eq-eqb m n g)

  pub joint_passes : held m (held_trials a) ≡ true → held n (held_trials a) ≡ true → (m ≡ n → ⊥) → joint_rows a m n ≡ 0
  joint_passes e f g = behind_9 e f ∙ guard_no _ 10 0 (ne_eqb m n g)

-- The row of gain.
pub gain_refused : (t : Trial) → coordinates_allowed t ≡ false → gain_rows t ≡ 6
unfolding gain_rows
gain_refused t e = guard_yes _ 6 0 (ap not e)

pub gain_passes : (t : Trial) → coordinates_allowed t ≡ true → gain_rows t ≡ 0
unfolding gain_rows
gain_passes t e = guard_no _ 6 0 (ap not e)
