-- A reduction by one loses the least contribution, which is what any other trial's removal loses at least.
use Prim.Native.Nat.{ℕ, zero, suc, ◌+◌, ◌-◌, ◌*◌, ◌≤◌, ◌<◌}
use mathlib.Core.Path.{◌≡◌, refl, ap, ◌∙◌}
use mathlib.Core.Bool.{Bool, true, false}
use mathlib.Core.List.{List, []}
use native.Mathlib.Omega.{arith}
use lib.ListN.{length}
use borrow.Author.Tests.{le-ltb}
use Rattle.hypervolume.specs.Cells.{holds}
use Rattle.words.specs.Layout.{word, read}
use Rattle.words.specs.Format.{guard, held, archive_rows}
use Rattle.calls.specs.Calls.{held_trials, row_of, removal_loss, removed, remove_overruns, remove_rows, rule_allowed, audited, least_row, dropped, after_drops, reduce_rows}
use Rattle.calls.specs.Counted.{IsCounted}
use Rattle.calls.specs.declared.Answer.{Answer}
use Rattle.calls.specs.Lent.{answer, remove, reduce, audit}
use Rattle.calls.specs.Fewest.{NoBetter, OneDropLosesLeast}
use Rattle.calls.proofs.Members.{split}
use Rattle.calls.proofs.Counted.{audited_counted, loss_kept, remove_fits}
use Rattle.calls.proofs.Known.{count_rows, known}
use Rattle.calls.proofs.Answers.{rows_passed}
use Rattle.calls.proofs.Lent.{remove_done, reduce_done, done_reads, leaves_refusal}
use Rattle.calls.proofs.Drops.{drop_keeps, least_held}

-- What an audit's yes tells.
pub record SaysYes (w : List ℕ) : Type 0 where
  pub passes : archive_rows w 0 ≡ 0
  pub yes : audited (read w) ≡ true

pub says_yes : (w : List ℕ) → audit w ≡ record { refusal = 0; value = 1 } → SaysYes w
unfolding audit answer holds
says_yes w e = go (archive_rows w 0) (audited (read w)) refl refl e
  where
    go : (r : ℕ) (b : Bool) → archive_rows w 0 ≡ r → audited (read w) ≡ b → answer r (holds b) ≡ record { refusal = 0; value = 1 } → SaysYes w
    go zero true p q f = record { passes = p; yes = q }
    go zero false p q f = absurd (let n : ◌≡◌ {A = ℕ} 0 1 = ap (λ (a : Answer). a.value) f in let no' : ⊥ = omega arith in no')
    go (suc r) b p q f = absurd (let n : suc r ≡ 0 = ap (λ (a : Answer). a.refusal) f in let no' : ⊥ = omega arith in no')

module _ (w : List ℕ) (rule : ℕ) (log : List ℕ) (yes : SaysYes w) (ruled : rule_allowed rule ≡ true) (some : 1 ≤ word w 0) (room : 2 ≤ length log) where
  counted : IsCounted (read w)
  counted = audited_counted (read w) yes.yes

  rows_some : 0 < length (read w).rows
  rows_some = omega (arith, count_rows w, some)

  is_reduced : (reduce w (word w 0 - 1) rule log).refusal ≡ 0
  unfolding reduce reduce_rows guard
  is_reduced =
      leaves_refusal w log _ _ _ _ ∙ rows_passed w _ yes.passes
      ∙ rw (ruled, count_rows w, le-ltb (word w 0) (word w 0 - 1) (omega arith), le-ltb (length log) (2 * (word w 0 - (word w 0 - 1))) (omega (arith, some, room)), yes.yes)

  left_reads : read (reduce w (word w 0 - 1) rule log).words ≡ dropped rule (read w)
  unfolding after_drops
  left_reads =
      done_reads _ _ _ _ _ _ _ (reduce_done w (word w 0 - 1) rule log is_reduced)
      ∙ ap (λ n. after_drops rule n (read w)) (let e : length (read w).rows - (word w 0 - 1) ≡ 1 = omega (arith, count_rows w, some) in e)

  none_better : (n : ℕ) → held n (held_trials (read w)) ≡ true → NoBetter w rule log n
  none_better n h =
      let sound = (known w yes.passes).sound in
      let parts = split n (read w).rows h sound.apart in
      let done : (remove w n).refusal ≡ 0 = removal_done (remove_fits (read w) n counted parts) in
      let kept : (row_of n (read w).rows).kept ≡ removal_loss (read w) n = loss_kept (read w) n counted parts in
      let less : (least_row rule (read w).rows).kept ≤ (row_of n (read w).rows).kept = (least_held rule (read w) counted rows_some).least (row_of n (read w).rows) parts.member in
      let falls : (read w).sum ≡ (dropped rule (read w)).sum + (least_row rule (read w).rows).kept = (drop_keeps rule (read w) sound counted rows_some).sum in
      let after : (removed (read w) n).sum ≡ (read w).sum - removal_loss (read w) n = unfold removed in refl in
      record {
        removed = done;
        at_most = rw (left_reads, done_reads _ _ _ _ _ _ _ (remove_done w n done)) (omega (arith, kept, less, falls, after));
      }
    where
      removal_done : remove_overruns (read w) n ≡ false → (remove w n).refusal ≡ 0
      removal_done f = unfold remove remove_rows guard in (leaves_refusal w [] _ _ _ _ ∙ rows_passed w _ yes.passes ∙ rw (h, f))

pub one_drop_loses_least : OneDropLosesLeast
unfolding OneDropLosesLeast
one_drop_loses_least w rule log e ruled some room =
    let yes = says_yes w e in
    record { reduced = is_reduced w rule log yes ruled some room; none_better = none_better w rule log yes ruled some room }
