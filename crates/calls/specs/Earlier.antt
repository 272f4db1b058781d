-- Archives kept from before document 02, W-209: "An archive with trials kept from before has 0 in word 6, so its audit says no
-- until an insertion or removal is done."
use Rattle.std.specs.Prelude.{ℕ, ◌*◌, ◌-◌, ◌≤◌, ◌≡◌, true, List, length}
use Rattle.words.specs.Archive.{Trial}
use Rattle.words.specs.Layout.{read, word}
use Rattle.words.specs.Format.{archive_rows}
use Rattle.calls.specs.Calls.{renewed, rule_allowed}
use Rattle.calls.specs.Counted.{IsCounted}
use Rattle.calls.specs.Lent.{insert, remove, reduce, audit}

-- Words with word 6 zero and all else counted, that rows 1 to 3 let pass: with the front counted anew all is counted.
pub record KeptFromBefore (w : List ℕ) : Type 0 where
  pub passes : archive_rows w 0 ≡ 0
  pub no_front : word w 6 ≡ 0
  pub counted : IsCounted (renewed (read w).shape (read w).sum (read w).rows)

pub record EarlierArchives : Type 0 where
  -- With a trial: the audit says no, and a reduction is turned down by row 13, also one that would drop nothing.
  pub audit_no : (w : List ℕ) → KeptFromBefore w → 1 ≤ word w 0 → audit w ≡ record { refusal = 0; value = 0 }
  pub reduce_13 : (w : List ℕ) (k rule : ℕ) (log : List ℕ) → KeptFromBefore w → 1 ≤ word w 0 → rule_allowed rule ≡ true → k ≤ word w 0 → 2 * (word w 0 - k) ≤ length log → (reduce w k rule log).refusal ≡ 13
  -- After any insertion or removal that is done it says yes.
  pub inserted_yes : (w : List ℕ) (t : Trial) → KeptFromBefore w → (insert w t).refusal ≡ 0 → audit (insert w t).words ≡ record { refusal = 0; value = 1 }
  pub removed_yes : (w : List ℕ) (n : ℕ) → KeptFromBefore w → (remove w n).refusal ≡ 0 → audit (remove w n).words ≡ record { refusal = 0; value = 1 }
  -- One without a trial is right as it is.
  pub empty_yes : (w : List ℕ) → KeptFromBefore w → word w 0 ≡ 0 → audit w ≡ record { refusal = 0; value = 1 }
