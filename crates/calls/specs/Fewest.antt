-- What a reduction by one loses (document 02, W-206): "under either rule, on an archive whose audit says yes: a reduction by one leaves
-- a total that dropping any other single trial could not exceed".
use Rattle.std.specs.Prelude.{ℕ, ◌-◌, ◌≤◌, ◌≡◌, true, List, length}
use Rattle.words.specs.Layout.{word, read}
use Rattle.words.specs.Format.{held}
use Rattle.calls.specs.Calls.{held_trials, rule_allowed}
use Rattle.calls.specs.Lent.{remove, reduce, audit}

-- Trial n dropped instead: that removal is done, and its total is at most that of the reduction.
pub record NoBetter (w : List ℕ) (rule : ℕ) (log : List ℕ) (n : ℕ) : Type 0 where
  pub removed : (remove w n).refusal ≡ 0
  pub at_most : (read (remove w n).words).sum ≤ (read (reduce w (word w 0 - 1) rule log).words).sum

pub record LosesLeast (w : List ℕ) (rule : ℕ) (log : List ℕ) : Type 0 where
  pub reduced : (reduce w (word w 0 - 1) rule log).refusal ≡ 0
  pub none_better : (n : ℕ) → held n (held_trials (read w)) ≡ true → NoBetter w rule log n

-- Where a trial is held, and the log has two words.
unfoldable pub OneDropLosesLeast : Type 0
OneDropLosesLeast =
    (w : List ℕ) (rule : ℕ) (log : List ℕ) → audit w ≡ record { refusal = 0; value = 1 } → rule_allowed rule ≡ true
    → 1 ≤ word w 0 → 2 ≤ length log → LosesLeast w rule log
