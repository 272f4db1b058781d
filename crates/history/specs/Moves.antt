-- What one call that is done moves, on any archive (document 00, term 3, its last two sentences). Words before and
-- after the call are those of the definitions that the contracts cite (Rattle.calls.specs.Lent), read as archives;
-- "contributions and totals before and after a call are the kept ones" (document 01).
use Rattle.std.specs.Prelude.{ℕ, ◌+◌, ◌*◌, ◌≡◌, true, List, length, take}
use Rattle.words.specs.Archive.{Trial, Row}
use Rattle.words.specs.Layout.{read}
use Rattle.words.specs.Format.{held}
use Rattle.calls.specs.Calls.{held_trials, row_of}
use Rattle.calls.specs.Drops.{Drops, noted_sum}
use Rattle.calls.specs.Lent.{insert, remove, reduce, joint}

-- These words hold a trial of this number; its record there.
abbrev pub Held : List ℕ → ℕ → Type 0
Held w n = held n (held_trials (read w)) ≡ true

abbrev pub record_of : List ℕ → ℕ → Row
record_of w n = row_of n (read w).rows

-- The trial n while t is inserted. The joint call is asked on the words just after.
pub record Lowered (w : List ℕ) (t : Trial) (n : ℕ) : Type 0 where
  pub still_held : Held (insert w t).words n
  pub same_trial : (record_of (insert w t).words n).trial ≡ (record_of w n).trial
  pub joint_done : (joint (insert w t).words t.number n).refusal ≡ 0
  pub lowered : (record_of w n).kept ≡ (record_of (insert w t).words n).kept + (joint (insert w t).words t.number n).value

-- "Each insertion done lowers, and each removal done raises, every other trial's contribution by exactly their joint
-- count, taken just after that insertion or just before that removal." The insertion:
unfoldable pub InsertionLowers : Type 0
InsertionLowers = (w : List ℕ) (t : Trial) → (insert w t).refusal ≡ 0 → (n : ℕ) → Held w n → Lowered w t n

-- The trial m while n is removed. The joint call is asked on the words just before.
pub record Raised (w : List ℕ) (n m : ℕ) : Type 0 where
  pub still_held : Held (remove w n).words m
  pub same_trial : (record_of (remove w n).words m).trial ≡ (record_of w m).trial
  pub joint_done : (joint w n m).refusal ≡ 0
  pub raised : (record_of (remove w n).words m).kept ≡ (record_of w m).kept + (joint w n m).value

-- and the removal:
unfoldable pub RemovalRaises : Type 0
RemovalRaises =
    (w : List ℕ) (n : ℕ) → (remove w n).refusal ≡ 0 → (m : ℕ) → Held w m → (m ≡ n → ⊥) → Raised w n m

-- What a reduction wrote into the log: a number and a contribution for each drop.
abbrev pub logged : List ℕ → (k rule : ℕ) → List ℕ → List ℕ
logged w k rule log = take (2 * (reduce w k rule log).value) (reduce w k rule log).log

pub record Reduced (w : List ℕ) (k rule : ℕ) (log : List ℕ) : Type 0 where
  pub drops : Drops rule (read w) (logged w k rule log) (read (reduce w k rule log).words)
  pub left : length (read (reduce w k rule log).words).rows ≡ k
  pub adds_up : (read w).sum ≡ (read (reduce w k rule log).words).sum + noted_sum (logged w k rule log)

-- "Each drop of a reduction takes a least contributor among the trials then held, and the contributions that a
-- reduction logs add up to the total before it less the total after it."
unfoldable pub ReductionDrops : Type 0
ReductionDrops = (w : List ℕ) (k rule : ℕ) (log : List ℕ) → (reduce w k rule log).refusal ≡ 0 → Reduced w k rule log
