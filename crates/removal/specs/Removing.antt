-- The steps of a removal: its counted amounts, and what storing it asks. Used by the contracts of the inner functions;
-- no exported contract cites it.
use Rattle.std.specs.Prelude.{ℕ, ◌-◌, ◌≤◌, ◌<◌, ◌≡◌, List, true, false, Result, MatchResult}
use Rattle.refusals.specs.declared.Refusal.{Refusal}
use Rattle.refusals.specs.declared.Refusal.TheVariants.{Miscount}
use Rattle.slices.specs.Spread.{Sparse}
use Rattle.slices.specs.Amounts.{Placed, amounts_at}
use Rattle.words.specs.Layout.{read, word}
use Rattle.words.specs.Format.{archive_rows}
use Rattle.words.specs.Places.{row_at}
use Rattle.records.specs.declared.amounts.Moved.{Moved}
use Rattle.calls.specs.Calls.{without, removal_loss, remove_overruns}
use Rattle.records.specs.Columns.{leave_out}
use Rattle.records.specs.Amounts.{shares}

-- The number of the record at a place.
abbrev pub number_at : List ℕ → ℕ → ℕ
number_at w k = (row_at w k).trial.number

-- The joint counts of the trial at a place with the others.
abbrev pub removal_shares : List ℕ → ℕ → List ℕ
removal_shares w k = shares (without (read w) (number_at w k)) (row_at w k).trial (leave_out k (read w).rows)

-- What storing a removal asks.
pub record RemoveReady (w : List ℕ) (k loss : ℕ) (places counts : List ℕ) : Type 0 where
  pub passes : archive_rows w 0 ≡ 0
  pub inside : k < word w 0
  pub lost : loss ≡ removal_loss (read w) (number_at w k)
  pub whole : loss ≤ word w 5
  pub placed : Placed (word w 0 - 1) places counts
  pub each : amounts_at (word w 0 - 1) places counts ≡ removal_shares w k

-- A removal's amounts, of the record at place k, which row 13 lets pass: the loss, and its joint counts with the others, said by the
-- places of those that need not be 0.
pub record RemoveMoves (w : List ℕ) (k : ℕ) (places counts : List ℕ) (m : Moved) : Type 0 where
  pub lost : m.amount ≡ removal_loss (read w) (number_at w k)
  pub judged : remove_overruns (read w) (number_at w k) ≡ false
  pub each : Sparse (word w 0 - 1) (removal_shares w k) places counts m.places

-- What judging a removal comes to: the amounts, or row 13.
abbrev pub RemoveJudged : List ℕ → ℕ → (places counts : List ℕ) → Result Moved Refusal → Type 0
RemoveJudged w k places counts r = MatchResult r (RemoveMoves w k places counts) (λ e. (e ≡ Miscount) × (remove_overruns (read w) (number_at w k) ≡ true))
