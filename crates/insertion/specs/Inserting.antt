-- The steps of an insertion: its counted amounts, what storing it asks, and what it leaves before its front is counted. Used by
-- the contracts of the inner functions; no exported contract cites it.
use Rattle.std.specs.Prelude.{ℕ, ◌+◌, ◌≤◌, ◌<◌, false, ◌≡◌, List, ◌++◌, ltb, take, true, Result, MatchResult}
use Rattle.refusals.specs.declared.Refusal.{Refusal}
use Rattle.refusals.specs.declared.Refusal.TheVariants.{Miscount}
use Rattle.slices.specs.Amounts.{some_pair, Placed, amounts_at}
use Rattle.words.specs.Archive.{Trial}
use Rattle.words.specs.Layout.{layout, read, word, behind}
use Rattle.words.specs.Format.{archive_rows}
use Rattle.words.specs.Places.{rows_before}
use Rattle.records.specs.declared.amounts.Moved.{Moved}
use Rattle.calls.specs.Calls.{box_of, insert_gain, insert_overruns, insert_rows, inserted}
use Rattle.records.specs.Columns.{column}
use Rattle.records.specs.Fronts.{fronted}
use Rattle.records.specs.Amounts.{shares}

-- The joint counts of a new trial with the records, said by the places of those that need not be 0.
pub record InsertShares (w : List ℕ) (t : Trial) (places counts : List ℕ) : Type 0 where
  pub placed : Placed (word w 0) places counts
  pub shared : amounts_at (word w 0) places counts ≡ shares (read w) t (read w).rows

-- What storing an insertion asks.
pub record InsertReady (w : List ℕ) (t : Trial) (gain : ℕ) (places counts : List ℕ) : Type 0 where
  pub passes : archive_rows w 0 ≡ 0
  pub free : word w 0 < word w 1
  pub gained : gain ≡ insert_gain (read w) t
  pub whole : word w 5 + gain ≤ box_of (read w)
  pub lowers : InsertShares w t places counts
  pub enough : some_pair (λ v m. ltb v m) (column 4 (rows_before w (word w 0))) (amounts_at (word w 0) places counts) ≡ false

-- The words with the trial entered, and the front as it was.
abbrev pub entered : List ℕ → Trial → List ℕ
entered w t = layout (fronted (read w).front (inserted (read w) t)) ++ behind w

-- What entering a trial comes to, on words that rows 1 to 3 let pass: the rows of insert, and the words with it.
pub record Enters (w : List ℕ) (t : Trial) (r : ℕ) (left : List ℕ) : Type 0 where
  pub judged : r ≡ insert_rows (read w) t
  pub done : r ≡ 0 → left ≡ entered w t
  pub refused : (r ≡ 0 → ⊥) → left ≡ w

-- An insertion's amounts, which row 13 lets pass: the gain, and the joint counts.
pub record InsertMoves (w : List ℕ) (t : Trial) (places counts : List ℕ) (m : Moved) : Type 0 where
  pub gained : m.amount ≡ insert_gain (read w) t
  pub judged : insert_overruns (read w) t ≡ false
  pub few : m.places ≤ 512
  pub lowers : InsertShares w t (take m.places places) (take m.places counts)

-- What judging an insertion comes to: the amounts, or row 13.
abbrev pub InsertJudged : List ℕ → Trial → (places counts : List ℕ) → Result Moved Refusal → Type 0
InsertJudged w t places counts r = MatchResult r (InsertMoves w t places counts) (λ e. (e ≡ Miscount) × (insert_overruns (read w) t ≡ true))
