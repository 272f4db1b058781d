-- What loading the records' points leaves. Used by the contracts of the inner functions; no exported contract cites it.
use Rattle.std.specs.Prelude.{ℕ, ◌+◌, ◌≤◌, ◌≡◌, List, ◌++◌, length, take, drop}
use Rattle.words.specs.Archive.{trials, points}
use Rattle.words.specs.Layout.{word}
use Rattle.words.specs.Places.{rows_before}
use Rattle.records.specs.Columns.{leave_out}

-- The points of n records from place `first` on, written at `at` and behind it; what stands before is kept.
pub record PointsGathered (w : List ℕ) (first n at : ℕ) (before after : List (List ℕ)) : Type 0 where
  pub long : length after ≡ length before
  pub front : take (at + n) after ≡ take at before ++ points (trials (take n (drop first (rows_before w (word w 0)))))

-- The points of the records but the one at place k: the first m of the list.
pub record PointsLoaded (w : List ℕ) (k m : ℕ) (before after : List (List ℕ)) : Type 0 where
  pub many : m ≡ length (leave_out k (rows_before w (word w 0)))
  pub few : m ≤ 512
  pub held : take m after ≡ points (trials (leave_out k (rows_before w (word w 0))))
  pub long : length after ≡ length before
