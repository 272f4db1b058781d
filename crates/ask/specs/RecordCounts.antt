-- What counting the records of an archive leaves. Used by the contracts of the inner functions; no exported contract
-- cites it.
use Rattle.std.specs.Prelude.{ℕ, ◌≤◌, ◌≡◌, List, ◌++◌, length, drop}
use Rattle.slices.specs.Spread.{Sparse}
use Rattle.hypervolume.specs.Counts.{total, contributions, gain, joints}
use Rattle.corners.specs.declared.Updated.{Updated}
use Rattle.words.specs.Archive.{trials, points}
use Rattle.words.specs.Layout.{read}
use Rattle.calls.specs.Calls.{reference_of, held_points}
use Rattle.records.specs.Columns.{leave_out}

-- What counting leaves: the total, and each record's contribution in front of what the slice held.
pub record CountedAll (w before after : List ℕ) (answer : ℕ) : Type 0 where
  pub whole : answer ≡ total (reference_of (read w)) (held_points (read w))
  pub each : after ≡ contributions (reference_of (read w)) (held_points (read w)) ++ drop (length (read w).rows) before

-- The arrays to count in have room for any archive.
pub record Room (points corners : List (List ℕ)) (places line counts : List ℕ) : Type 0 where
  pub points_long : 512 ≤ length points
  pub corners_long : 512 ≤ length corners
  pub places_long : 512 ≤ length places
  pub line_long : 512 ≤ length line
  pub counts_long : 512 ≤ length counts

-- The same for a point p and the records but the one at place k: its gain, and its joint count with each, said by the
-- places of those that need not be 0.
pub record CountedJoints (w : List ℕ) (k : ℕ) (p places counts : List ℕ) (r : Updated) : Type 0 where
  pub whole : r.gain ≡ gain (reference_of (read w)) (points (trials (leave_out k (read w).rows))) p
  pub each :
      Sparse (length (leave_out k (read w).rows)) (joints (reference_of (read w)) (points (trials (leave_out k (read w).rows))) p) places counts r.moved
