-- What a point gains over the records but the one at place i.
use Rattle.std.specs.Prelude.{ℕ, List}
use Rattle.hypervolume.specs.Counts.{gain}
use Rattle.words.specs.Archive.{trials, points}
use Rattle.words.specs.Layout.{read}
use Rattle.calls.specs.Calls.{reference_of}
use Rattle.records.specs.Columns.{leave_out}

unfoldable pub gain_but : List ℕ → ℕ → List ℕ → ℕ
gain_but w i p = gain (reference_of (read w)) (points (trials (leave_out i (read w).rows))) p
