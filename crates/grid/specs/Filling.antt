-- What filling leaves before the front is counted. For the contracts of inner functions; no exported contract cites it.
use Rattle.std.specs.Prelude.{ℕ, ◌≡◌, List, ◌++◌}
use Rattle.words.specs.Archive.{Trial}
use Rattle.words.specs.Layout.{layout, read, behind}
use Rattle.calls.specs.declared.GridAnswer.{GridAnswer}
use Rattle.calls.specs.Grid.{filled}
use Rattle.records.specs.Fronts.{fronted}

-- The answer of the filling, and its archive with the front as it was.
pub record Fills (w : List ℕ) (ts : List Trial) (r : GridAnswer) (left : List ℕ) : Type 0 where
  pub answer : r ≡ record { refusal = 0; inserted = (filled (read w) ts).inserted; stop = (filled (read w) ts).stop }
  pub words : left ≡ layout (fronted (read w).front (filled (read w) ts).archive) ++ behind w
