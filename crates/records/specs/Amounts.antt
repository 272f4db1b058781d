-- The counted amounts by which contributions move. Used by the contracts of the inner functions; no exported contract
-- cites it.
use Rattle.std.specs.Prelude.{ℕ, List, map}
use Rattle.words.specs.Archive.{Trial, Row, Archive}
use Rattle.calls.specs.Calls.{joint_with}

-- The joint counts of a trial with these records.
unfoldable pub shares : Archive → Trial → List Row → List ℕ
shares a t rows = map (joint_with a t) rows
