-- What it means that total, front and contributions are counts (document 01, "Points and cells"; the audit's yes), and the
-- archive that holds given trials with all of these counted on them alone (document 01, "The trial book").
use Rattle.std.specs.Prelude.{◌≡◌}
use mathlib.Core.List.{List, map, Memᴰ}
use Rattle.hypervolume.specs.Counts.{total, contribution}
use Rattle.hypervolume.specs.Front
use Rattle.words.specs.Archive.{Trial, Row, Shape, Archive, point, reference, points}
use Rattle.calls.specs.Calls.{reference_of, held_points}

-- "The total and all contributions equal their counts", and so does the front. The audit answers yes just then
-- (proofs/Counted).
pub record IsCounted (a : Archive) : Type 0 where
  pub sum : a.sum ≡ total (reference_of a) (held_points a)
  pub front : a.front ≡ Front.front (held_points a)
  pub rows :
      (r : Row) → Memᴰ r a.rows → r.kept ≡ contribution (reference_of a) (held_points a) (point r.trial)

-- A trial with its contribution, counted among these trials.
unfoldable pub counted_row : Shape → List Trial → Trial → Row
counted_row s ts t = record { trial = t; kept = contribution (reference s) (points ts) (point t) }

-- The archive of these trials, in whatever order they stand.
unfoldable pub counted : Shape → List Trial → Archive
counted s ts =
    record {
      shape = s;
      sum = total (reference s) (points ts);
      front = Front.front (points ts);
      rows = map (counted_row s ts) ts;
    }
