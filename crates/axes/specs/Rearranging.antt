-- An archive with its axes in another order, and the call that writes it into a second lent slice (document 02, W-212).
use Rattle.std.specs.Prelude.{ℕ, not, List, map, ltb, length}
use Rattle.words.specs.Archive.{Trial, Row, Shape, Archive, point, reference}
use Rattle.words.specs.Layout.{word, extent, layout, read}
use Rattle.words.specs.Format.{guard, archive_rows}
use Rattle.calls.specs.Calls.{in_order, audited}
use Rattle.calls.specs.Lent.{Outcome, leaves}
use Rattle.axes.specs.Orders.{x, y, z, along, rearranged}

-- "The archive, reference and trials rearranged." A trial keeps its number, and a shape its capacity.
unfoldable pub rearranged_trial : (order : ℕ) → Trial → Trial
rearranged_trial order t =
    record {
      number = t.number;
      x = along (rearranged order (point t)) x;
      y = along (rearranged order (point t)) y;
      z = along (rearranged order (point t)) z;
    }

unfoldable pub rearranged_shape : (order : ℕ) → Shape → Shape
rearranged_shape order s =
    record {
      capacity = s.capacity;
      rx = along (rearranged order (reference s)) x;
      ry = along (rearranged order (reference s)) y;
      rz = along (rearranged order (reference s)) z;
    }

-- "Each trial number keeps its contribution."
unfoldable pub rearranged_row : (order : ℕ) → Row → Row
rearranged_row order r = record { trial = rearranged_trial order r.trial; kept = r.kept }

-- Total and front stay; the records stand in the archive's order again.
unfoldable pub rearranged_archive : (order : ℕ) → Archive → Archive
rearranged_archive order a =
    record {
      shape = rearranged_shape order a.shape;
      sum = a.sum;
      front = a.front;
      rows = in_order (λ r. r.trial) (map (rearranged_row order) a.rows);
    }

-- "(Rows 1 to 3 of the source, 22 for an order above 5, 13 where the audit says no, 1 for a short second slice.)" `room` is the
-- second slice's length.
unfoldable pub rearrange_rows : List ℕ → (order room : ℕ) → ℕ
rearrange_rows w order room =
    archive_rows w
    (guard (ltb 5 order) 22
    (guard (not (audited (read w))) 13 (guard (ltb room (extent (word w 1))) 1 0)))

-- What the call answers and leaves: the archive's words as they were, and in the log's place the second slice, with the archive
-- rearranged at its front and the words behind as they were.
unfoldable pub rearrange : List ℕ → (order : ℕ) → (second : List ℕ) → Outcome
rearrange w order second =
    leaves w second (rearrange_rows w order (length second)) 0 w (layout (rearranged_archive order (read w)))
