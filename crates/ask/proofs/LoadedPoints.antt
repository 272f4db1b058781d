-- The points loaded of an archive's records are what the sweep and the update ask for, and their counts are the archive's.
use Prim.Native.Nat.{ℕ, ◌≤◌}
use mathlib.Core.Path.{◌≡◌, sym, ap, ap₂, ◌∙◌}
use mathlib.Core.List.{List, ◌++◌}
use native.Mathlib.Omega.{arith}
use lib.ListN.{length, take, drop}
use Rattle.slices.specs.Spread.{Sparse}
use Rattle.hypervolume.specs.Counts.{total, contributions, gain, joints}
use Rattle.hypervolume.specs.Sorted.{Small}
use Rattle.sweep.specs.Points.{Ready}
use Rattle.corners.specs.Updating.{Updating}
use Rattle.corners.specs.declared.Updated.{Updated}
use Rattle.words.specs.Archive.{reference, trials, points}
use Rattle.words.specs.Layout.{read, read_shape, word}
use Rattle.words.specs.Format.{archive_rows}
use Rattle.words.specs.Places.{rows_before}
use Rattle.words.proofs.Passed.{passed}
use Rattle.calls.proofs.Known.{count_rows, known}
use Rattle.records.specs.Columns.{leave_out}
use Rattle.records.specs.Loaded.{PointsLoaded}
use Rattle.records.proofs.HeldPoints.{loaded_sorted, length_points}
use Rattle.records.proofs.LeaveOut.{leave_none}
use Rattle.ask.specs.RecordCounts.{CountedAll, CountedJoints}

-- The points of the records but the one at place k, and the reference, as they are handed on.
pub record Loaded (w : List ℕ) (k : ℕ) (ps : List (List ℕ)) (r : List ℕ) : Type 0 where
  pub passes : archive_rows w 0 ≡ 0
  pub held : ps ≡ points (trials (leave_out k (rows_before w (word w 0))))
  pub many : length ps ≤ 512
  pub under : r ≡ reference (read_shape w)

pub loaded : {w r : List ℕ} {k m : ℕ} {before after : List (List ℕ)} → archive_rows w 0 ≡ 0 → PointsLoaded w k m before after → r ≡ reference (read_shape w) → Loaded w k (take m after) r
loaded {w} {r} {k} {m} {before} {after} p l e =
    record {
      passes = p;
      held = l.held;
      many =
          let size : length (take m after) ≡ length (leave_out k (rows_before w (word w 0))) = ap length l.held ∙ length_points (leave_out k (rows_before w (word w 0))) in
          omega (arith, l.many, l.few);
      under = e;
    }

-- All records.
pub all_loaded : (w : List ℕ) {r : List ℕ} {ps : List (List ℕ)} → archive_rows w 0 ≡ 0 → ps ≡ points (trials (read w).rows) → r ≡ reference (read_shape w) → Loaded w (word w 0) ps r
unfolding read
all_loaded w {r} {ps} p l e =
    let size : length (rows_before w (word w 0)) ≡ word w 0 = count_rows w in
    record {
      passes = p;
      held = l ∙ ap (λ rows. points (trials rows)) (sym (leave_none (rows_before w (word w 0)) (word w 0) (omega arith)));
      many = omega (arith, ap length l, length_points (rows_before w (word w 0)), (known w p).few);
      under = e;
    }

module _ {w r : List ℕ} {k : ℕ} {ps : List (List ℕ)} (h : Loaded w k ps r) where
  pub loaded_ready : {line out : List ℕ} → 512 ≤ length line → 512 ≤ length out → Ready ps r line out
  loaded_ready {line} {out} l o =
      record {
        sorted = rw h.held (loaded_sorted w k h.passes);
        reference_small = rw h.under (passed w h.passes).bounds.reference_high;
        line_room = omega (arith, h.many);
        room = omega (arith, h.many);
      }

  pub loaded_updating : {u places line counts : List ℕ} {corners : List (List ℕ)} → Small u → 512 ≤ length corners → 512 ≤ length places → 512 ≤ length line → 512 ≤ length counts → Updating ps u r corners places line counts
  loaded_updating s c p l o =
      record {
        ready = loaded_ready l o;
        small = s;
        corners_room = omega (arith, h.many);
        places_room = omega (arith, h.many);
      }

  pub joints_counted : {u places counts : List ℕ} {answer : Updated} → answer.gain ≡ gain r ps u → Sparse (length ps) (joints r ps u) places counts answer.moved → CountedJoints w k u places counts answer
  unfolding read
  joints_counted {u} {places} {counts} {answer} g s =
      let size : length ps ≡ length (leave_out k (rows_before w (word w 0))) =
      ap length h.held ∙ length_points (leave_out k (rows_before w (word w 0))) in
      record {
        whole = g ∙ rw (h.under, h.held);
        each = rw (size, h.under, h.held) at s;
      }

-- All records, where none is left out.
pub all_counted : {w r before after : List ℕ} {ps : List (List ℕ)} {k answer : ℕ} → k ≡ word w 0 → Loaded w k ps r → answer ≡ total r ps → after ≡ contributions r ps ++ drop (length ps) before → CountedAll w before after answer
unfolding read
all_counted {w} {r} {before} {after} {ps} {k} {answer} e h t c =
    let none : leave_out k (rows_before w (word w 0)) ≡ rows_before w (word w 0) =
    leave_none (rows_before w (word w 0)) k (let size : length (rows_before w (word w 0)) ≡ word w 0 = count_rows w in omega arith) in
    let all : ps ≡ points (trials (rows_before w (word w 0))) = h.held ∙ ap (λ rows. points (trials rows)) none in
    let size : length ps ≡ length (rows_before w (word w 0)) = ap length all ∙ length_points (rows_before w (word w 0)) in
    record {
      whole = t ∙ ap₂ total h.under all;
      each = c ∙ ap₂ (λ l n. l ++ drop n before) (ap₂ contributions h.under all) size;
    }
