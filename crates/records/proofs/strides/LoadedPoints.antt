-- The loop of gather_points: so many points are copied. What load_points leaves: those of all records or of all but one.
use Prim.Native.Nat.{ℕ, suc, ◌+◌, ◌-◌, ◌≤◌, ◌<◌}
use mathlib.Core.Path.{◌≡◌, refl, sym, ap, ap₂, ◌∙◌}
use mathlib.Core.List.{List, ◌++◌, []}
use native.Mathlib.Numerals.{add-one}
use native.Mathlib.Omega.{arith}
use lib.ListN.{length, take, drop, set, get_or, length-drop, length-set}
use lib.Seq.{paste, paste-zero, paste-suc, take-paste, take_all, get_or-take, get_or-drop, length-take-le}
use Rattle.words.specs.Archive.{Row, point, trials, points}
use Rattle.words.specs.Layout.{word}
use Rattle.words.specs.Format.{archive_rows}
use Rattle.words.specs.Places.{as_record, row_at, rows_before}
use Rattle.words.specs.declared.rows.Record.{Record}
use Rattle.words.proofs.Reading.{length_read_rows}
use Rattle.words.proofs.Places.{rows_before_at, point_of_record}
use Rattle.calls.proofs.Known.{known}
use Rattle.records.specs.Columns.{leave_out}
use Rattle.records.specs.Loaded.{PointsGathered, PointsLoaded}
use Rattle.records.proofs.HeldPoints.{points_append, length_points, points_at}
use Rattle.records.proofs.LeaveOut.{leave_none, length_leave_out}
use Rattle.records.proofs.RowAt.{blank}

-- The points of n records from place `first` on.
unfoldable pub part_points : List ℕ → ℕ → ℕ → List (List ℕ)
part_points w first n = points (trials (take n (drop first (rows_before w (word w 0)))))

module _ (w : List ℕ) (first n : ℕ) (inside : first + n ≤ word w 0) where
  rows_part : length (take n (drop first (rows_before w (word w 0)))) ≡ n
  rows_part =
      length-take-le n (drop first (rows_before w (word w 0)))
      (let size : length (rows_before w (word w 0)) ≡ word w 0 = length_read_rows (word w 0) (drop 8 w) in
      let left : length (drop first (rows_before w (word w 0))) ≡ length (rows_before w (word w 0)) - first = length-drop first (rows_before w (word w 0)) in
      omega arith)

  length_part : length (part_points w first n) ≡ n
  unfolding part_points
  length_part = length_points (take n (drop first (rows_before w (word w 0)))) ∙ rows_part

  part_at : (i : ℕ) → i < n → get_or (part_points w first n) i [] ≡ point (row_at w (first + i)).trial
  unfolding part_points
  part_at i l =
      points_at (take n (drop first (rows_before w (word w 0)))) i blank (omega (arith, rows_part))
      ∙ ap (λ r. point r.trial)
      (get_or-take n (drop first (rows_before w (word w 0))) i blank l
      ∙ get_or-drop first (rows_before w (word w 0)) i blank
      ∙ rows_before_at w (word w 0) (first + i) blank (omega arith))

pub record Copied (w : List ℕ) (first n : ℕ) (old : List (List ℕ)) (at : ℕ) (now : List (List ℕ)) (i : ℕ) : Type 0 where
  pub part : i ≤ n
  pub few : word w 0 ≤ 512
  pub inside : first + n ≤ word w 0
  pub room : at + n ≤ length old
  pub long : length now ≡ length old
  pub done : now ≡ paste old at (part_points w first n) i

pub copied_none : (w : List ℕ) (first n : ℕ) (old : List (List ℕ)) (at : ℕ) → archive_rows w 0 ≡ 0 → first + n ≤ word w 0 → at + n ≤ length old → Copied w first n old at old 0
copied_none w first n old at p inside room =
    record {
      part = omega arith;
      few = (known w p).few;
      inside = inside;
      room = room;
      long = refl;
      done = paste-zero old at (part_points w first n);
    }

module _ {w : List ℕ} {first n : ℕ} {old : List (List ℕ)} {at : ℕ} {now : List (List ℕ)} {i : ℕ} (h : Copied w first n old at now i) where
  -- one record more, and its point written
  pub copied_more : (r : Record) (next : List (List ℕ)) → as_record r ≡ row_at w (first + i) → length r.point.at ≡ 3 → i < n → next ≡ set now (at + i) r.point.at
      → Copied w first n old at next (i + 1)
  copied_more r next e three l is =
      let room : at + n ≤ length old = h.room in
      let many : length (part_points w first n) ≡ n = length_part w first n h.inside in
      let this : r.point.at ≡ get_or (part_points w first n) i [] =
      sym (point_of_record r three) ∙ ap (λ x. point x.trial) e ∙ sym (part_at w first n h.inside i l) in
      record {
        part = omega arith;
        few = h.few;
        inside = h.inside;
        room = room;
        long = ap length is ∙ length-set now (at + i) r.point.at ∙ h.long;
        done =
            is
            ∙ ap₂ (λ x q. set x (at + i) q) h.done this
            ∙ paste-suc old at (part_points w first n) i [] (omega arith) (omega arith)
            ∙ ap (paste old at (part_points w first n)) (sym (add-one i));
      }

  pub copied_end : n ≤ i → PointsGathered w first n at old now
  unfolding part_points
  copied_end l =
      let part : i ≤ n = h.part in
      let room : at + n ≤ length old = h.room in
      let many : length (part_points w first n) ≡ n = length_part w first n h.inside in
      let all : i ≡ n = omega arith in
      record {
        long = h.long;
        front =
            ap (take (at + n)) (h.done ∙ ap (paste old at (part_points w first n)) all)
            ∙ take-paste old at (part_points w first n) n (omega arith) (omega arith)
            ∙ ap (λ l. take at old ++ l) (take_all n (part_points w first n) (omega arith));
      }

-- The records before the one left out, then those behind it; or all.
points_but : (w : List ℕ) (k n : ℕ) → n ≡ word w 0 → k < n
    → points (trials (take k (drop 0 (rows_before w (word w 0))))) ++ points (trials (take (n - 1 - k) (drop (k + 1) (rows_before w (word w 0))))) ≡ points (trials (leave_out k (rows_before w (word w 0))))
unfolding leave_out
points_but w k n e l =
    let rows : List Row = rows_before w (word w 0) in
    let size : length (rows_before w (word w 0)) ≡ word w 0 = length_read_rows (word w 0) (drop 8 w) in
    let left : length (drop (k + 1) (rows_before w (word w 0))) ≡ length (rows_before w (word w 0)) - (k + 1) = length-drop (k + 1) (rows_before w (word w 0)) in
    ap (λ x. points (trials (take k rows)) ++ points (trials x)) (take_all (n - 1 - k) (drop (k + 1) rows) (omega arith) ∙ ap (λ i. drop i rows) (add-one k))
    ∙ sym (points_append (take k rows) (drop (suc k) rows))

pub loaded_but : (w : List ℕ) (k n : ℕ) (to to₁ to₂ : List (List ℕ)) → archive_rows w 0 ≡ 0 → n ≡ word w 0 → k < n
    → PointsGathered w 0 k 0 to to₁ → PointsGathered w (k + 1) (n - 1 - k) k to₁ to₂ → PointsLoaded w k (n - 1) to to₂
loaded_but w k n to to₁ to₂ p e l g₁ g₂ =
    let size : length (rows_before w (word w 0)) ≡ word w 0 = length_read_rows (word w 0) (drop 8 w) in
    let left : suc (length (leave_out k (rows_before w (word w 0)))) ≡ length (rows_before w (word w 0)) = length_leave_out k (rows_before w (word w 0)) (omega arith) in
    let few : word w 0 ≤ 512 = (known w p).few in
    let first : take k to₁ ≡ points (trials (take k (drop 0 (rows_before w (word w 0))))) =
    ap (λ i. take i to₁) (let z : k ≡ 0 + k = omega arith in z) ∙ g₁.front in
    record {
      many = omega arith;
      few = omega arith;
      held =
          ap (λ i. take i to₂) (let z : n - 1 ≡ k + (n - 1 - k) = omega arith in z)
          ∙ g₂.front
          ∙ ap (λ x. x ++ points (trials (take (n - 1 - k) (drop (k + 1) (rows_before w (word w 0)))))) first
          ∙ points_but w k n e l;
      long = g₂.long ∙ g₁.long;
    }

pub loaded_all : (w : List ℕ) (k n : ℕ) (to to₁ : List (List ℕ)) → archive_rows w 0 ≡ 0 → n ≡ word w 0 → n ≤ k → k ≤ word w 0
    → PointsGathered w 0 k 0 to to₁ → PointsLoaded w k n to to₁
loaded_all w k n to to₁ p e l m g =
    let rows : List Row = rows_before w (word w 0) in
    let size : length (rows_before w (word w 0)) ≡ word w 0 = length_read_rows (word w 0) (drop 8 w) in
    let all : leave_out k rows ≡ rows = leave_none rows k (omega arith) in
    let few : word w 0 ≤ 512 = (known w p).few in
    record {
      many = e ∙ sym (ap length all ∙ size);
      few = omega arith;
      held =
          ap (λ i. take i to₁) (let z : n ≡ 0 + k = omega arith in z)
          ∙ g.front
          ∙ ap (λ x. points (trials x)) (take_all k rows (omega arith) ∙ sym all);
      long = g.long;
    }
