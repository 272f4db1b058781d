-- The joint count of two held trials, from the counts of the first with the others.
use Prim.Native.Nat.{ℕ, zero, suc, ◌+◌, ◌-◌, ◌≤◌, ◌<◌}
use mathlib.Core.Path.{◌≡◌, refl, sym, ap, ap₂, ◌∙◌}
use mathlib.Core.Bool.{Bool, true, false}
use mathlib.Core.List.{List, ◌∷◌, map, []}
use native.Mathlib.Omega.{arith}
use lib.Dec.{ltb}
use borrow.Author.Tests.{lt-ltb, le-ltb, ltb-true}
use lib.ListN.{length, take, get_or}
use Rattle.hypervolume.specs.Counts.{cover, joint, joints}
use Rattle.hypervolume.proofs.Counting.{SameCover, joint_same}
use Rattle.words.specs.Archive.{Row, point, trials, points}
use Rattle.words.specs.Layout.{word, read}
use Rattle.words.specs.Format.{archive_rows}
use Rattle.words.specs.Places.{row_at}
use Rattle.calls.specs.Calls.{reference_of, held_points, joint_of, row_of}
use Rattle.slices.specs.Choices.{pick}
use Rattle.slices.specs.Amounts.{amounts_at}
use Rattle.corners.specs.declared.Updated.{Updated}
use Rattle.records.specs.Columns.{leave_out, place_but}
use Rattle.ask.specs.RecordCounts.{CountedJoints}
use Rattle.calls.proofs.Known.{known, count_rows}
use Rattle.records.proofs.LeaveOut.{row_of_at, length_leave_out, leave_at}
use Rattle.records.proofs.RowAt.{blank, row_there}

-- A record and the others dominate a cell as often as all do.
pub leave_cover : (rows : List Row) (i : ℕ) (d : Row) → i < length rows
    → SameCover (point (get_or rows i d).trial ∷ points (trials (leave_out i rows))) (points (trials rows))
unfolding leave_out trials points cover SameCover
leave_cover [] i d l c = absurd (let no' : ⊥ = omega arith in no')
leave_cover (r ∷ rows) zero d l c = refl
leave_cover (r ∷ rows) (suc i) d l c =
    let rest = leave_cover rows i d (omega arith) c in
    omega arith

-- A count of each record's point: as many as records.
pub length_each : (f : List ℕ → ℕ) (rows : List Row) → length (map f (points (trials rows))) ≡ length rows
unfolding points trials
length_each f [] = refl
length_each f (r ∷ rows) = ap suc (length_each f rows)

at_place : (f : List ℕ → ℕ) (rows : List Row) (j : ℕ) (d : Row) → j < length rows
    → get_or (map f (points (trials rows))) j 0 ≡ f (point (get_or rows j d).trial)
unfolding points trials
at_place f [] j d l = absurd (let no' : ⊥ = omega arith in no')
at_place f (r ∷ rows) zero d l = refl
at_place f (r ∷ rows) (suc j) d l = at_place f rows j d (omega arith)

joints_at : (r u : List ℕ) (rows : List Row) (j : ℕ) (d : Row) → j < length rows
    → get_or (joints r (points (trials rows)) u) j 0 ≡ joint r (u ∷ points (trials rows)) u (point (get_or rows j d).trial)
unfolding joints
joints_at r u rows j d l = at_place _ rows j d l

-- The place of the record at k among the others of the one at i.
module _ (i k : ℕ) where
  pub among_before : k ≤ i → (i ≡ k → ⊥) → place_but i k ≡ k
  unfolding place_but pick
  among_before l apart = rw (lt-ltb k i (less k i l (λ e. apart (sym e))))
    where
      less : (m n : ℕ) → m ≤ n → (m ≡ n → ⊥) → m < n
      less m n l d = omega arith

  pub among_behind : i < k → place_but i (k - 1) ≡ k
  unfolding place_but pick
  among_behind l = rw (le-ltb (k - 1) i (let m : i ≤ k - 1 = omega arith in m)) (omega arith)

  among : (j n : ℕ) → place_but i j ≡ k → k < n → i < n → (i ≡ k → ⊥) → j < n - 1
  unfolding place_but pick
  among j n e l m apart = go (ltb j i) refl e
    where
      go : (b : Bool) → ltb j i ≡ b → pick b j (j + 1) ≡ k → j < n - 1
      go true t f = omega (arith, ltb-true j i t)
      go false t f = omega arith

-- The trials at two places, and the counts with the first of them over the others.
module _ (w : List ℕ) (i k : ℕ) (p : archive_rows w 0 ≡ 0) (li : i < word w 0) (lk : k < word w 0) where
  there : (j : ℕ) → j < word w 0 → get_or (read w).rows j blank ≡ row_at w j
  unfolding read
  there j l = row_there w (word w 0) j l

  by_number : (j : ℕ) → j < word w 0 → row_of (row_at w j).trial.number (read w).rows ≡ row_at w j
  by_number j l =
      let size : length (read w).rows ≡ word w 0 = count_rows w in
      ap (λ r. row_of r.trial.number (read w).rows) (sym (there j l))
      ∙ row_of_at (read w).rows j blank (omega arith) (known w p).sound.apart
      ∙ there j l

  -- the amount at the place that the other trial has among the others
  pub joint_counted : {q places counts : List ℕ} {r : Updated} (j v : ℕ) → q ≡ point (row_at w i).trial → CountedJoints w i q places counts r → (i ≡ k → ⊥) → place_but i j ≡ k
      → v ≡ get_or (amounts_at (length (leave_out i (read w).rows)) (take r.moved places) (take r.moved counts)) j 0
      → v ≡ joint_of (read w) (row_at w i).trial.number (row_at w k).trial.number
  unfolding joint_of
  joint_counted {q} {places} {counts} {r} j v e c apart there' is =
      let R = reference_of (read w) in
      let P = held_points (read w) in
      let others = points (trials (leave_out i (read w).rows)) in
      let size : length (read w).rows ≡ word w 0 = count_rows w in
      let left : suc (length (leave_out i (read w).rows)) ≡ length (read w).rows = length_leave_out i (read w).rows (omega arith) in
      let first : q ≡ point (get_or (read w).rows i blank).trial = e ∙ ap (λ x. point x.trial) (sym (there i li)) in
      let below : j < length (read w).rows - 1 = among i k j (length (read w).rows) there' (omega arith) (omega arith) apart in
      let l : j < length (leave_out i (read w).rows) = omega arith in
      let s : get_or (leave_out i (read w).rows) j blank ≡ get_or (read w).rows k blank =
      leave_at (read w).rows i j blank ∙ ap (λ x. get_or (read w).rows x blank) there' in
      let value : v ≡ joint R (q ∷ others) q (point (get_or (read w).rows k blank).trial) =
      is
      ∙ ap (λ x. get_or x j 0) (sym c.each.is_spread)
      ∙ joints_at R q (leave_out i (read w).rows) j blank l
      ∙ ap (λ x. joint R (q ∷ others) q (point x.trial)) s in
      value
      ∙ ap₂ (λ x y. joint R (x ∷ others) y (point (get_or (read w).rows k blank).trial)) first e
      ∙ joint_same R _ P _ _ (leave_cover (read w).rows i blank (omega arith))
      ∙ ap₂ (λ x y. joint R P (point x.trial) (point y.trial)) (sym (by_number i li)) (there k lk ∙ sym (by_number k lk))
