-- The ways out of raised: row 13, or the others' joint counts by their places.
use Prim.Native.Nat.{ℕ, zero, suc, ◌+◌, ◌-◌, ◌≤◌, ◌<◌, zero-le}
use mathlib.Core.Path.{◌≡◌, refl, sym, ap, ap₂, subst, ◌∙◌}
use mathlib.Core.Bool.{Bool, true, false, not}
use mathlib.Core.List.{List, ◌∷◌, []}
use native.Mathlib.Omega.{arith}
use lib.Dec.{ltb}
use borrow.Author.Tests.{lt-ltb, le-ltb, not-true, not-false}
use lib.ListN.{length, get_or, take}
use Rattle.std.specs.Prelude.{Ok, Err}
use Rattle.refusals.specs.declared.Refusal.TheVariants.{Miscount}
use Rattle.slices.specs.Choices.{either}
use Rattle.slices.specs.Spread.{Sparse}
use Rattle.slices.specs.Amounts.{some_pair, Each, Placed, amounts_at}
use Rattle.slices.proofs.Placed.{counts_low}
use Rattle.hypervolume.proofs.Counting.{joint_le_box}
use Rattle.corners.specs.declared.Updated.{Updated}
use Rattle.words.specs.Archive.{Trial, Row, Archive, point}
use Rattle.words.specs.Layout.{read, word}
use Rattle.words.specs.Format.{archive_rows}
use Rattle.words.specs.Places.{rows_before, row_at}
use Rattle.calls.specs.Calls.{reference_of, held_points, box_of, insert_gain, joint_with, row_of, others, without, removal_loss, exceeds, remove_overruns}
use Rattle.records.specs.Columns.{column, leave_out}
use Rattle.records.specs.Amounts.{shares}
use Rattle.ask.specs.RecordCounts.{CountedJoints}
use Rattle.removal.specs.Removing.{number_at, removal_shares, RemoveJudged}
use Rattle.records.proofs.HeldPoints.{column_each}
use Rattle.records.proofs.LeaveOut.{others_at, row_of_at, length_leave_out, left_allowed}
use Rattle.records.specs.declared.amounts.Moved.{Moved}
use Rattle.calls.proofs.Known.{count_rows, known}
use Rattle.records.proofs.MovedAmounts.{exceeds_pairs}
use Rattle.records.proofs.RowAt.{blank, row_there}
use Rattle.ask.proofs.CountedAmounts.{amounts_gain, amounts_shares}

-- The record at a place, by its number: the one of that number, and the others.
pub record Removing (w : List ℕ) (k : ℕ) : Type 0 where
  pub rest : others (number_at w k) (read w).rows ≡ leave_out k (read w).rows
  pub gone : row_of (number_at w k) (read w).rows ≡ row_at w k
  pub many : length (leave_out k (read w).rows) ≡ word w 0 - 1

pub removing : (w : List ℕ) (k : ℕ) → archive_rows w 0 ≡ 0 → k < word w 0 → Removing w k
unfolding read
removing w k p l =
    let size : length (rows_before w (word w 0)) ≡ word w 0 = count_rows w in
    let here : get_or (rows_before w (word w 0)) k blank ≡ row_at w k = row_there w (word w 0) k l in
    let inside : k < length (rows_before w (word w 0)) = omega arith in
    let apart = (known w p).sound.apart in
    let left : suc (length (leave_out k (rows_before w (word w 0)))) ≡ length (rows_before w (word w 0)) = length_leave_out k (rows_before w (word w 0)) inside in
    record {
      rest = ap (λ r. others r.trial.number (rows_before w (word w 0))) (sym here) ∙ others_at (rows_before w (word w 0)) k blank inside apart;
      gone = ap (λ r. row_of r.trial.number (rows_before w (word w 0))) (sym here) ∙ row_of_at (rows_before w (word w 0)) k blank inside apart ∙ here;
      many = omega arith;
    }

-- The removal's counted amounts.
module _ {w : List ℕ} {k : ℕ} (p : archive_rows w 0 ≡ 0) (l : k < word w 0) {q places counts : List ℕ} {r : Updated} (here : q ≡ point (row_at w k).trial) (c : CountedJoints w k q places counts r) where
  rest_rows : (without (read w) (number_at w k)).rows ≡ leave_out k (read w).rows
  unfolding without
  rest_rows = (removing w k p l).rest

  pub loss_counted : r.gain ≡ removal_loss (read w) (number_at w k)
  unfolding removal_loss without
  loss_counted =
      amounts_gain (without (read w) (number_at w k)) (row_at w k).trial refl rest_rows here c
      ∙ ap (λ x. insert_gain (without (read w) (number_at w k)) x.trial) (sym (removing w k p l).gone)

  pub shares_counted : Sparse (word w 0 - 1) (removal_shares w k) places counts r.moved
  unfolding without
  shares_counted =
      subst (λ n. Sparse n (removal_shares w k) places counts r.moved) (removing w k p l).many
      (subst (λ x. Sparse (length x) (shares (without (read w) (number_at w k)) (row_at w k).trial x) places counts r.moved) rest_rows
      (amounts_shares (without (read w) (number_at w k)) (row_at w k).trial refl rest_rows here c))

-- Every joint count is at most the box.
shares_each : (a : Archive) (t : Trial) (rows : List Row) → Each (shares a t rows) (box_of a)
unfolding shares joint_with
shares_each a t [] i = zero-le
shares_each a t (r ∷ rows) zero = joint_le_box (reference_of a) (point t ∷ held_points a) (point t) (point r.trial)
shares_each a t (r ∷ rows) (suc i) = shares_each a t rows i

pub kept_each : (w : List ℕ) (k : ℕ) → archive_rows w 0 ≡ 0 → Each (column 4 (leave_out k (read w).rows)) (box_of (read w))
kept_each w k p = column_each (read w).shape (leave_out k (read w).rows) (left_allowed (read w).shape (read w).rows k (known w p).sound.rows_fit)

pub joints_each : (w : List ℕ) (k : ℕ) → Each (removal_shares w k) (box_of (read w))
unfolding without
joints_each w k = shares_each (without (read w) (number_at w k)) (row_at w k).trial (leave_out k (read w).rows)

-- So no count at a place is above the box.
pub placed_low : (w : List ℕ) (k : ℕ) {places counts : List ℕ} → Placed (word w 0 - 1) places counts
    → amounts_at (word w 0 - 1) places counts ≡ removal_shares w k
    → Each counts (box_of (read w))
placed_low w k h e = counts_low (box_of (read w)) h (subst (λ l. Each l (box_of (read w))) (sym e) (joints_each w k))

-- What the test of the contributions asks.
pub low_asked : (w : List ℕ) (k : ℕ) {places counts : List ℕ} (limit : ℕ) → archive_rows w 0 ≡ 0 → limit ≡ box_of (read w) → Placed (word w 0 - 1) places counts
    → amounts_at (word w 0 - 1) places counts ≡ removal_shares w k
    → Each (column 4 (leave_out k (rows_before w (word w 0)))) limit × Each counts limit
unfolding read
low_asked w k {counts = counts} limit p e h s =
    subst (λ b. Each (column 4 (leave_out k (read w).rows)) b × Each counts b) (sym e) (kept_each w k p, placed_low w k h s)

-- The ways out of `raised`.
module _ (w : List ℕ) (k : ℕ) (p : archive_rows w 0 ≡ 0) (l : k < word w 0) {places counts : List ℕ} {r m : ℕ} (lost : r ≡ removal_loss (read w) (number_at w k)) (each : Sparse (word w 0 - 1) (removal_shares w k) places counts m) where
  pub raised_over : word w 5 < r → RemoveJudged w k places counts (Err Miscount)
  unfolding remove_overruns either read
  raised_over h =
      let over : remove_overruns (read w) (number_at w k) ≡ true =
      ap (λ x. either x (exceeds (without (read w) (number_at w k)) (row_of (number_at w k) (read w).rows).trial (others (number_at w k) (read w).rows))) (lt-ltb (word w 5) (removal_loss (read w) (number_at w k)) (let s : word w 5 < removal_loss (read w) (number_at w k) = rw (← lost) h in s)) in
      (refl, over)

  behind_total : r ≤ word w 5 → remove_overruns (read w) (number_at w k) ≡ some_pair (λ v m. ltb (box_of (read w)) (v + m)) (column 4 (leave_out k (read w).rows)) (removal_shares w k)
  unfolding remove_overruns either read without
  behind_total h =
      ap (λ x. either x (exceeds (without (read w) (number_at w k)) (row_of (number_at w k) (read w).rows).trial (others (number_at w k) (read w).rows))) (le-ltb (word w 5) (removal_loss (read w) (number_at w k)) (let s : removal_loss (read w) (number_at w k) ≤ word w 5 = rw (← lost) h in s))
      ∙ ap₂ (λ x y. exceeds (without (read w) (number_at w k)) x.trial y) (removing w k p l).gone (removing w k p l).rest
      ∙ exceeds_pairs (without (read w) (number_at w k)) (row_at w k).trial (leave_out k (read w).rows)

  -- by the contributions: `b` is whether all of them stay within the box
  module _ {limit : ℕ} (b : Bool) (h : r ≤ word w 5) (e : limit ≡ box_of (read w)) (j : b ≡ not (some_pair (λ v m. ltb limit (v + m)) (column 4 (leave_out k (rows_before w (word w 0)))) (amounts_at (word w 0 - 1) (take m places) (take m counts)))) where
    decided : b ≡ not (remove_overruns (read w) (number_at w k))
    unfolding read
    decided =
        j ∙ ap not (ap₂ (λ x ms. some_pair (λ v m. ltb x (v + m)) (column 4 (leave_out k (read w).rows)) ms) e (sym each.is_spread) ∙ sym (behind_total h))

    pub raised_above : b ≡ false → RemoveJudged w k places counts (Err Miscount)
    raised_above f = (refl, not-false _ (sym decided ∙ f))

    pub raised_fit : b ≡ true → (moved : Moved) → moved.amount ≡ r → moved.places ≡ m → RemoveJudged w k places counts (Ok moved)
    raised_fit f moved amount at =
        record {
          lost = amount ∙ lost;
          judged = not-true _ (sym decided ∙ f);
          each = subst (λ n. Sparse (word w 0 - 1) (removal_shares w k) places counts n) (sym at) each;
        }

pub box_fits : (w : List ℕ) → archive_rows w 0 ≡ 0 → box_of (read w) ≤ 1152921504606846976
unfolding read
box_fits w p = (known w p).box_small

pub limit_fits : (w : List ℕ) (limit : ℕ) → archive_rows w 0 ≡ 0 → limit ≡ box_of (read w) → limit ≤ 1152921504606846976
limit_fits w limit p e = rw e (box_fits w p)
