-- Counted amounts: gain and joint counts of a trial with the records but one, as those of the archive that holds these.
use Prim.Native.Nat.{ℕ, ◌≤◌}
use mathlib.Core.Path.{◌≡◌, refl, sym, ap, ap₂, ◌∙◌}
use mathlib.Core.List.{List}
use native.Mathlib.Omega.{arith}
use lib.ListN.{length, take}
use Rattle.slices.specs.Spread.{Sparse}
use Rattle.slices.specs.Amounts.{Placed}
use Rattle.slices.proofs.Placed.{sparse_placed}
use Rattle.hypervolume.specs.Counts.{joints}
use Rattle.corners.specs.declared.Updated.{Updated}
use Rattle.words.specs.Archive.{Trial, Archive, point, reference, trials, points}
use Rattle.words.specs.Layout.{read, word}
use Rattle.calls.specs.Calls.{reference_of, insert_gain}
use Rattle.records.specs.Columns.{leave_out}
use Rattle.records.specs.Amounts.{shares}
use Rattle.records.proofs.LeaveOut.{leave_none, left_fewer}
use Rattle.records.proofs.MovedAmounts.{joints_shares}
use Rattle.words.specs.Format.{archive_rows}
use Rattle.calls.proofs.Known.{known, count_rows}
use Rattle.ask.specs.RecordCounts.{CountedJoints}

-- There are no more of them than records, and their places are as moving contributions asks.
module _ {w : List ℕ} {k : ℕ} {q places counts : List ℕ} {r : Updated} (p : archive_rows w 0 ≡ 0) (c : CountedJoints w k q places counts r) where
  pub counted_few : r.moved ≤ 512
  counted_few =
      let size : length (read w).rows ≡ word w 0 = count_rows w in
      omega (arith, c.each.few, left_fewer (read w).rows k, (known w p).few)

  pub counted_placed : 512 ≤ length places → 512 ≤ length counts → Placed (length (leave_out k (read w).rows)) (take r.moved places) (take r.moved counts)
  counted_placed l m = sparse_placed c.each (omega (arith, counted_few)) (omega (arith, counted_few))

module _ {w : List ℕ} {k : ℕ} (b : Archive) (t : Trial) {q places counts : List ℕ} {r : Updated} (shape : b.shape ≡ (read w).shape) (rows : b.rows ≡ leave_out k (read w).rows) (here : q ≡ point t) (c : CountedJoints w k q places counts r) where
  pub amounts_gain : r.gain ≡ insert_gain b t
  unfolding insert_gain
  amounts_gain = c.whole ∙ sym (rw (shape, rows, ← here))

  pub amounts_shares : Sparse (length b.rows) (shares b t b.rows) places counts r.moved
  amounts_shares =
      let same : joints (reference_of (read w)) (points (trials (leave_out k (read w).rows))) q ≡ shares b t b.rows =
      sym (sym (joints_shares b t) ∙ ap₂ (λ x y. joints (reference x) (points (trials y)) (point t)) shape rows ∙ ap (λ y. joints (reference_of (read w)) (points (trials (leave_out k (read w).rows))) y) (sym here)) in
      rw (← same, rows) c.each

-- Over all records, the archive itself.
pub all_rows : (w : List ℕ) (n : ℕ) → word w 0 ≡ n → (read w).rows ≡ leave_out n (read w).rows
all_rows w n e = sym (leave_none (read w).rows n (let size : length (read w).rows ≡ word w 0 = count_rows w in omega arith))

module _ {w : List ℕ} (t : Trial) {q places counts : List ℕ} {r : Updated} (here : q ≡ point t) (c : CountedJoints w (word w 0) q places counts r) where
  pub all_gain : r.gain ≡ insert_gain (read w) t
  all_gain = amounts_gain (read w) t refl (all_rows w (word w 0) refl) here c

  pub all_shares : Sparse (length (read w).rows) (shares (read w) t (read w).rows) places counts r.moved
  all_shares = amounts_shares (read w) t refl (all_rows w (word w 0) refl) here c
