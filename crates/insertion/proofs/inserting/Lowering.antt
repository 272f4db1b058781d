-- The ways out of judging an insertion: row 13 by the total, or by a contribution, or neither.
use Prim.Native.Nat.{ℕ, ◌+◌, ◌≤◌, ◌<◌}
use mathlib.Core.Path.{◌≡◌, refl, sym, ap, subst, ◌∙◌}
use mathlib.Core.Bool.{Bool, true, false, not}
use mathlib.Core.List.{List}
use native.Mathlib.Omega.{arith}
use lib.Dec.{ltb}
use borrow.Author.Tests.{lt-ltb, le-ltb, not-true, not-false}
use lib.ListN.{length, take}
use Rattle.std.specs.Prelude.{Ok, Err}
use Rattle.refusals.specs.declared.Refusal.TheVariants.{Miscount}
use Rattle.hypervolume.proofs.Counting.{gain_le_box}
use Rattle.corners.specs.declared.Updated.{Updated}
use Rattle.words.specs.Archive.{Trial, point}
use Rattle.slices.specs.Choices.{either}
use Rattle.slices.specs.Amounts.{some_pair, Placed, amounts_at}
use Rattle.words.specs.Layout.{read, word}
use Rattle.words.specs.Format.{archive_rows}
use Rattle.words.specs.Places.{rows_before}
use Rattle.calls.specs.Calls.{reference_of, held_points, box_of, insert_gain, falls_below, insert_overruns}
use Rattle.records.specs.Columns.{column}
use Rattle.ask.specs.RecordCounts.{CountedJoints}
use Rattle.ask.proofs.CountedAmounts.{all_gain, all_shares, all_rows, counted_few, counted_placed}
use Rattle.insertion.specs.Inserting.{InsertShares, InsertJudged}
use Rattle.calls.proofs.Known.{known, count_rows}
use Rattle.records.specs.declared.amounts.Moved.{Moved}
use Rattle.records.proofs.MovedAmounts.{falls_below_pairs}

-- What counting leaves, as the amounts of an insertion.
module _ {w : List ℕ} (t : Trial) {q places counts : List ℕ} {r : Updated} (p : archive_rows w 0 ≡ 0) (here : q ≡ point t) (c : CountedJoints w (word w 0) q places counts r) (l : 512 ≤ length places) (m : 512 ≤ length counts) where
  pub counted_shares : InsertShares w t (take r.moved places) (take r.moved counts)
  counted_shares =
      let all : length (read w).rows ≡ word w 0 = count_rows w in
      record {
        placed = subst (λ n. Placed n (take r.moved places) (take r.moved counts)) (ap length (sym (all_rows w (word w 0) refl)) ∙ all) (counted_placed p c l m);
        shared = ap (λ n. amounts_at n (take r.moved places) (take r.moved counts)) (sym all) ∙ sym (all_shares t here c).is_spread;
      }

  -- the ways out
  module _ (cells : ℕ) (boxed : cells ≡ box_of (read w)) where
    gained : r.gain ≡ insert_gain (read w) t
    gained = all_gain t here c

    pub judged_over : cells < word w 5 + r.gain → InsertJudged w t places counts (Err Miscount)
    unfolding insert_overruns either read
    judged_over k =
        let over : insert_overruns (read w) t ≡ true =
        ap (λ x. either x (falls_below (read w) t (read w).rows))
        (lt-ltb (box_of (read w)) (word w 5 + insert_gain (read w) t) (let s : box_of (read w) < word w 5 + insert_gain (read w) t = rw (← boxed, ← gained) k in s)) in
        (refl, over)

    behind_box : word w 5 + r.gain ≤ cells → insert_overruns (read w) t ≡ some_pair (λ v m. ltb v m) (column 4 (rows_before w (word w 0))) (amounts_at (word w 0) (take r.moved places) (take r.moved counts))
    unfolding insert_overruns either read
    behind_box k =
        ap (λ x. either x (falls_below (read w) t (read w).rows))
        (le-ltb (box_of (read w)) (word w 5 + insert_gain (read w) t) (let s : word w 5 + insert_gain (read w) t ≤ box_of (read w) = rw (← boxed, ← gained) k in s))
        ∙ falls_below_pairs (read w) t (read w).rows
        ∙ ap (some_pair (λ v m. ltb v m) (column 4 (read w).rows)) (sym counted_shares.shared)

    -- by the contributions: `b` is whether all of them are high enough
    module _ (b : Bool) (k : word w 5 + r.gain ≤ cells) (e : b ≡ not (some_pair (λ v m. ltb v m) (column 4 (rows_before w (word w 0))) (amounts_at (word w 0) (take r.moved places) (take r.moved counts)))) where
      pub judged_below : b ≡ false → InsertJudged w t places counts (Err Miscount)
      judged_below f = (refl, behind_box k ∙ not-false _ (sym e ∙ f))

      pub judged_fit : b ≡ true → (m : Moved) → m.amount ≡ r.gain → m.places ≡ r.moved → InsertJudged w t places counts (Ok m)
      judged_fit f m amount at =
          record {
            gained = amount ∙ gained;
            judged = behind_box k ∙ not-true _ (sym e ∙ f);
            few = subst (λ n. n ≤ 512) (sym at) (counted_few p c);
            lowers = subst (λ n. InsertShares w t (take n places) (take n counts)) (sym at) counted_shares;
          }

-- The kept total and a gain are both at most the box, so their sum fits a word.
pub gain_fits : (w : List ℕ) (t : Trial) (r : ℕ) → archive_rows w 0 ≡ 0 → r ≡ insert_gain (read w) t → word w 5 + r ≤ 2305843009213693952
unfolding insert_gain read
gain_fits w t r p e =
    let most : insert_gain (read w) t ≤ box_of (read w) = gain_le_box (reference_of (read w)) (held_points (read w)) (point t) in
    omega (arith, known w p)
