-- Removal stored: the record struck out, the others' contributions raised, the header written.
use Prim.Native.Nat.{ℕ, suc, ◌+◌, ◌-◌, ◌*◌, ◌≤◌, ◌<◌}
use mathlib.Core.Path.{◌≡◌, refl, sym, ap, ap₂, subst, ◌∙◌}
use mathlib.Core.Bool.{true, false}
use mathlib.Core.List.{List, ◌++◌, map}
use native.Mathlib.Nat.{le_trans}
use native.Mathlib.Omega.{arith}
use lib.ListN.{length, take, set, replicate, length-map, length-append}
use Rattle.words.specs.Archive.{Row, trials}
use Rattle.words.specs.Layout.{records, layout, read, word, behind}
use Rattle.words.specs.Places.{rows_before, row_at}
use Rattle.words.proofs.Passed.{Passed, Sound, passed}
use Rattle.words.proofs.Places.{rows_before_at}
use Rattle.words.proofs.Held.{held_at}
use Rattle.calls.specs.Calls.{box_of, row_of, others, without, removal_loss, raised, removed, renewed, remove_overruns}
use Rattle.records.specs.Columns.{rekept, leave_out, column}
use Rattle.records.specs.Fronts.{unfronted}
use Rattle.calls.proofs.Known.{count_rows, known}
use Rattle.records.proofs.LeaveOut.{length_leave_out}
use Rattle.records.proofs.Stored
use Rattle.records.proofs.Stored.{rows_put}
use Rattle.slices.specs.Put.{put}
use Rattle.slices.specs.Amounts.{moved, Each, amounts_at}
use Rattle.slices.proofs.Put.{put_front_over}
use Rattle.words.proofs.Reading.{length_records}
use lib.Dec.{ltb}
use borrow.Author.Tests.{ltb-false}
use Rattle.slices.proofs.Choices.{either_false}
use Rattle.slices.proofs.Placed.{sparse_placed}
use Rattle.words.specs.Format.{archive_rows, held}
use Rattle.calls.proofs.Sound.{removed_sound}
use Rattle.records.proofs.RowAt.{blank}
use Rattle.records.specs.declared.amounts.Moved.{Moved}
use Rattle.removal.specs.Removing.{number_at, removal_shares, RemoveMoves, RemoveReady}
use Rattle.records.proofs.MovedAmounts.{raised_rows}
use Rattle.removal.proofs.removing.Raising.{removing, kept_each, placed_low, box_fits}

-- Where row 13 lets pass: what storing asks.
module _ {w : List ℕ} {k : ℕ} {places counts : List ℕ} {m : Moved} (h : RemoveMoves w k places counts m) (p : archive_rows w 0 ≡ 0) where
  pub places_few : m.places ≤ 512
  places_few = omega (arith, h.each.few, (known w p).few)

  pub striking : 512 ≤ length places → 512 ≤ length counts → k < word w 0 → RemoveReady w k m.amount (take m.places places) (take m.places counts)
  unfolding remove_overruns read
  striking lp lc l =
      let within-total : ltb (word w 5) (removal_loss (read w) (number_at w k)) ≡ false = (either_false _ _ h.judged).0 in
      record {
        passes = p;
        inside = l;
        lost = h.lost;
        whole = rw h.lost (ltb-false (word w 5) (removal_loss (read w) (number_at w k)) within-total);
        placed = sparse_placed h.each (omega (arith, places_few)) (omega (arith, places_few));
        each = sym h.each.is_spread;
      }

-- The record at place k struck out.
record Struck (w w₁ : List ℕ) (k m : ℕ) : Type 0 where
  left_many : length (leave_out k (read w).rows) ≡ m
  fits : 8 + length (records (leave_out k (read w).rows) ++ replicate 5 0) ≤ length w
  left : rows_before w₁ m ≡ leave_out k (read w).rows

struck : (w w₁ : List ℕ) (k m : ℕ) → Passed w → suc m ≡ word w 0 → k < word w 0
    → w₁ ≡ put w 8 (records (leave_out k (rows_before w (word w 0))) ++ replicate 5 0)
    → Struck w w₁ k m
unfolding read
struck w w₁ k m h s l e =
    let left : List Row = leave_out k (read w).rows in
    let size : length (read w).rows ≡ word w 0 = count_rows w in
    let fewer : suc (length (leave_out k (read w).rows)) ≡ length (read w).rows = length_leave_out k (read w).rows (omega arith) in
    let many : length (leave_out k (read w).rows) ≡ m = omega arith in
    let long : length (records (leave_out k (read w).rows)) ≡ 5 * m = length_records left ∙ ap (λ n. 5 * n) many in
    let within : word w 0 ≤ word w 1 = h.counted in
    let room : 8 + 5 * word w 1 ≤ length w = h.long in
    let fits : 8 + length (records (leave_out k (read w).rows) ++ replicate 5 0) ≤ length w = omega (arith, length-append (records (leave_out k (read w).rows)) (replicate 5 0)) in
    record {
      left_many = many;
      fits = fits;
      left = ap (λ x. rows_before x m) e ∙ rows_put w left (replicate 5 0) m fits many;
    }

-- The record struck out, the others' contributions raised, the header written.
remove_stored : (w w₁ w₂ w₃ vs : List ℕ) (number k m : ℕ) → Passed w → suc m ≡ word w 0 → k < word w 0
    → others number (read w).rows ≡ leave_out k (read w).rows
    → rekept (leave_out k (read w).rows) vs ≡ map (raised (without (read w) number) (row_of number (read w).rows).trial) (leave_out k (read w).rows)
    → w₁ ≡ put w 8 (records (leave_out k (rows_before w (word w 0))) ++ replicate 5 0)
    → w₂ ≡ put w₁ 8 (records (rekept (rows_before w₁ m) vs))
    → w₃ ≡ set (set (set w₂ 0 m) 5 (word w 5 - removal_loss (read w) number)) 6 0
    → w₃ ≡ layout (unfronted (removed (read w) number)) ++ behind w
unfolding removed read
remove_stored w w₁ w₂ w₃ vs number k m h s l out raise e₁ e₂ e₃ =
    let a = read w in
    let left : List Row = leave_out k a.rows in
    let rows : List Row = map (raised (without a number) (row_of number a.rows).trial) left in
    let gap = struck w w₁ k m h s l e₁ in
    let many : length rows ≡ m = length-map left (raised (without a number) (row_of number a.rows).trial) ∙ gap.left_many in
    let even : length (records rows) ≡ length (records left) = length_records rows ∙ ap (λ n. 5 * n) (many ∙ sym gap.left_many) ∙ sym (length_records left) in
    let within : word w 0 ≤ word w 1 = h.counted in
    let gone : (removed a number).rows ≡ rows = ap (map (raised (without a number) (row_of number a.rows).trial)) out in
    let second : w₂ ≡ put w 8 (records rows ++ replicate 5 0) =
    e₂
    ∙ ap₂ (λ x y. put x 8 (records (rekept y vs))) e₁ gap.left
    ∙ ap (λ x. put (put w 8 (records left ++ replicate 5 0)) 8 (records x)) raise
    ∙ put_front_over w 8 (records left) (replicate 5 0) (records rows) gap.fits even in
    Stored.stored w h w₂ w₃ (removed a number) m 1 0 refl (ap length gone ∙ many) (omega arith) (omega arith)
    (second ∙ ap (λ x. put w 8 (records x ++ replicate 5 0)) (sym gone)) e₃

module _ (w : List ℕ) (k : ℕ) {w₁ : List ℕ} {loss : ℕ} {places counts : List ℕ} {n m : ℕ} (h : RemoveReady w k loss places counts) (en : n ≡ word w 0) (em : m ≡ n - 1) (e₁ : w₁ ≡ put w 8 (records (leave_out k (rows_before w n)) ++ replicate 5 0)) where
  inside : k < word w 0
  inside = h.inside

  one_less : suc m ≡ word w 0
  one_less = omega (arith, inside)

  first : w₁ ≡ put w 8 (records (leave_out k (rows_before w (word w 0))) ++ replicate 5 0)
  first = e₁ ∙ ap (λ i. put w 8 (records (leave_out k (rows_before w i)) ++ replicate 5 0)) en

  left_rows : rows_before w₁ m ≡ leave_out k (read w).rows
  left_rows = (struck w w₁ k m (passed w h.passes) one_less inside first).left

  -- What raising the contributions left asks.
  pub raising_asked : Each (column 4 (rows_before w₁ m)) 1152921504606846976 × Each counts 1152921504606846976
  raising_asked =
      let high : box_of (read w) ≤ 1152921504606846976 = box_fits w h.passes in (
        subst (λ l. Each (column 4 l) 1152921504606846976) (sym left_rows) (λ i. le_trans (kept_each w k h.passes i) high),
        λ i. le_trans (placed_low w k h.placed h.each i) high,
      )

  pub removal_stored : (w₂ w₃ : List ℕ)
      → w₂ ≡ put w₁ 8 (records (rekept (rows_before w₁ m) (moved (λ v a. v + a) (column 4 (rows_before w₁ m)) (amounts_at m places counts))))
      → w₃ ≡ set (set (set w₂ 0 m) 5 (word w 5 - loss)) 6 0
      → w₃ ≡ layout (unfronted (removed (read w) (number_at w k))) ++ behind w
  removal_stored w₂ w₃ e₂ e₃ =
      let rows = leave_out k (read w).rows in
      let a = without (read w) (number_at w k) in
      let out = removing w k h.passes inside in
      let amounts : amounts_at m places counts ≡ removal_shares w k = ap (λ i. amounts_at i places counts) (em ∙ ap (λ i. i - 1) en) ∙ h.each in
      remove_stored w w₁ w₂ w₃ _ (number_at w k) k m (passed w h.passes) one_less inside out.rest
      (ap₂ (λ x y. rekept rows (moved (λ v a. v + a) (column 4 x) y)) left_rows amounts ∙ raised_rows a (row_at w k).trial rows ∙ ap (λ x. map (raised a x.trial) rows) (sym out.gone))
      first e₂
      (e₃ ∙ ap (λ x. set (set (set w₂ 0 m) 5 (word w 5 - x)) 6 0) h.lost)

-- What is stored passes rows 1 to 3, and with the front counted it is the archive with the trial removed.
module _ (w w₁ : List ℕ) (k : ℕ) (p : archive_rows w 0 ≡ 0) (q : k < word w 0) (f : remove_overruns (read w) (number_at w k) ≡ false) (e : w₁ ≡ layout (unfronted (removed (read w) (number_at w k))) ++ behind w) where
  known_number : held (number_at w k) (trials (read w).rows) ≡ true
  unfolding read
  known_number =
      ap (λ r. held r.trial.number (trials (rows_before w (word w 0)))) (sym (rows_before_at w (word w 0) k blank q))
      ∙ held_at (rows_before w (word w 0)) k blank (omega (arith, count_rows w))

  sound : Sound (removed (read w) (number_at w k))
  sound = removed_sound (read w) (number_at w k) (known w p).sound (record { known = known_number; fits = f })

  pub removal_passes : archive_rows w₁ 0 ≡ 0
  removal_passes = Stored.update_passes w w₁ (removed (read w) (number_at w k)) 0 sound (omega arith) e

  pub removal_renewed : (w₂ : List ℕ) → w₂ ≡ layout (renewed (read w₁).shape (read w₁).sum (read w₁).rows) ++ behind w₁ → w₂ ≡ layout (removed (read w) (number_at w k)) ++ behind w
  removal_renewed w₂ g = Stored.update_renewed w w₁ (removed (read w) (number_at w k)) 0 sound (omega arith) e w₂ g (unfold removed in refl)
