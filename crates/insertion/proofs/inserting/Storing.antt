-- An insertion stored: contributions lowered, the new record entered, the header written.
use Prim.Native.Nat.{ℕ, suc, ◌+◌, ◌-◌, ◌*◌, ◌≤◌, ◌<◌}
use mathlib.Core.Path.{◌≡◌, refl, sym, ap, ap₂, ◌∙◌}
use mathlib.Core.Bool.{false}
use mathlib.Core.List.{List, ◌∷◌, ◌++◌, map, append-nil, []}
use native.Mathlib.Numerals.{add-one}
use native.Mathlib.Omega.{arith}
use lib.ListN.{length, take, drop, set, length-map}
use Rattle.words.specs.Archive.{Trial, Row, Archive, trials}
use Rattle.words.specs.Layout.{records, read, word}
use Rattle.words.specs.Places.{rows_before}
use Rattle.words.proofs.Passed.{Passed, passed}
use Rattle.calls.specs.Calls.{place, insert_gain, lowered, inserted, box_of, insert_overruns}
use Rattle.records.specs.Columns.{rekept, column}
use Rattle.records.specs.Ranks.{rank_of}
use Rattle.records.proofs.Ranks.{rank_inside, place_ranked}
use Rattle.calls.proofs.Known.{count_rows, known}
use Rattle.records.proofs.Stored
use Rattle.records.proofs.Stored.{rows_put}
use Rattle.slices.specs.Put.{put}
use Rattle.slices.specs.Amounts.{moved, some_pair, amounts_at}
use Rattle.slices.proofs.Put.{put_over}
use Rattle.words.proofs.Reading.{length_records, length_read_rows}
use Rattle.calls.proofs.Members.{place_length, trials_map}
use lib.Dec.{ltb}
use borrow.Author.Tests.{ltb-false}
use Rattle.slices.proofs.Choices.{either_false}
use Rattle.words.specs.Format.{archive_rows}
use Rattle.records.specs.declared.amounts.Moved.{Moved}
use Rattle.insertion.specs.Inserting.{InsertMoves, InsertReady, entered}
use Rattle.records.proofs.MovedAmounts.{lowered_rows, falls_below_pairs}

-- Storing an insertion: sums fit, and the words left are the new layout.
pub storing_fits : {w : List ℕ} {t : Trial} {g : ℕ} {places counts : List ℕ} → InsertReady w t g places counts → word w 5 + g ≤ 1152921504606846976
unfolding read
storing_fits {w} h = omega (arith, h.whole, known w h.passes)

-- Lowering contributions leaves the trials.
trials_lowered : (a : Archive) (t : Trial) (rows : List Row) → trials (map (lowered a t) rows) ≡ trials rows
unfolding lowered
trials_lowered a t rows = trials_map (lowered a t) rows (λ r. refl)

-- The new record's place is one of the places.
pub storing_place : (w : List ℕ) (t : Trial) (k : ℕ) → k ≡ rank_of t (trials (rows_before w (word w 0))) → k ≤ word w 0
unfolding trials
storing_place w t k e =
    let many : length (trials (rows_before w (word w 0))) ≡ word w 0 = length-map (rows_before w (word w 0)) _ ∙ length_read_rows (word w 0) (drop 8 w) in
    omega (arith, rank_inside t (trials (rows_before w (word w 0))))

-- Contributions lowered, the new record entered, the header written.
insert_stored : (w w₁ w₂ w₃ vs : List ℕ) (t : Trial) (k : ℕ) → Passed w → word w 0 < word w 1
    → k ≡ rank_of t (trials (rows_before w (word w 0)))
    → rekept (read w).rows vs ≡ map (lowered (read w) t) (read w).rows
    → w₁ ≡ put w 8 (records (rekept (rows_before w (word w 0)) vs))
    → w₂ ≡ put w₁ 8 (records (take k (rows_before w₁ (word w 0)) ++ (record { trial = t; kept = insert_gain (read w) t } ∷ drop k (rows_before w₁ (word w 0)))))
    → w₃ ≡ set (set w₂ 0 (word w 0 + 1)) 5 (word w 5 + insert_gain (read w) t)
    → w₃ ≡ entered w t
unfolding inserted read
insert_stored w w₁ w₂ w₃ vs t k h l ranked lower e₁ e₂ e₃ =
    let a = read w in
    let rows : List Row = map (lowered a t) a.rows in
    let row : Row = record { trial = t; kept = insert_gain a t } in
    let new : List Row = place (λ r. r.trial) row rows in
    let sized : length rows ≡ word w 0 = length-map a.rows (lowered a t) ∙ count_rows w in
    let grown : length new ≡ word w 0 + 1 = place_length (λ r. r.trial) row rows ∙ ap suc sized ∙ sym (add-one (word w 0)) in
    let old_long : length (records rows ++ []) ≡ 5 * word w 0 =
    ap length (append-nil (records rows)) ∙ length_records rows ∙ ap (λ k. 5 * k) sized in
    let new-long : length (records new) ≡ 5 * (word w 0 + 1) = length_records new ∙ ap (λ k. 5 * k) grown in
    let room : 8 + 5 * word w 1 ≤ length w = h.long in
    let first : w₁ ≡ put w 8 (records rows ++ []) = e₁ ∙ ap (λ x. put w 8 (records x)) lower ∙ ap (put w 8) (sym (append-nil (records rows))) in
    let read_again : rows_before w₁ (word w 0) ≡ rows =
    ap (λ x. rows_before x (word w 0)) first ∙ rows_put w rows [] (word w 0) (let s : 8 + length (records (map (lowered (read w) t) (read w).rows) ++ []) ≤ length w = omega arith in s) sized in
    let placed : take k rows ++ (row ∷ drop k rows) ≡ new =
    ap (λ i. take i rows ++ (row ∷ drop i rows)) (ranked ∙ ap (rank_of t) (sym (trials_lowered a t a.rows))) ∙ sym (place_ranked row rows) in
    let second : w₂ ≡ put w 8 (records new) =
    e₂
    ∙ ap₂ (λ x y. put x 8 (records (take k y ++ (row ∷ drop k y)))) first read_again
    ∙ ap (λ y. put (put w 8 (records rows ++ [])) 8 (records y)) placed
    ∙ put_over w 8 (records rows ++ []) (records new)
    (let s : 8 + length (records (map (lowered (read w) t) (read w).rows) ++ []) ≤ length w = omega arith in s)
    (let s : length (records (map (lowered (read w) t) (read w).rows) ++ []) ≤ length (records (place (λ r. r.trial) (record { trial = t; kept = insert_gain (read w) t }) (map (lowered (read w) t) (read w).rows))) = omega arith in s) in
    Stored.stored_beside w h w₂ w₃ (inserted a t) (word w 0 + 1) 0 refl grown (omega arith) (omega arith)
    (second ∙ ap (put w 8) (sym (append-nil (records new)))) e₃

pub insertion_stored : (w w₁ w₂ w₃ places counts : List ℕ) (t : Trial) (g k : ℕ) → InsertReady w t g places counts
    → k ≡ rank_of t (trials (rows_before w (word w 0)))
    → w₁ ≡ put w 8 (records (rekept (rows_before w (word w 0)) (moved (λ v m. v - m) (column 4 (rows_before w (word w 0))) (amounts_at (word w 0) places counts))))
    → w₂ ≡ put w₁ 8 (records (take k (rows_before w₁ (word w 0)) ++ (record { trial = t; kept = g } ∷ drop k (rows_before w₁ (word w 0)))))
    → w₃ ≡ set (set w₂ 0 (word w 0 + 1)) 5 (word w 5 + g)
    → w₃ ≡ entered w t
unfolding read
insertion_stored w w₁ w₂ w₃ places counts t g k h ranked e₁ e₂ e₃ =
    insert_stored w w₁ w₂ w₃ _ t k (passed w h.passes) h.free ranked
    (ap (λ l. rekept (read w).rows (moved (λ v m. v - m) (column 4 (read w).rows) l)) h.lowers.shared ∙ lowered_rows (read w) t (read w).rows) e₁
    (e₂ ∙ ap (λ x. put w₁ 8 (records (take k (rows_before w₁ (word w 0)) ++ (record { trial = t; kept = x } ∷ drop k (rows_before w₁ (word w 0)))))) h.gained)
    (e₃ ∙ ap (λ k. set (set w₂ 0 (word w 0 + 1)) 5 (word w 5 + k)) h.gained)

-- Where row 13 lets pass: what storing asks.
pub storing : {w : List ℕ} {t : Trial} {places counts : List ℕ} {m : Moved} → InsertMoves w t places counts m → archive_rows w 0 ≡ 0 → word w 0 < word w 1
    → InsertReady w t m.amount (take m.places places) (take m.places counts)
unfolding insert_overruns read
storing {w} {t} h p f =
    let parts = either_false _ _ h.judged in
    let within_box : ltb (box_of (read w)) (word w 5 + insert_gain (read w) t) ≡ false = parts.0 in
    record {
      passes = p;
      free = f;
      gained = h.gained;
      whole = rw h.gained (ltb-false (box_of (read w)) (word w 5 + insert_gain (read w) t) within_box);
      lowers = h.lowers;
      enough = ap (some_pair (λ v m. ltb v m) (column 4 (read w).rows)) h.lowers.shared ∙ sym (falls_below_pairs (read w) t (read w).rows) ∙ parts.1;
    }
