-- The pass over the records: one record more, and the table of the numbers met.
use Prim.Native.Nat.{ℕ, zero, suc, ◌+◌, ◌-◌, ◌*◌, ◌≤◌, ◌<◌}
use mathlib.Core.Path.{◌≡◌, refl, sym, ap, ◌∙◌}
use mathlib.Core.Bool.{Bool, true, false, not}
use mathlib.Core.List.{List, ◌∷◌, ◌++◌, append_assoc, []}
use native.Mathlib.Numerals.{add-one}
use native.Mathlib.Omega.{arith}
use lib.ListN.{length, get_or, drop}
use borrow.Author.Count.{below_more}
use borrow.Author.Tests.{not-true, not-false}
use Rattle.slices.specs.Choices.{both}
use Rattle.hypervolume.specs.Cells.{box}
use Rattle.slices.proofs.Choices.{both_comm}
use Rattle.words.specs.Archive.{Trial, Shape, reference, trials, before}
use Rattle.words.specs.Format.{row_allowed, rows_allowed, ordered, distinct, sound_rows}
use Rattle.words.specs.Layout.{word, read_rows, read_shape, read}
use Rattle.words.specs.Places.{row_at, rows_before, follows, repeated, stands, AtPlace, Headed}
use Rattle.words.specs.Table.{marked, Marking}
use Rattle.words.proofs.Held.{held_nowhere}
use Rattle.words.proofs.Passed.{HeaderFacts, header_facts, passed}
use Rattle.words.proofs.Places.{row_at_number, rows_before_at, rows_before_more}
use Rattle.words.proofs.Reading.{length_read_rows, read_rows_append}
use Rattle.words.proofs.SoundRows.{trials_append, rows_allowed_append, distinct_snoc, ordered_snoc, sound_rows_part}

-- One record more.
trials_more : (w : List ℕ) (i : ℕ) → trials (rows_before w (i + 1)) ≡ trials (rows_before w i) ++ ((row_at w i).trial ∷ [])
unfolding trials
trials_more w i = ap trials (rows_before_more w i) ∙ trials_append (rows_before w i) (row_at w i ∷ [])

ordered_more : (w : List ℕ) (i : ℕ) → ordered (trials (rows_before w (i + 1))) ≡ both (ordered (trials (rows_before w i))) (follows w i)
unfolding ordered follows trials read_rows both
ordered_more w zero = refl
ordered_more w (suc i) =
    let t : Trial = (row_at w i).trial in
    let u : Trial = (row_at w (suc i)).trial in
    let last : trials (rows_before w (suc i)) ≡ trials (rows_before w i) ++ (t ∷ []) =
    ap (λ k. trials (rows_before w k)) (sym (add-one i)) ∙ trials_more w i in
    ap ordered
    (trials_more w (suc i)
    ∙ ap (λ l. l ++ (u ∷ [])) last
    ∙ append_assoc (trials (rows_before w i)) (t ∷ []) (u ∷ []))
    ∙ ordered_snoc (trials (rows_before w i)) t u
    ∙ ap (λ l. both (ordered l) (before t u)) (sym last)

pub sound_rows_more : (w : List ℕ) (i : ℕ) → sound_rows (read_shape w) (rows_before w (i + 1)) ≡ both (sound_rows (read_shape w) (rows_before w i)) (stands w i)
unfolding sound_rows stands rows_allowed both
sound_rows_more w i =
    let s : Shape = read_shape w in
    let rows : rows_allowed s (rows_before w (i + 1)) ≡ both (rows_allowed s (rows_before w i)) (both (row_allowed s (row_at w i)) true) =
    ap (rows_allowed s) (rows_before_more w i) ∙ rows_allowed_append s (rows_before w i) (row_at w i ∷ []) in
    let apart : distinct (trials (rows_before w (i + 1)))
    ≡ both (distinct (trials (rows_before w i))) (not (repeated w i)) =
    ap distinct (trials_more w i) ∙ distinct_snoc (trials (rows_before w i)) (row_at w i).trial in
    rw (rows, ordered_more w i, apart)
    (shuffle (rows_allowed s (rows_before w i)) (ordered (trials (rows_before w i))) (distinct (trials (rows_before w i)))
    (row_allowed s (row_at w i)) (follows w i) (not (repeated w i)))
  where
    shuffle : (a o d r f h : Bool) → both (both a (both r true)) (both (both o f) (both d h)) ≡ both (both a (both o d)) (both r (both f h))
    shuffle false o d r f h = refl
    shuffle true o d false f h = both_comm false (both o d)
    shuffle true false d true f h = refl
    shuffle true true true true f h = refl
    shuffle true true false true f h = both_comm f false

-- The pass over the records at place i: those before it stand, and the table has their numbers.
pub record Checked (w : List ℕ) (cells : ℕ) (table : List ℕ) (i : ℕ) : Type 0 where
  pub inside : i ≤ word w 0
  pub room : 8 + 5 * word w 0 ≤ length w
  pub boxed : cells ≡ box (reference (read_shape w))
  pub stand : sound_rows (read_shape w) (rows_before w i) ≡ true
  pub met : (k : ℕ) → k < i → marked table (row_at w k).trial.number ≡ true
  pub sized : length table ≡ 1024

pub checked_none : (w : List ℕ) (cells : ℕ) (table : List ℕ) → Headed w → cells ≡ box (reference (read_shape w)) → length table ≡ 1024 → Checked w cells table 0
unfolding sound_rows rows_allowed ordered distinct trials read_rows both
checked_none w cells table h boxed sized =
    let facts : HeaderFacts w = header_facts w h in
    record {
      inside = omega arith;
      room = omega arith;
      boxed = boxed;
      stand = refl;
      met = λ k k<0. absurd (let no : ⊥ = omega arith in no);
      sized = sized;
    }

pub checked_more : (w : List ℕ) (cells : ℕ) (table after : List ℕ) (i : ℕ) (t : Bool) → Checked w cells table i → i < word w 0
    → t ≡ stands w i → not t ≡ false → Marking table after (word w (8 + 5 * i)) → length after ≡ length table
    → Checked w cells after (i + 1)
unfolding both
checked_more w cells table after i t st l test passed m sized =
    let stand : stands w i ≡ true = sym test ∙ not-false t passed in
    record {
      inside = omega arith;
      room = st.room;
      boxed = st.boxed;
      stand = rw (sound_rows_more w i, st.stand, stand);
      met = below_more _ i (λ k k<i. m.stays _ (st.met k k<i)) (rw (row_at_number w i) m.set);
      sized = sized ∙ st.sized;
    }

-- A record whose bit is clear has no earlier one of its number.
unmet : (w : List ℕ) (cells : ℕ) (table : List ℕ) (i : ℕ) → Checked w cells table i → marked table (word w (8 + 5 * i)) ≡ false
    → repeated w i ≡ false
unmet w cells table i st clear =
    held_nowhere (row_at w i).trial.number (rows_before w i) (row_at w i)
    (λ k k<i. absent k (omega (arith, length_read_rows i (drop 8 w))))
  where
    absent : (k : ℕ) → k < i → (get_or (rows_before w i) k (row_at w i)).trial.number ≡ (row_at w i).trial.number → ⊥
    absent k k<i e =
        let number : (row_at w k).trial.number ≡ (row_at w i).trial.number =
        ap (λ r. r.trial.number) (sym (rows_before_at w i k (row_at w i) k<i)) ∙ e in
        let both_ways : true ≡ false = sym (st.met k k<i) ∙ ap (marked table) (number ∙ row_at_number w i) ∙ clear in
        let none : ◌≡◌ {A = ℕ} 0 1 = cc in
        let no : ⊥ = omega arith in
        no

pub checked_place : (w : List ℕ) (cells : ℕ) (table : List ℕ) (i : ℕ) (met : Bool) → Checked w cells table i → i < word w 0
    → met ≡ marked table (word w (8 + 5 * i)) → AtPlace w cells i met
checked_place w cells table i met st l e =
    let room : 8 + 5 * word w 0 ≤ length w = st.room in
    record { inside = omega arith; boxed = st.boxed; unmet = λ clear. unmet w cells table i st (sym e ∙ clear) }

pub checked_stop : (w : List ℕ) (cells : ℕ) (table : List ℕ) (i : ℕ) (t : Bool) → Checked w cells table i → i < word w 0
    → t ≡ stands w i → not t ≡ true → false ≡ sound_rows (read_shape w) (read w).rows
unfolding read both
checked_stop w cells table i t st l test refused =
    let broken : stands w i ≡ false = sym test ∙ not-true t refused in
    let rest : word w 0 ≡ i + 1 + (word w 0 - (i + 1)) = omega arith in
    let here : sound_rows (read_shape w) (rows_before w (i + 1)) ≡ false = rw (sound_rows_more w i, st.stand, broken) in
    sym
    (ap (λ n. sound_rows (read_shape w) (rows_before w n)) rest
    ∙ ap (sound_rows (read_shape w)) (read_rows_append (i + 1) (word w 0 - (i + 1)) (drop 8 w))
    ∙ sound_rows_part (read_shape w) (rows_before w (i + 1)) _ here)

pub checked_end : (w : List ℕ) (cells : ℕ) (table : List ℕ) (i : ℕ) → Checked w cells table i → word w 0 ≤ i
    → true ≡ sound_rows (read_shape w) (read w).rows
unfolding read
checked_end w cells table i st l =
    let end : i ≡ word w 0 = omega arith in
    sym (rw (sym end) st.stand)
