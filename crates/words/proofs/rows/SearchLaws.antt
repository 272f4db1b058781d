-- The loop of search.
use Prim.Native.Nat.{ℕ, ◌+◌, ◌*◌, ◌≤◌, ◌<◌}
use mathlib.Core.Path.{◌≡◌, sym, ap, ◌∙◌}
use mathlib.Core.List.{List}
use native.Mathlib.Nat.{le_refl}
use native.Mathlib.Omega.{arith}
use lib.ListN.{length, get_or, drop}
use borrow.Author.Count.{below_more}
use borrow.Author.Tests.{lt-ltb, le-ltb}
use Rattle.words.specs.Archive.{Row, trials}
use Rattle.words.specs.Format.{held}
use Rattle.words.specs.Layout.{word}
use Rattle.words.specs.Places.{row_at, rows_before, Found}
use Rattle.words.proofs.Held.{held_at, held_nowhere}
use Rattle.words.proofs.Places.{row_at_number, rows_before_at}
use Rattle.words.proofs.Reading.{length_read_rows}

-- A search: no record before place i has the number.
pub record Unfound (w : List ℕ) (n number i : ℕ) : Type 0 where
  pub inside : i ≤ n
  pub none : (k : ℕ) → k < i → (row_at w k).trial.number ≡ number → ⊥

pub search_none : (w : List ℕ) (n number : ℕ) → Unfound w n number 0
search_none w n number = record { inside = omega arith; none = λ k l. absurd (let no : ⊥ = omega arith in no) }

pub search_more : (w : List ℕ) (n number i : ℕ) → Unfound w n number i → i < n → (word w (8 + 5 * i) ≡ number → ⊥) → Unfound w n number (i + 1)
search_more w n number i u l other =
    record { inside = omega arith; none = below_more _ i u.none (λ e. other (sym (row_at_number w i) ∙ e)) }

pub search_stop : (w : List ℕ) (n number i : ℕ) → Unfound w n number i → i < n → word w (8 + 5 * i) ≡ number → Found w n number i
search_stop w n number i u l e =
    let rows : List Row = rows_before w n in
    let there : (row_at w i).trial.number ≡ number = row_at_number w i ∙ e in
    let inside : i < length rows = omega (arith, length_read_rows n (drop 8 w)) in
    let same : (get_or rows i (row_at w i)).trial.number ≡ number =
    ap (λ r. r.trial.number) (rows_before_at w n i (row_at w i) l) ∙ there in
    record {
      inside = omega arith;
      holds = ap (λ m. held m (trials rows)) (sym same) ∙ held_at rows i (row_at w i) inside ∙ sym (lt-ltb i n l);
      there = λ _. there;
      first = u.none;
    }

pub search_end : (w : List ℕ) (n number i : ℕ) → Unfound w n number i → n ≤ i → Found w n number n
search_end w n number i u l =
    let rows : List Row = rows_before w n in
    record {
      inside = le_refl n;
      holds = held_nowhere number rows (row_at w i) (λ k k<n. absent k (omega (arith, length_read_rows n (drop 8 w)))) ∙ sym (le-ltb n n (le_refl n));
      there = λ n<n. absurd (let no : ⊥ = omega arith in no);
      first = λ k k<n. u.none k (omega (arith, u.inside));
    }
  where
    absent : (k : ℕ) → k < n → (get_or (rows_before w n) k (row_at w i)).trial.number ≡ number → ⊥
    absent k k<n e =
        u.none k (omega arith)
        (ap (λ r. r.trial.number) (sym (rows_before_at w n k (row_at w i) k<n)) ∙ e)
