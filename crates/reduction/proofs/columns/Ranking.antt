-- The loop that ranks: of the records passed, the best one goes first.
use Prim.Native.Nat.{ℕ, ◌+◌, ◌≤◌, ◌<◌}
use mathlib.Core.Path.{◌≡◌, refl, sym, ap, ap₂, ◌∙◌}
use mathlib.Core.Bool.{Bool, true, false}
use mathlib.Core.List.{List}
use native.Mathlib.Omega.{arith}
use lib.ListN.{length, get_or, get_or-map}
use Rattle.slices.specs.Choices.{pick}
use Rattle.words.specs.Archive.{Row}
use Rattle.words.specs.Layout.{read_row, record_words}
use Rattle.calls.specs.Calls.{goes_first}
use Rattle.records.specs.Columns.{field_of, column}
use Rattle.records.proofs.Columns.{length_column}
use Rattle.records.proofs.RowAt.{blank}
use Rattle.calls.proofs.Leading.{first_more, Leading, leading_none, leading_more, leading_end}
use Rattle.records.specs.Ranks.{ranked_row, precedes}
use Rattle.reduction.specs.Columns.{LeastAt}

-- A field of the record at a place, from its column.
pub column_at : (k : ℕ) (rows : List Row) (i : ℕ) → field_of k blank ≡ 0 → get_or (column k rows) i 0 ≡ field_of k (get_or rows i blank)
unfolding column
column_at k rows i e = ap (get_or (column k rows) i) (sym e) ∙ get_or-map (field_of k) rows i blank

pub number_in : (rows : List Row) (i : ℕ) → get_or (column 0 rows) i 0 ≡ (get_or rows i blank).trial.number
unfolding field_of record_words read_row
number_in rows i = column_at 0 rows i refl

pub kept_in : (rows : List Row) (i : ℕ) → get_or (column 4 rows) i 0 ≡ (get_or rows i blank).kept
unfolding field_of record_words read_row
kept_in rows i = column_at 4 rows i refl

-- Whether the record at one place goes before that at another, from their columns.
abbrev goes_in : (rule : ℕ) → List ℕ → List ℕ → ℕ → ℕ → Bool
goes_in rule numbers kept i j = precedes rule (get_or numbers i 0) (get_or kept i 0) (get_or numbers j 0) (get_or kept j 0)

goes_in_rows : (rule : ℕ) (rows : List Row) (i j : ℕ) → goes_in rule (column 0 rows) (column 4 rows) i j ≡ goes_first rule (get_or rows i blank) (get_or rows j blank)
unfolding goes_first
goes_in_rows rule rows i j = rw (number_in rows i, number_in rows j, kept_in rows i, kept_in rows j)

pub record RankedSoFar (rule : ℕ) (numbers kept : List ℕ) (best number least i : ℕ) : Type 0 where
  pub part : i ≤ length numbers
  pub inside : best < i
  pub numbered : number ≡ get_or numbers best 0
  pub is : least ≡ get_or kept best 0
  pub leads : (rows : List Row) → column 0 rows ≡ numbers → column 4 rows ≡ kept → Leading rule rows blank best i

rows_long : (rows : List Row) (numbers : List ℕ) → column 0 rows ≡ numbers → length rows ≡ length numbers
rows_long rows numbers e = sym (length_column 0 rows) ∙ ap length e

pub ranked_none : (rule : ℕ) (numbers kept : List ℕ) → 0 < length numbers → RankedSoFar rule numbers kept 0 (get_or numbers 0 0) (get_or kept 0 0) 1
ranked_none rule numbers kept l =
    record {
      part = omega arith;
      inside = omega arith;
      numbered = refl;
      is = refl;
      leads = λ rows e f. let long : length rows ≡ length numbers = rows_long rows numbers e in leading_none rule rows blank (omega arith);
    }

module _ {rule : ℕ} {numbers kept : List ℕ} {best number least i : ℕ} (h : RankedSoFar rule numbers kept best number least i) (l : i < length numbers) where
  next_leads : (t : Bool) → goes_in rule numbers kept i best ≡ t → (rows : List Row) → column 0 rows ≡ numbers → column 4 rows ≡ kept → Leading rule rows blank (pick t i best) (i + 1)
  next_leads t et rows e f =
      let long : length rows ≡ length numbers = rows_long rows numbers e in
      let test : goes_first rule (get_or rows i blank) (get_or rows best blank) ≡ t = sym (goes_in_rows rule rows i best) ∙ ap₂ (λ x y. goes_in rule x y i best) e f ∙ et in
      rw test at (leading_more (h.leads rows e f) (let m : i < length rows = omega arith in m))

  own_test : precedes rule (get_or numbers i 0) (get_or kept i 0) number least ≡ goes_in rule numbers kept i best
  own_test = rw (h.numbered, h.is)

  -- A record that does not go first changes nothing; one that contributes more does not.
  pub ranked_stay : precedes rule (get_or numbers i 0) (get_or kept i 0) number least ≡ false → RankedSoFar rule numbers kept best number least (i + 1)
  unfolding pick
  ranked_stay no_first =
      record {
        part = omega arith;
        inside = omega (arith, h.inside);
        numbered = h.numbered;
        is = h.is;
        leads = next_leads false (sym own_test ∙ no_first);
      }

  pub ranked_skip : least < get_or kept i 0 → RankedSoFar rule numbers kept best number least (i + 1)
  ranked_skip more = ranked_stay (sym (first_more rule (ranked_row (get_or numbers i 0) (get_or kept i 0)) (ranked_row number least) (omega arith) (λ e. omega arith)))

  pub ranked_first : precedes rule (get_or numbers i 0) (get_or kept i 0) number least ≡ true → RankedSoFar rule numbers kept i (get_or numbers i 0) (get_or kept i 0) (i + 1)
  unfolding pick
  ranked_first is-first =
      record {
        part = omega arith;
        inside = omega arith;
        numbered = refl;
        is = refl;
        leads = next_leads true (sym own_test ∙ is-first);
      }

pub ranked_end : {rule : ℕ} {numbers kept : List ℕ} {best number least i : ℕ} → RankedSoFar rule numbers kept best number least i → length numbers ≤ i → (best < length numbers) × LeastAt rule numbers kept best
ranked_end {rule} {numbers} {kept} {best} {number} {least} {i} h l =
    let part : i ≤ length numbers = h.part in
    let inside : best < i = h.inside in (
      omega arith,
      λ rows e f. let long : length rows ≡ length numbers = rows_long rows numbers e in leading_end (h.leads rows e f) (omega arith),
    )
