-- The least contributor found by going through the records: of those passed, the one at place b goes first.
use Prim.Native.Nat.{ℕ, ◌+◌, ◌≤◌, ◌<◌}
use mathlib.Core.Path.{◌≡◌, refl, sym, ap, ◌∙◌}
use mathlib.Core.Bool.{Bool, true, false}
use mathlib.Core.List.{List, ◌∷◌, []}
use native.Mathlib.Numerals.{add-one}
use native.Mathlib.Omega.{arith}
use borrow.Author.Tests.{lt-ltb, le-ltb, eq-eqb, ne_eqb}
use lib.ListN.{length, get_or, drop, drop_of_length-le}
use lib.Seq.{drop-cons}
use Rattle.slices.specs.Choices.{both, pick, either}
use Rattle.words.specs.Archive.{Row}
use Rattle.calls.specs.Calls.{number_first, goes_first, least_row, least_from}

-- Whether r goes first, by its tests.
pub first_less : (rule : ℕ) (r s : Row) → r.kept < s.kept → true ≡ goes_first rule r s
unfolding goes_first either
first_less rule r s l = rw (lt-ltb r.kept s.kept l)

pub first_equal : (rule : ℕ) (r s : Row) → s.kept ≤ r.kept → r.kept ≡ s.kept → number_first rule r.trial.number s.trial.number ≡ goes_first rule r s
unfolding goes_first either both
first_equal rule r s l e = rw (le-ltb r.kept s.kept l, eq-eqb r.kept s.kept e)

pub first_more : (rule : ℕ) (r s : Row) → s.kept ≤ r.kept → (r.kept ≡ s.kept → ⊥) → false ≡ goes_first rule r s
unfolding goes_first either both
first_more rule r s l e = rw (le-ltb r.kept s.kept l, ne_eqb r.kept s.kept e)

pub record Leading (rule : ℕ) (rows : List Row) (d : Row) (b i : ℕ) : Type 0 where
  pub part : i ≤ length rows
  pub best : b < i
  pub left : least_row rule rows ≡ least_from rule (get_or rows b d) (drop i rows)

pub leading_none : (rule : ℕ) (rows : List Row) (d : Row) → 0 < length rows → Leading rule rows d 0 1
unfolding least_row
leading_none rule [] d l = absurd (let no' : ⊥ = omega arith in no')
leading_none rule (r ∷ rows) d l = record { part = omega arith; best = omega arith; left = refl }

pub leading_more : {rule : ℕ} {rows : List Row} {d : Row} {b i : ℕ} → Leading rule rows d b i → i < length rows → Leading rule rows d (pick (goes_first rule (get_or rows i d) (get_or rows b d)) i b) (i + 1)
unfolding least_from pick
leading_more {rule} {rows} {d} {b} {i} h l = go (goes_first rule (get_or rows i d) (get_or rows b d)) opened_up
  where
    opened_up : least_row rule rows ≡ least_from rule (pick (goes_first rule (get_or rows i d) (get_or rows b d)) (get_or rows i d) (get_or rows b d)) (drop (i + 1) rows)
    opened_up = h.left ∙ ap (least_from rule (get_or rows b d)) (drop-cons rows i d l ∙ ap (λ k. get_or rows i d ∷ drop k rows) (sym (add-one i)))

    go : (t : Bool) → least_row rule rows ≡ least_from rule (pick t (get_or rows i d) (get_or rows b d)) (drop (i + 1) rows) → Leading rule rows d (pick t i b) (i + 1)
    go true e = record { part = omega arith; best = omega arith; left = e }
    go false e = record { part = omega arith; best = let best : b < i = h.best in omega arith; left = e }

pub leading_end : {rule : ℕ} {rows : List Row} {d : Row} {b i : ℕ} → Leading rule rows d b i → length rows ≤ i → get_or rows b d ≡ least_row rule rows
unfolding least_from
leading_end {rule} {rows} {d} {b} {i} h l = sym (h.left ∙ ap (least_from rule (get_or rows b d)) (drop_of_length-le rows l))
