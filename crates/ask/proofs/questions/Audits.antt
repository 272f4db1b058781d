-- The audit: the kept total and front, and the kept contributions beside their counts, pair by pair.
use Prim.Native.Nat.{ℕ}
use mathlib.Core.Path.{◌≡◌, refl, sym, ap, ap₂, ◌∙◌}
use mathlib.Core.Bool.{Bool, true, false, not}
use mathlib.Core.List.{List, ◌∷◌, map, []}
use lib.Dec.{eqb}
use borrow.Author.Tests.{eq-eqb, ne_eqb}
use lib.ListN.{length, take}
use lib.Seq.{take_at}
use Rattle.slices.specs.Choices.{both, either}
use Rattle.slices.specs.Amounts.{some_pair}
use Rattle.hypervolume.specs.Counts.{total, contribution, contributions}
use Rattle.hypervolume.specs.Front.{front}
use Rattle.words.specs.Archive.{Row, Archive, point, trials, points}
use Rattle.words.specs.Layout.{read, word, record_words}
use Rattle.words.specs.Places.{rows_before}
use Rattle.calls.specs.Calls.{reference_of, held_points, rows_counted, audited}
use Rattle.records.specs.Columns.{field_of, column}
use Rattle.records.proofs.HeldPoints.{length_points}
use Rattle.ask.specs.RecordCounts.{CountedAll}
use Rattle.ask.proofs.questions.Joints.{length_each}
use Rattle.calls.proofs.Known.{count_rows}

-- Each contribution equals its count: no pair of them differs.
agreeing : (b c d : Bool) → c ≡ not d → both b c ≡ not (either (not b) d)
unfolding both either
agreeing true c d e = e
agreeing false c d e = refl

pub counted_pairs : (a : Archive) (rows : List Row)
    → rows_counted a rows ≡ not (some_pair (λ v m. not (eqb v m)) (column 4 rows) (map (λ t. contribution (reference_of a) (held_points a) t) (points (trials rows))))
unfolding rows_counted some_pair column field_of record_words points trials
counted_pairs a [] = refl
counted_pairs a (r ∷ rows) = agreeing (eqb r.kept (contribution (reference_of a) (held_points a) (point r.trial))) _ _ (counted_pairs a rows)

-- As many points as trials.
pub many_points : (w : List ℕ) {ps : List (List ℕ)} → ps ≡ held_points (read w) → length ps ≡ word w 0
many_points w e = ap length e ∙ length_points (read w).rows ∙ count_rows w

-- The counts in front of what the slice held.
pub counts_front : (w before after : List ℕ) (r : ℕ) → CountedAll w before after r
    → take (word w 0) after ≡ contributions (reference_of (read w)) (held_points (read w))
unfolding contributions
counts_front w before after r c =
    ap (take (word w 0)) c.each
    ∙ take_at (contributions (reference_of (read w)) (held_points (read w))) _ (word w 0) (length_each _ (read w).rows ∙ count_rows w)

pub total_differs : (w : List ℕ) (r : ℕ) → r ≡ total (reference_of (read w)) (held_points (read w)) → (word w 5 ≡ r → ⊥) → false ≡ audited (read w)
unfolding audited both read
total_differs w r e n = sym (rw (ne_eqb (word w 5) (total (reference_of (read w)) (held_points (read w))) (λ z. n (z ∙ sym e))))

pub front_differs : (w : List ℕ) (r f : ℕ) → r ≡ total (reference_of (read w)) (held_points (read w)) → word w 5 ≡ r → f ≡ front (held_points (read w)) → (word w 6 ≡ f → ⊥) → false ≡ audited (read w)
unfolding audited both read
front_differs w r f e s g n =
    sym (rw (eq-eqb (word w 5) (total (reference_of (read w)) (held_points (read w))) (s ∙ e), ne_eqb (word w 6) (front (held_points (read w))) (λ z. n (z ∙ sym g))))

pub all_equal : (w ms : List ℕ) (r f : ℕ) (b : Bool) → r ≡ total (reference_of (read w)) (held_points (read w)) → word w 5 ≡ r → f ≡ front (held_points (read w)) → word w 6 ≡ f
    → ms ≡ contributions (reference_of (read w)) (held_points (read w))
    → b ≡ some_pair (λ v m. not (eqb v m)) (column 4 (rows_before w (length ms))) ms → not b ≡ audited (read w)
unfolding audited both read contributions
all_equal w ms r f b e s g t m d =
    let many : length ms ≡ word w 0 = ap length m ∙ length_each _ (read w).rows ∙ count_rows w in
    ap not (d ∙ ap₂ (λ n l. some_pair (λ v m. not (eqb v m)) (column 4 (rows_before w n)) l) many m)
    ∙ sym (counted_pairs (read w) (read w).rows)
    ∙ sym (ap₂ (λ t u. both t (both u (rows_counted (read w) (read w).rows))) (eq-eqb (word w 5) _ (s ∙ e)) (eq-eqb (word w 6) _ (t ∙ g)))
