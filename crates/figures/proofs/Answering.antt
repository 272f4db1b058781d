-- The answer, field by field where no row turns the call down, and row by row where one does.
use Prim.Native.Nat.{ℕ, zero, suc, ◌-◌, ◌*◌, ◌/◌, ◌≤◌}
use mathlib.Core.Path.{◌≡◌, refl, sym, ap, ◌∙◌}
use mathlib.Core.Bool.{Bool, true, false}
use mathlib.Core.List.{List}
use lib.ListN.{length, get_or}
use Rattle.rounding.specs.Nearest.{nearest}
use Rattle.hypervolume.specs.Cells.{holds}
use Rattle.words.specs.Archive.{Archive}
use Rattle.words.specs.Layout.{read}
use Rattle.words.specs.Format.{guard, within}
use Rattle.words.proofs.Passed.{within_bounds}
use Rattle.calls.specs.Calls.{box_of, audited}
use Rattle.fleet.specs.Fleet.{archives, fleet_rows, every}
use Rattle.fleet.proofs.Fleet.{fleet_passes, fleet_refused}
use Rattle.figures.specs.declared.answer.FiguresAnswer.{FiguresAnswer}
use Rattle.figures.specs.Figures.{reference_rows, totals, sum, ascending, ranked, least, greatest, median, of_one_reference, median_share, figures_rows, figures_answer, figures}
use Rattle.figures.specs.Runs.{Runs}
use Rattle.figures.proofs.Boxes.{length_totals, common_first}

-- The answer, field by field.
pub answer_is : {w starts : List ℕ} → Runs w starts → {t s : List ℕ} {sums share audits : ℕ} → t ≡ totals (archives (length starts) w) → s ≡ ascending t → sums ≡ sum t
    → share ≡ nearest (get_or s ((length starts - 1) / 2) 0 * 1000000) (box_of (read w)) → audits ≡ holds (every audited (archives (length starts) w))
    → record {
      refusal = 0;
      sum = sums;
      least = get_or s 0 0;
      greatest = get_or s (length starts - 1) 0;
      median = get_or s ((length starts - 1) / 2) 0;
      share = share;
      audits = audits;
    }
    ≡ figures_answer 0 (archives (length starts) w)
unfolding figures_answer least greatest median ranked median_share
answer_is {w} {starts} h e f g i j =
    rw (j, i, g, f, e, length_totals (length starts) w, common_first (length starts) w h.some)

-- The answers of a refusal, row by row.
abbrev zeros : ℕ → FiguresAnswer
zeros row = record { refusal = row; sum = 0; least = 0; greatest = 0; median = 0; share = 0; audits = 0 }

refused_answer : (row : ℕ) (fleet : List Archive) → (row ≡ 0 → ⊥) → zeros row ≡ figures_answer row fleet
unfolding figures_answer
refused_answer zero fleet off = absurd (off refl)
refused_answer (suc row) fleet off = refl

module _ (w : List ℕ) (n : ℕ) where
  pub references_differ : {r : FiguresAnswer} {alike : Bool} → alike ≡ of_one_reference (archives n w) → alike ≡ false → r ≡ zeros 23 → r ≡ figures_answer (reference_rows (archives n w)) (archives n w)
  unfolding reference_rows guard figures_answer
  references_differ e f g = g ∙ rw (← e, f)

  pub references_alike : {r : FiguresAnswer} {alike : Bool} → alike ≡ of_one_reference (archives n w) → alike ≡ true → r ≡ figures_answer 0 (archives n w)
      → r ≡ figures_answer (reference_rows (archives n w)) (archives n w)
  unfolding reference_rows guard
  references_alike e f g = g ∙ rw (← e, f)

  pub one_refused : {r : FiguresAnswer} {row : ℕ} → row ≡ fleet_rows n w 0 → (row ≡ 0 → ⊥) → r ≡ zeros row → r ≡ figures_answer (fleet_rows n w (reference_rows (archives n w))) (archives n w)
  one_refused {r} {row} e off g =
      g ∙ refused_answer row (archives n w) off ∙ ap (λ k. figures_answer k (archives n w)) (e ∙ sym (fleet_refused n w (reference_rows (archives n w)) (λ z. off (e ∙ z))))

  pub all_passed : {r : FiguresAnswer} {m : ℕ} → m ≡ n → fleet_rows n w 0 ≡ 0 → r ≡ figures_answer (reference_rows (archives m w)) (archives m w) → r ≡ figures_answer (fleet_rows n w (reference_rows (archives n w))) (archives n w)
  all_passed long e g =
      g ∙ ap (λ k. figures_answer (reference_rows (archives k w)) (archives k w)) long
      ∙ ap (λ k. figures_answer k (archives n w)) (sym (fleet_passes n w (reference_rows (archives n w)) e))

  pub number_refused : {r : FiguresAnswer} {some : Bool} → some ≡ within 1 15 n → some ≡ false → r ≡ zeros 23 → r ≡ figures w n
  unfolding figures figures_rows guard figures_answer
  number_refused e f g = g ∙ rw (← e, f)

  pub number_allowed : {r : FiguresAnswer} {some : Bool} {m : ℕ} → m ≡ n → some ≡ within 1 15 n → some ≡ true
      → r ≡ figures_answer (fleet_rows m w (reference_rows (archives m w))) (archives m w) → r ≡ figures w n
  unfolding figures figures_rows guard
  number_allowed long e f g = g ∙ ap (λ k. figures_answer (fleet_rows k w (reference_rows (archives k w))) (archives k w)) long ∙ rw (← e, f)

pub numbered : (number : ℕ) {some : Bool} → some ≡ within 1 15 number → some ≡ true → (1 ≤ number) × (number ≤ 15)
numbered number e f = within_bounds 1 15 number (sym e ∙ f)
