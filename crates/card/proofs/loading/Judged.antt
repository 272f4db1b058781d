-- What loading and checking make of a judgement.
use Prim.Native.Nat.{ℕ, ◌≤◌}
use mathlib.Core.Path.{◌≡◌, sym, ap, ◌∙◌}
use mathlib.Core.List.{List}
use native.Mathlib.Omega.{arith}
use lib.ListN.{length}
use Rattle.words.specs.Layout.{extent}
use Rattle.std.specs.Prelude.{Result, Ok, Err, IfErr}
use Rattle.card.specs.declared.CardError.{CardError}
use Rattle.card.specs.declared.Loaded.{Loaded}
use Rattle.card.specs.Card.{lines, load, ReadInto}
use Rattle.card.specs.Check.{packed, check}
use Rattle.card.specs.Verdict.{Verdict, refusal, archive, judge, answer_of}
use Rattle.card.specs.Outcomes.{loaded_of}
use Rattle.card.specs.Theorems.{TurnedDown, form, shape, slice, number, coordinate, held, full}
use Rattle.card.proofs.Verdicts as verdicts
use Rattle.card.proofs.Theorems.{load_answer, load_stays, check_answer}

module _ (w card : List ℕ) {a : Loaded} (judged : a ≡ answer_of (judge (length w) (lines card))) where
  answers : a ≡ (load w card).answer
  answers = judged ∙ sym (load_answer w card)

  pub load_refused : (a.refusal ≡ 0 → ⊥) → (a ≡ (load w card).answer) × (w ≡ (load w card).words)
  load_refused other = (answers, sym (load_stays w card (λ e. other (ap (λ x. x.refusal) answers ∙ e))))

  pub load_done : {r : Loaded} {after : List ℕ} → a.refusal ≡ 0 → ReadInto (load w card) r after
      → (r ≡ (load w card).answer) × (after ≡ (load w card).words)
  load_done none read = (read.answer, read.words (ap (λ x. x.refusal) (read.answer ∙ sym answers) ∙ none))

small_row : {n line : ℕ} → TurnedDown n line → (n ≤ 15) × (line ≤ 514)
small_row (form l h) = (omega arith, h)
small_row shape = (omega arith, omega arith)
small_row slice = (omega arith, omega arith)
small_row (number l h) = (omega arith, h)
small_row (coordinate l h) = (omega arith, h)
small_row (held l h) = (omega arith, h)
small_row (full l h) = (omega arith, h)

small : (v : Verdict) → verdicts.Possible v → ((answer_of v).refusal ≤ 15) × ((answer_of v).line ≤ 514)
unfolding answer_of
small (refusal n line) (verdicts.refused d) = small_row d
small (archive a) (verdicts.accepted f) = (omega arith, omega arith)

module _ (card : List ℕ) {r : Loaded} (judged : r ≡ answer_of (judge 2568 (lines card))) where
  pub small_answer : (r.refusal ≤ 15) × (r.line ≤ 514)
  small_answer = rw judged (small (judge 2568 (lines card)) (verdicts.possible 2568 (lines card)))

module _ (card : List ℕ) (r : Result ℕ CardError) (judged : loaded_of r ≡ answer_of (judge 2568 (lines card))) where
  pub checked : packed (loaded_of r) ≡ check card
  unfolding extent
  checked = ap packed judged ∙ sym (check_answer card)

  pub line_few : IfErr r (λ error. error.line ≤ 514)
  line_few = at r (small_answer card judged).1
    where
      at : (r : Result ℕ CardError) → (loaded_of r).line ≤ 514 → IfErr r (λ error. error.line ≤ 514)
      at (Ok count) l = tt
      at (Err error) l = l
