-- Laws of line 1 as it is judged.
use Prim.Native.Nat.{ℕ}
use mathlib.Core.Path.{◌≡◌, sym, ap, ◌∙◌}
use mathlib.Core.List.{List}
use mathlib.Core.Option.{none, some}
use native.Mathlib.Omega.{arith}
use lib.ListN.{drop}
use Rattle.std.specs.Prelude.{Option, None, Some}
use Rattle.std.specs.Option.{option_flatten}
use Rattle.text.specs.declared.Line.{Line}
use Rattle.text.specs.Lines.{Numbers, numbers_of}
use Rattle.calls.specs.Calls.{empty}
use Rattle.calls.specs.Lent.{start_rows}
use Rattle.card.specs.declared.Loaded.{Loaded}
use Rattle.card.specs.Card.{shape_on, lines, due, due_of}
use Rattle.card.specs.Verdict.{in_turn, judge_further, judge, answer_of}
use Rattle.card.proofs.CardLines.{inside, lines_due, no_lines_due}
use Rattle.card.proofs.Verdicts.{in_turn_refused, in_turn_passed, answers_refusal}

module _ (room : ℕ) (card : List ℕ) where
  -- No line, or one that is not of the form.
  pub no_first : {r : Loaded} → none ≡ due card 1 → r ≡ record { refusal = 15; line = 1; count = 0 } → r ≡ answer_of (judge room (lines card))
  unfolding judge
  no_first e = answers_refusal (ap (judge room) (no_lines_due card {line = 1} (omega arith) e))

  pub bad_first : {r : Loaded} → some none ≡ due card 1 → r ≡ record { refusal = 15; line = 1; count = 0 } → r ≡ answer_of (judge room (lines card))
  unfolding judge
  bad_first e = answers_refusal (ap (judge room) (lines_due card (inside card e)))

  pub no_line : (o : Option (Option Line)) → option_flatten o ≡ None → due_of o ≡ due card 1
      → {r : Loaded} → r ≡ record { refusal = 15; line = 1; count = 0 } → r ≡ answer_of (judge room (lines card))
  no_line None n e = no_first e
  no_line (Some None) n e = bad_first e
  no_line (Some (Some l)) n e = absurd (cc)

  -- A line of the form.
  pub the_line : (o : Option (Option Line)) (l : Line) → option_flatten o ≡ Some l → due_of o ≡ due card 1 → some (numbers_of (Some l)) ≡ due card 1
  the_line None l n e = absurd (cc)
  the_line (Some None) l n e = absurd (cc)
  the_line (Some (Some k)) l n e =
      let same : k ≡ l = cc in
      rw same at e

  module _ (v : Numbers) (e : some (some v) ≡ due card 1) {k : ℕ} (row : k ≡ start_rows room (shape_on v)) where
    first_in_turn : judge room (lines card) ≡ in_turn k 1 (judge_further (empty (shape_on v)) (lines (drop 33 card)))
    unfolding judge
    first_in_turn = rw row (ap (judge room) (lines_due card (inside card e)))

    pub first_refused : {r : Loaded} → (k ≡ 0 → ⊥) → r ≡ record { refusal = k; line = 1; count = 0 } → r ≡ answer_of (judge room (lines card))
    first_refused other = answers_refusal (first_in_turn ∙ in_turn_refused k 1 _ other)

    pub first_passed : {r : Loaded} → k ≡ 0 → r ≡ answer_of (judge_further (empty (shape_on v)) (lines (drop 33 card)))
        → r ≡ answer_of (judge room (lines card))
    first_passed done said = said ∙ ap answer_of (sym (first_in_turn ∙ in_turn_passed k 1 _ done))
