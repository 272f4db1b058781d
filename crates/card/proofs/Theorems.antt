-- The proofs of what specs/Theorems states.
use Prim.Native.Nat.{ℕ, ◌*◌, ◌≤◌}
use mathlib.Core.Path.{◌≡◌, refl, sym, ap, ◌∙◌}
use mathlib.Core.List.{List, ◌++◌}
use native.Mathlib.Omega.{arith}
use lib.ListN.{length, take, drop, replicate, length-replicate}
use lib.Seq.{take-take}
use Rattle.words.specs.Layout.{extent, read, layout}
use Rattle.words.proofs.Reading.{read_layout, behind_layout}
use Rattle.words.proofs.Passed.{sound_passes}
use Rattle.card.specs.Card.{lines, load}
use Rattle.card.specs.Check.{packed, check}
use Rattle.card.specs.Verdict.{Verdict, refusal, archive, judge, answer_of, words_of, carried_out}
use Rattle.card.specs.Theorems.{TurnedDown, form, shape, slice, number, coordinate, held, full, Accepted, Loads, Checks, Cards}
use Rattle.card.proofs.CardLines.{lines_take}
use Rattle.card.proofs.Judging.{loads}
use Rattle.card.proofs.Verdicts as verdicts

pub not_zero : {n line : ℕ} → TurnedDown n line → n ≡ 0 → ⊥
not_zero (form l h) e = omega arith
not_zero shape e = omega arith
not_zero slice e = omega arith
not_zero (number l h) e = omega arith
not_zero (coordinate l h) e = omega arith
not_zero (held l h) e = omega arith
not_zero (full l h) e = omega arith

turned_down : (v : Verdict) → verdicts.Possible v → ((answer_of v).refusal ≡ 0 → ⊥) → TurnedDown (answer_of v).refusal (answer_of v).line
unfolding answer_of
turned_down (refusal n line) (verdicts.refused d) other = d
turned_down (archive a) (verdicts.accepted f) other = absurd (other refl)

let_in : (before : List ℕ) (v : Verdict) → verdicts.Possible v → (answer_of v).refusal ≡ 0 → Accepted before (carried_out before v)
unfolding carried_out answer_of words_of
let_in before (refusal n line) (verdicts.refused d) none = absurd (not_zero d none)
let_in before (archive a) (verdicts.accepted f) none =
    let words : List ℕ = drop (extent a.shape.capacity) before in
    let reads : read (layout a ++ words) ≡ a = read_layout a words in
    record {
      passes = sound_passes a words 0 f.sound;
      counted = rw reads f.counted;
      count = rw reads;
      behind = rw reads (behind_layout a words f.sound.held_within);
    }

-- What loading answers is the verdict's answer, whatever the slice held.
pub load_answer : (w card : List ℕ) → (load w card).answer ≡ answer_of (judge (length w) (lines card))
unfolding carried_out
load_answer w card = ap (λ l. l.answer) (loads w card)

-- A refused card leaves the lent slice as it was.
stays : (before : List ℕ) (v : Verdict) → ((answer_of v).refusal ≡ 0 → ⊥) → words_of before v ≡ before
unfolding answer_of words_of
stays before (refusal n line) other = refl
stays before (archive a) other = absurd (other refl)

pub load_stays : (w card : List ℕ) → ((load w card).answer.refusal ≡ 0 → ⊥) → (load w card).words ≡ w
unfolding carried_out
load_stays w card other =
    ap (λ l. l.words) (loads w card)
    ∙ stays w (judge (length w) (lines card)) (λ e. other (ap (λ a. a.refusal) (load_answer w card) ∙ e))

pub cards_load : (w card : List ℕ) → Loads w card
unfolding carried_out
cards_load w card =
    record {
      in_turn = loads w card;
      refused = rw (loads w card) (turned_down (judge (length w) (lines card)) (verdicts.possible (length w) (lines card)));
      accepted = rw (loads w card) (let_in w (judge (length w) (lines card)) (verdicts.possible (length w) (lines card)));
    }

-- The check's answer is that of the verdict for a slice that is long enough.
pub check_answer : (card : List ℕ) → check card ≡ packed (answer_of (judge (extent 512) (lines card)))
unfolding check
check_answer card =
    ap packed
    (load_answer (replicate (extent 512) 0) card
    ∙ ap (λ n. answer_of (judge n (lines card))) (length-replicate {A = ℕ} (extent 512) 0))

check_judged : (w card : List ℕ) → judge (extent 512) (lines card) ≡ judge (length w) (lines card) → check card ≡ packed (load w card).answer
check_judged w card e =
    check_answer card ∙ ap (λ v. packed (answer_of v)) e ∙ ap packed (sym (load_answer w card))

row_1 : (v : Verdict) → v ≡ refusal 1 1 → (answer_of v).refusal ≡ 1
unfolding answer_of
row_1 v e = rw e

pub cards_check : (w card : List ℕ) → Checks w card
cards_check w card =
    record {
      long_enough = λ long. check_judged w card (verdicts.judge_enough (length w) (lines card) long);
      unless_row_1 = λ other.
          check_judged w card
          (verdicts.judge_unless_short (length w) (lines card)
          (λ e. other (ap (λ a. a.refusal) (load_answer w card) ∙ row_1 (judge (length w) (lines card)) e)));
    }

cut : (w card : List ℕ) → load w (take (33 * 514) card) ≡ load w card
cut w card =
    rw (loads w (take (33 * 514) card), loads w card, lines_take 514 card, verdicts.judge_cut (length w) (lines card))

pub enough_read : (w card : List ℕ) (k : ℕ) → 33 * 514 ≤ k → load w (take k card) ≡ load w card
enough_read w card k l = sym (cut w (take k card)) ∙ ap (load w) (take-take (33 * 514) k card l) ∙ cut w card

pub cards : Cards
cards = record { loads = cards_load; checks = cards_check; enough_read = enough_read }
