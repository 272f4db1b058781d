-- Loading comes to the verdict on the card's lines.
use Prim.Native.Nat.{ℕ, zero, suc, ◌+◌}
use mathlib.Core.Path.{◌≡◌, refl, ◌∙◌}
use mathlib.Core.Bool.{true}
use mathlib.Core.List.{List, ◌∷◌, ◌++◌, []}
use mathlib.Core.Option.{Option, none, some}
use lib.ListN.{length, drop}
use borrow.Author.Tests.{not-false}
use Rattle.text.specs.Lines.{Numbers}
use Rattle.words.specs.Archive.{Trial, Shape, Archive, trials}
use Rattle.words.specs.Layout.{extent, layout}
use Rattle.words.specs.Format.{guard, shape_allowed, rows_allowed, ordered, distinct}
use Rattle.words.proofs.Reading.{read_layout, behind_layout}
use Rattle.words.proofs.Passed.{guard_none, Sound, sound_passes}
use Rattle.calls.specs.Calls.{empty, inserted, insert_rows, admission_rows}
use Rattle.calls.specs.Counted.{IsCounted}
use Rattle.calls.specs.Lent.{leaves, start_rows, start, insert}
use Rattle.calls.proofs.Counted.{insert_fits, inserted_counted, empty_counted, counted_is_counted}
use Rattle.calls.proofs.Sound.{insert_passed, empty_sound, inserted_count, inserted_sound}
use Rattle.card.specs.Card.{shape_on, trial_on, malformed, by_form, first_line, further_line, refused, accepted, judged, further, from_first, lines, load}
use Rattle.card.specs.Verdict.{in_turn, judge_further, judge, answer_of, words_of, carried_out}

-- An archive as loading leaves it after each line.
pub record Fair (a : Archive) : Type 0 where
  pub sound : Sound a
  pub counted : IsCounted a

-- Row 13 is never given here, and rows 1 to 3 are passed.
pub insert_rows_fair : (a : Archive) (t : Trial) → IsCounted a → insert_rows a t ≡ admission_rows a t 0
unfolding insert_rows guard
insert_rows_fair a t c = rw (insert_fits a t c)

insert_fair : (a : Archive) (b : List ℕ) (t : Trial) → Fair a
    → insert (layout a ++ b) t ≡ leaves (layout a ++ b) [] (admission_rows a t 0) 0 (layout (inserted a t) ++ b) []
unfolding insert
insert_fair a b t f =
    rw (read_layout a b, behind_layout a b f.sound.held_within, sound_passes a b (insert_rows a t) f.sound, insert_rows_fair a t f.counted)

pub inserted_fair : (a : Archive) (t : Trial) → Fair a → admission_rows a t 0 ≡ 0 → Fair (inserted a t)
inserted_fair a t f e =
    record {
      sound = inserted_sound a t f.sound (insert_passed a t (insert_rows_fair a t f.counted ∙ e));
      counted = inserted_counted a t f.counted;
    }

-- The slice while a card is loaded: the archive so far, and the words behind.
abbrev so_far : List ℕ → Archive → List ℕ
so_far before a = layout a ++ drop (extent a.shape.capacity) before

further_judged : (before : List ℕ) (a : Archive) → Fair a → (ls : List (Option Numbers))
    → further before (so_far before a) (length a.rows) ls ≡ carried_out before (judge_further a ls)
unfolding further judge_further carried_out answer_of words_of further_line by_form malformed refused accepted judged in_turn leaves inserted
further_judged before a f [] = refl
further_judged before a f (none ∷ ls) = refl
further_judged before a f (some v ∷ ls) =
    go (admission_rows a t 0) refl (λ g. further_judged before (inserted a t) g ls)
  where
    t : Trial
    t = trial_on v

    w : List ℕ
    w = so_far before a

    go : (k : ℕ) → admission_rows a t 0 ≡ k
        → (Fair (inserted a t) → further before (so_far before (inserted a t)) (length (inserted a t).rows) ls ≡ carried_out before (judge_further (inserted a t) ls))
        → judged before (insert w t).refusal (length a.rows + 2) (further before (insert w t).words (length a.rows + 1) ls)
        ≡ carried_out before (in_turn (admission_rows a t 0) (length a.rows + 2) (judge_further (inserted a t) ls))
    go zero e more =
        let next : further before (layout (inserted a t) ++ drop (extent a.shape.capacity) before) (length (inserted a t).rows) ls
        ≡ carried_out before (judge_further (inserted a t) ls) =
        more (inserted_fair a t f e) in
        rw (insert_fair a (drop (extent a.shape.capacity) before) t f, e, ← inserted_count a t) next
    go (suc n) e more = rw (insert_fair a (drop (extent a.shape.capacity) before) t f, e)

-- An archive just started.
pub empty_fair : (s : Shape) → shape_allowed s ≡ true → Fair (empty s)
unfolding empty trials rows_allowed ordered distinct
empty_fair s allowed =
    record {
      sound = empty_sound s allowed;
      counted = rw (empty_counted s) (counted_is_counted s []);
    }

pub shape_passed : (long : ℕ) (s : Shape) → start_rows long s ≡ 0 → shape_allowed s ≡ true
unfolding start_rows
shape_passed long s e = not-false _ (guard_none _ _ _ e).0

-- Loading comes to the verdict on the lines.
first_judged : (w : List ℕ) (ls : List (Option Numbers)) → from_first w ls ≡ carried_out w (judge (length w) ls)
unfolding from_first judge carried_out answer_of words_of first_line by_form malformed refused judged in_turn start leaves empty
first_judged w [] = refl
first_judged w (none ∷ ls) = refl
first_judged w (some v ∷ ls) = go (start_rows (length w) s) refl
  where
    s : Shape
    s = shape_on v

    go : (k : ℕ) → start_rows (length w) s ≡ k
        → judged w (start w s).refusal 1 (further w (start w s).words 0 ls)
        ≡ carried_out w (in_turn (start_rows (length w) s) 1 (judge_further (empty s) ls))
    go zero e = rw e (further_judged w (empty s) (empty_fair s (shape_passed (length w) s e)) ls)
    go (suc n) e = rw e

pub loads : (w card : List ℕ) → load w card ≡ carried_out w (judge (length w) (lines card))
unfolding load
loads w card = first_judged w (lines card)
