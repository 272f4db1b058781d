-- Laws of the loading of a card: a line's call, and the loop over the further lines.
use Prim.Native.Nat.{ℕ, ◌+◌, ◌-◌, ◌*◌, ◌≤◌}
use mathlib.Core.Path.{◌≡◌, refl, sym, ap, ap₂, ◌∙◌}
use mathlib.Core.Bool.{true}
use mathlib.Core.List.{List, ◌∷◌, ◌++◌, []}
use mathlib.Core.Option.{Option, none, some}
use native.Mathlib.Omega.{arith}
use lib.ListN.{length, drop}
use Rattle.text.specs.Lines.{Numbers, numbers_of}
use Rattle.text.specs.declared.Line.{Line}
use Rattle.std.specs.Prelude.{Option as StdOption, None, Some}
use Rattle.hypervolume.specs.Front.{front, unbeaten}
use Rattle.words.specs.Archive.{Trial, Shape, Archive, trials, points}
use Rattle.words.specs.Layout.{extent, layout, read, behind}
use Rattle.words.specs.Format.{archive_rows, shape_allowed}
use Rattle.words.proofs.Reading.{read_layout, behind_layout}
use Rattle.calls.specs.Calls.{empty, renewed, inserted, insert_rows, admission_rows}
use Rattle.calls.specs.Lent.{Outcome, shape_of, trial_of, start_rows, start}
use Rattle.calls.proofs.Answers.{leaves_done}
use Rattle.calls.proofs.Lent.{leaves_refusal}
use Rattle.calls.proofs.Earlier.{inserted_front, insert_rows_front}
use Rattle.calls.proofs.Sound.{inserted_count}
use Rattle.records.specs.Fronts.{fronted, unfronted}
use Rattle.records.proofs.Stored
use Rattle.insertion.specs.Inserting.{Enters}
use Rattle.card.specs.declared.Loaded.{Loaded}
use Rattle.card.specs.Card.{shape_on, trial_on, line_count, lines, due, malformed, by_form, first_line, load, ReadInto}
use Rattle.card.specs.Verdict.{Verdict, refusal, archive, in_turn, judge_further, judge, answer_of, words_of, carried_out}
use Rattle.card.specs.Reading.{EntersLine, row_15, of_the_form}
use Rattle.card.proofs.CardLines.{Inside, lines_due, no_lines_due}
use Rattle.card.proofs.Judging.{Fair, insert_rows_fair, inserted_fair, empty_fair, shape_passed, loads}
use Rattle.card.proofs.Verdicts.{few, in_turn_refused, in_turn_passed}

-- A line that is not of the form, and the call that any other line makes.
module _ (w : List ℕ) {l : StdOption Line} where
  pub first_missing : l ≡ None → malformed w ≡ first_line w (numbers_of l)
  unfolding first_line by_form
  first_missing e = rw e

  pub first_called : {v : Line} → l ≡ Some v → start w (shape_of v.first v.second v.third v.fourth) ≡ first_line w (numbers_of l)
  unfolding first_line by_form shape_on
  first_called e = rw e

pub further_missing : (w : List ℕ) {l : StdOption Line} → l ≡ None → EntersLine w (numbers_of l) 15 w
further_missing w e = rw e (row_15 refl refl)

pub further_entered : {w left : List ℕ} {l : StdOption Line} {v : Line} {r : ℕ} → l ≡ Some v → Enters w (trial_of v.first v.second v.third v.fourth) r left → EntersLine w (numbers_of l) r left
unfolding trial_on
further_entered e h = rw e (of_the_form h)

-- What is said of a call's outcome is said of an equal one.
pub same_outcome : {o q : Outcome} {r : ℕ} {after : List ℕ} → o ≡ q → (r ≡ o.refusal) × (after ≡ o.words)
    → (r ≡ q.refusal) × (after ≡ q.words)
same_outcome e said = rw (← e) said

-- A verdict on the whole card: a refusal, of which nothing that was read matters, or an archive.
module _ (before card : List ℕ) {v : Verdict} (e : load before card ≡ carried_out before v) where
  read_refused : {k line : ℕ} {after : List ℕ} {r : Loaded} → v ≡ refusal k line → (k ≡ 0 → ⊥) → r ≡ record { refusal = k; line = line; count = 0 }
      → ReadInto (load before card) r after
  unfolding carried_out answer_of
  read_refused {k} {line} {after} {r} is other said =
      record {
        answer = said ∙ sym (ap (λ x. x.answer) (e ∙ ap (carried_out before) is));
        words = λ none'. absurd (other (sym (ap (λ (x : Loaded). x.refusal) said) ∙ none'));
      }

  read_accepted : {a : Archive} {n : ℕ} {after : List ℕ} → v ≡ archive a → n ≡ length a.rows → after ≡ layout a ++ drop (extent a.shape.capacity) before
      → ReadInto (load before card) (record { refusal = 0; line = 0; count = n }) after
  unfolding carried_out answer_of words_of
  read_accepted {a} {n} {after} is count words =
      record {
        answer = ap (λ k. record { refusal = 0; line = 0; count = k }) count ∙ sym (ap (λ x. x.answer) (e ∙ ap (carried_out before) is));
        words = λ none'. words ∙ sym (ap (λ x. x.words) (e ∙ ap (carried_out before) is));
      }

pub card_missing : (w card : List ℕ) {r : Loaded} {after : List ℕ} → none ≡ due card 1
    → r ≡ record { refusal = 15; line = 1; count = 0 } → ReadInto (load w card) r after
unfolding judge
card_missing w card e said =
    read_refused w card (loads w card) (ap (judge (length w)) (no_lines_due card {line = 1} (omega arith) e)) (λ z. omega arith) said

-- Line 1 refused, or the archive started.
pub record Started (before card w : List ℕ) : Type 0 where
  pub shape : Shape
  pub allowed : shape_allowed shape ≡ true
  pub words : w ≡ layout (empty shape) ++ drop (extent shape.capacity) before
  pub comes_to : load before card ≡ carried_out before (judge_further (empty shape) (lines (drop 33 card)))

start_row : (w : List ℕ) (s : Shape) → (start w s).refusal ≡ start_rows (length w) s
unfolding start
start_row w s = leaves_refusal w [] _ _ _ _

start_words : (w : List ℕ) (s : Shape) → start_rows (length w) s ≡ 0 → (start w s).words ≡ layout (empty s) ++ drop (extent s.capacity) w
unfolding start
start_words w s e = ap (λ o. o.words) (leaves_done w [] _ 0 _ [] e)

line_1_refused : (w : List ℕ) (l : Option Numbers) (ls : List (Option Numbers)) (k : ℕ) → k ≡ (first_line w l).refusal → (k ≡ 0 → ⊥) → judge (length w) (l ∷ ls) ≡ refusal k 1
unfolding judge first_line by_form malformed
line_1_refused w none ls k e n = ap (λ r. refusal r 1) (sym e)
line_1_refused w (some v) ls k e n =
    ap (λ r. in_turn r 1 (judge_further (empty (shape_on v)) ls)) (sym (start_row w (shape_on v)) ∙ sym e) ∙ in_turn_refused k 1 _ n

line_1_done : (w card after : List ℕ) (l : Option Numbers) → load w card ≡ carried_out w (judge (length w) (l ∷ lines (drop 33 card)))
    → (first_line w l).refusal ≡ 0 → after ≡ (first_line w l).words → Started w card after
unfolding judge first_line by_form malformed
line_1_done w card after none f e words = absurd (let no' : ⊥ = omega (arith, e) in no')
line_1_done w card after (some v) f e words =
    let passes : start_rows (length w) (shape_on v) ≡ 0 = sym (start_row w (shape_on v)) ∙ e in
    record {
      shape = shape_on v;
      allowed = shape_passed (length w) (shape_on v) passes;
      words = words ∙ start_words w (shape_on v) passes;
      comes_to = f ∙ ap (carried_out w) (in_turn_passed _ 1 _ passes);
    }

module _ (w card : List ℕ) {l : Option Numbers} (i : Inside card 1 l) {k : ℕ} (e : k ≡ (first_line w l).refusal) where
  first_judged : load w card ≡ carried_out w (judge (length w) (l ∷ lines (drop 33 card)))
  first_judged = loads w card ∙ ap (λ ls. carried_out w (judge (length w) ls)) (lines_due card i)

  pub first_refused : {r : Loaded} {after : List ℕ} → (k ≡ 0 → ⊥) → r ≡ record { refusal = k; line = 1; count = 0 }
      → ReadInto (load w card) r after
  first_refused other said = read_refused w card first_judged (line_1_refused w l _ k e other) other said

  pub first_done : {after : List ℕ} → k ≡ 0 → after ≡ (first_line w l).words → Started w card after
  first_done {after} done words = line_1_done w card after l first_judged (sym e ∙ done) words

-- The words just started.
empty_unfronted : (s : Shape) → unfronted (empty s) ≡ empty s
unfolding empty front unbeaten points trials
empty_unfronted s = refl

module _ {before card w : List ℕ} (s : Started before card w) where
  started_reads : read w ≡ empty s.shape
  started_reads = ap read s.words ∙ read_layout (empty s.shape) _

  started_behind : behind w ≡ drop (extent s.shape.capacity) before
  unfolding empty
  started_behind = ap behind s.words ∙ behind_layout (empty s.shape) _ (omega arith)

  pub started_comes_to : load before card ≡ carried_out before (judge_further (read w) (lines (drop 33 card)))
  started_comes_to = s.comes_to ∙ ap (λ a. carried_out before (judge_further a (lines (drop 33 card)))) (sym started_reads)

-- The loop over the further lines, from the words w₁ on: the archive so far, which the words hold but for its front, and what is
-- left of the card comes to what the whole does.
pub record Reading (card w₁ : List ℕ) (line : ℕ) (w : List ℕ) : Type 0 where
  pub second : 2 ≤ line
  pub upto : line ≤ line_count card + 1
  pub same : length w ≡ length w₁
  pub so_far : Archive
  pub fair : Fair so_far
  pub shaped : so_far.shape ≡ (read w₁).shape
  pub words : w ≡ layout (unfronted so_far) ++ behind w₁
  pub count : length so_far.rows + 2 ≡ line
  pub left : judge_further (read w₁) (lines (drop 33 card)) ≡ judge_further so_far (lines (drop (33 * (line - 1)) card))

pub reading_none : {before card w : List ℕ} {l : Option Numbers} → Inside card 1 l → Started before card w → Reading card w 2 w
unfolding empty
reading_none {before} {card} {w} i s =
    record {
      second = omega arith;
      upto = omega (arith, i.last);
      same = refl;
      so_far = empty s.shape;
      fair = empty_fair s.shape s.allowed;
      shaped = ap (λ a. a.shape) (sym (started_reads s));
      words = s.words ∙ ap₂ (λ a b. layout a ++ b) (sym (empty_unfronted s.shape)) (sym (started_behind s));
      count = refl;
      left = ap (λ a. judge_further a (lines (drop 33 card))) (started_reads s);
    }

-- One line of those due, on the archive so far.
inserted_shape : (a : Archive) (t : Trial) → (inserted a t).shape ≡ a.shape
unfolding inserted
inserted_shape a t = refl

further_passed : (a : Archive) (v : Numbers) (ls : List (Option Numbers)) → admission_rows a (trial_on v) 0 ≡ 0 → judge_further a (some v ∷ ls) ≡ judge_further (inserted a (trial_on v)) ls
unfolding judge_further
further_passed a v ls e = in_turn_passed _ (length a.rows + 2) _ e

line_refused : (a : Archive) (l : Option Numbers) (ls : List (Option Numbers)) (k : ℕ) {w left : List ℕ} → EntersLine w l k left
    → ((t : Trial) → insert_rows (read w) t ≡ admission_rows a t 0) → (k ≡ 0 → ⊥) → judge_further a (l ∷ ls) ≡ refusal k (length a.rows + 2)
unfolding judge_further
line_refused a none ls k (row_15 e same) rows n = ap (λ r. refusal r (length a.rows + 2)) (sym e)
line_refused a (some v) ls k (of_the_form e) rows n =
    ap (λ r. in_turn r (length a.rows + 2) (judge_further (inserted a (trial_on v)) ls)) (sym (rows (trial_on v)) ∙ sym e.judged)
    ∙ in_turn_refused k (length a.rows + 2) _ n

module _ {card w₁ w : List ℕ} {line : ℕ} (r : Reading card w₁ line w) where
  pub reading_few : line ≤ 514
  reading_few = omega (arith, r.count, few r.so_far r.fair)

  pub reading_passes : archive_rows w 0 ≡ 0
  reading_passes = Stored.update_passes w₁ w r.so_far 0 r.fair.sound (omega arith) r.words

  reads : read w ≡ unfronted r.so_far
  reads = Stored.update_read w₁ w r.so_far 0 r.fair.sound (omega arith) r.words

  behinds : behind w ≡ behind w₁
  behinds = Stored.update_behind w₁ w r.so_far 0 r.fair.sound (omega arith) r.words

  -- Row 13 is not given on the way, so the rows of insert are rows 5 to 8.
  rows : (t : Trial) → insert_rows (read w) t ≡ admission_rows r.so_far t 0
  rows t = ap (λ a. insert_rows a t) reads ∙ insert_rows_front r.so_far 0 t ∙ insert_rows_fair r.so_far t r.fair.counted

  -- The next line, and those behind it.
  next_lines : {l : Option Numbers} → Inside card line l → lines (drop (33 * (line - 1)) card) ≡ l ∷ lines (drop (33 * (line + 1 - 1)) card)
  next_lines i =
      let next : line + 1 - 1 ≡ line = omega arith in
      rw next (lines_due card i)

  module _ {l : Option Numbers} (i : Inside card line l) {k : ℕ} {after : List ℕ} (e : EntersLine w l k after) where
    pub reading_more : k ≡ 0 → length after ≡ length w → Reading card w₁ (line + 1) after
    reading_more done long = go l (next_lines i) e
      where
        go : (l : Option Numbers) → lines (drop (33 * (line - 1)) card) ≡ l ∷ lines (drop (33 * (line + 1 - 1)) card) → EntersLine w l k after → Reading card w₁ (line + 1) after
        go none here (row_15 e same) = absurd (let no' : ⊥ = omega (arith, e, done) in no')
        go (some v) here (of_the_form e) =
            let passes : admission_rows r.so_far (trial_on v) 0 ≡ 0 = sym (rows (trial_on v)) ∙ sym e.judged ∙ done in
            record {
              second = omega (arith, r.second);
              upto = omega (arith, i.last);
              same = long ∙ r.same;
              so_far = inserted r.so_far (trial_on v);
              fair = inserted_fair r.so_far (trial_on v) r.fair passes;
              shaped = inserted_shape r.so_far (trial_on v) ∙ r.shaped;
              words =
                  e.done done ∙ ap₂ (λ a b. layout (fronted a.front (inserted a (trial_on v))) ++ b) reads behinds
                  ∙ ap (λ a. layout (unfronted a) ++ behind w₁) (inserted_front r.so_far 0 (trial_on v));
              count = omega (arith, inserted_count r.so_far (trial_on v), r.count);
              left = r.left ∙ ap (judge_further r.so_far) here ∙ further_passed r.so_far v _ passes;
            }

    module _ (before : List ℕ) (begun : load before card ≡ carried_out before (judge_further (read w₁) (lines (drop 33 card)))) where
      pub reading_stop : {x : Loaded} {left : List ℕ} → (k ≡ 0 → ⊥) → x ≡ record { refusal = k; line = line; count = 0 } → ReadInto (load before card) x left
      reading_stop other said =
          read_refused before card begun
          (r.left ∙ ap (judge_further r.so_far) (next_lines i) ∙ line_refused r.so_far l _ k e rows other ∙ ap (refusal k) r.count)
          other said

  pub reading_end : {before after : List ℕ} → Started before card w₁ → none ≡ due card line
      → after ≡ layout (renewed (read w).shape (read w).sum (read w).rows) ++ behind w
      → ReadInto (load before card) (record { refusal = 0; line = 0; count = line - 2 }) after
  unfolding empty judge_further
  reading_end {before} {after} s e counted =
      let empty : lines (drop (33 * (line - 1)) card) ≡ [] = no_lines_due card {line = line} (omega (arith, r.second)) e in
      let capacity : s.shape.capacity ≡ r.so_far.shape.capacity = ap (λ a. a.shape.capacity) (sym (started_reads s)) ∙ ap (λ x. x.capacity) (sym r.shaped) in
      read_accepted before card (started_comes_to s)
      (r.left ∙ ap (judge_further r.so_far) empty)
      (omega (arith, r.count))
      (Stored.update_renewed w₁ w r.so_far 0 r.fair.sound (omega arith) r.words after counted r.fair.counted.front
      ∙ ap (λ b. layout r.so_far ++ b) (started_behind s ∙ ap (λ n. drop (extent n) before) capacity))
