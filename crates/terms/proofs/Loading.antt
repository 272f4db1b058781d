-- An accepted card is its start and its insertions as calls, and leaves words that hold the fresh archive of the book that
-- it opens; so histories go on from there (history/proofs/Histories).
use Prim.Native.Nat.{ℕ, zero, suc, ◌+◌, ◌≤◌}
use mathlib.Core.Path.{◌≡◌, refl, sym, ap, ◌∙◌}
use mathlib.Core.Bool.{Bool, true, false}
use mathlib.Core.List.{List, ◌∷◌, map, append-nil, []}
use mathlib.Core.Option.{Option, none, some}
use native.Mathlib.Omega.{arith}
use lib.ListN.{length, get_or, take, drop, drop_of_length-le}
use lib.Seq.{take_all}
use Rattle.text.specs.Lines.{Numbers}
use Rattle.words.specs.Archive.{Trial, Shape}
use Rattle.words.specs.Layout.{extent}
use Rattle.calls.specs.Lent
use Rattle.calls.specs.Lent.{start}
use Rattle.calls.proofs.Lent.{insert_done}
use Rattle.card.specs.Card.{shape_on, trial_on, malformed, by_form, first_line, further_line, Loading, refused, accepted, judged, further, from_first, lines, load}
use Rattle.history.specs.Book.{Book, Turn, refuse_if, row_1, entered, book_insert, book_turn}
use Rattle.history.specs.History.{Call, on_words, lent_of, words_after, answered, run_words, run_answers, request, expected}
use Rattle.history.specs.Terms.{opened_by}
use Rattle.history.proofs.Steps.{Holds, Agree, step}
use Rattle.history.proofs.Histories.{holds_size, Begun, started, whole_history, history}
use Rattle.history.proofs.Kept.{holds_just, keeps_counts}
use Rattle.terms.specs.Loading.{no_numbers, numbers_on, card_shape, card_trials, all_entered, card_book, card_insertions, done, AsCalls, AfterLoading, TermsAfterLoading}

-- A line that is not refused leaves the verdict to the rest of the card.
line_passed : (before : List ℕ) (k line : ℕ) (rest : Loading) → (judged before k line rest).answer.refusal ≡ 0
    → (k ≡ 0) × (judged before k line rest ≡ rest)
unfolding judged refused
line_passed before zero line rest e = (refl, refl)
line_passed before (suc k) line rest e = absurd (let no : ⊥ = omega arith in no)

-- An insertion that the book does not refuse enters the trial.
unless_refused : (x : Bool) (n : ℕ) (b new : Book) (turn : Turn) → (turn.reply.refusal ≡ 0 → turn.book ≡ new)
    → (refuse_if x (suc n) b turn).reply.refusal ≡ 0 → (refuse_if x (suc n) b turn).book ≡ new
unfolding refuse_if
unless_refused true n b new turn h e = absurd (let no : ⊥ = omega arith in no)
unless_refused false n b new turn h e = h e

book_entered : (slice : ℕ) (t : Trial) (b : Book) → (book_insert slice t b).reply.refusal ≡ 0 → (book_insert slice t b).book ≡ entered t b
unfolding book_insert row_1
book_entered slice t b =
    unless_refused _ _ _ _ _
    (unless_refused _ _ _ _ _
    (unless_refused _ _ _ _ _ (unless_refused _ _ _ _ _ (unless_refused _ _ _ _ _ (λ e. refl)))))

-- One insertion that is done, as a call that is lent all the words.
pub record Inserts (s : Shape) (rest w : List ℕ) (b : Book) (size : ℕ) (t : Trial) : Type 0 where
  pub answer : answered (on_words (Call.insert size t) w) ≡ done
  pub words : words_after (Call.insert size t) w ≡ (Lent.insert w t).words
  pub holds : Holds s rest (entered t b) (Lent.insert w t).words

pub inserts : (s : Shape) (rest w : List ℕ) (b : Book) (size : ℕ) → length w ≡ size → Holds s rest b w → (t : Trial)
    → (Lent.insert w t).refusal ≡ 0 → Inserts s rest w b size t
unfolding on_words words_after answered done lent_of request book_turn expected
inserts s rest w b size long h t e =
    let all : take size w ≡ w = take_all size w (omega arith) in
    let none_left : drop size w ≡ [] = drop_of_length-le w (let l : length w ≤ size = omega arith in l) in
    let d = insert_done w t e in
    let now : Agree s rest w (Call.insert size t) (on_words (Call.insert size t) w) (book_turn (request (length w) (Call.insert size t)) b) =
    step s rest w b h (Call.insert size t) in
    let same : words_after (Call.insert size t) w ≡ (Lent.insert w t).words =
    rw (all, none_left) (append-nil (Lent.insert w t).words) in
    let unrefused : (book_turn (request (length w) (Call.insert size t)) b).reply.refusal ≡ 0 =
    sym (ap (λ a. a.refusal) now.answer) ∙ rw all e in
    record {
      answer = rw (all, e, d.value, d.log);
      words = same;
      holds = rw (← book_entered _ t b unrefused, ← same) now.holds;
    }

-- The trials on these lines, and their insertions.
abbrev pub trials_on : List (Option Numbers) → List Trial
trials_on ls = map trial_on (map numbers_on ls)

abbrev insertions : ℕ → List Trial → List Call
insertions size ts = map (Call.insert size) ts

-- The further lines of an accepted card. So far w are the words, b is the book and n the count of trials.
record Inserted (s : Shape) (rest before w : List ℕ) (b : Book) (n size : ℕ) (ls : List (Option Numbers)) : Type 0 where
  form : ls ≡ map some (map numbers_on ls)
  answers : run_answers (insertions size (trials_on ls)) w ≡ map (λ t. done) (trials_on ls)
  words : (further before w n ls).words ≡ run_words (insertions size (trials_on ls)) w
  count : (further before w n ls).answer.count ≡ n + length (trials_on ls)
  holds : Holds s rest (all_entered (trials_on ls) b) (further before w n ls).words

further_inserted : (s : Shape) (rest before w : List ℕ) (b : Book) (n size : ℕ) → size ≡ extent s.capacity + length rest
    → Holds s rest b w → (ls : List (Option Numbers)) → (further before w n ls).answer.refusal ≡ 0
    → Inserted s rest before w b n size ls
unfolding further further_line by_form malformed accepted judged refused numbers_on run_answers run_words all_entered
further_inserted s rest before w b n size long h [] e =
    record { form = refl; answers = refl; words = refl; count = omega arith; holds = h }
further_inserted s rest before w b n size long h (none ∷ ls) e = absurd (let no : ⊥ = omega arith in no)
further_inserted s rest before w b n size long h (some v ∷ ls) e =
    let t : Trial = trial_on v in
    let d = line_passed before (Lent.insert w t).refusal (n + 2) (further before (Lent.insert w t).words (n + 1) ls) e in
    let one = inserts s rest w b size (holds_size s rest w b h ∙ sym long) h t d.0 in
    let later = further_inserted s rest before (Lent.insert w t).words (entered t b) (n + 1) size long one.holds ls (ap (λ l. l.answer.refusal) (sym d.1) ∙ e) in
    let count : (further before (Lent.insert w t).words (n + 1) ls).answer.count ≡ n + 1 + length (trials_on ls) = later.count in
    let more : n + 1 + length (trials_on ls) ≡ n + suc (length (trials_on ls)) = omega arith in
    record {
      form = ap (λ l. some v ∷ l) later.form;
      answers = rw (one.answer, one.words, later.answers);
      words = ap (λ l. l.words) d.1 ∙ later.words ∙ ap (run_words (insertions size (trials_on ls))) (sym one.words);
      count = rw d.1 (count ∙ more);
      holds = rw d.1 later.holds;
    }

-- A whole card that is accepted, by its lines.
record CardDone (before : List ℕ) (ls : List (Option Numbers)) (s : Shape) (ts : List Trial) : Type 0 where
  line_1 : 1 ≤ length ls
  form : ls ≡ map some (map numbers_on ls)
  start_done : (start before s).refusal ≡ 0
  insertions_done : run_answers (insertions (length before) ts) (start before s).words ≡ map (λ t. done) ts
  words : (from_first before ls).words ≡ run_words (insertions (length before) ts) (start before s).words
  count : (from_first before ls).answer.count ≡ length ts
  begun : Begun before (from_first before ls).words s (all_entered ts (opened_by s))

card_lines_done : (before : List ℕ) (ls : List (Option Numbers)) → (from_first before ls).answer.refusal ≡ 0
    → CardDone before ls (shape_on (get_or (map numbers_on ls) 0 no_numbers)) (map trial_on (drop 1 (map numbers_on ls)))
unfolding from_first first_line by_form malformed judged refused numbers_on
card_lines_done before [] e = absurd (let no : ⊥ = omega arith in no)
card_lines_done before (none ∷ ls) e = absurd (let no : ⊥ = omega arith in no)
card_lines_done before (some v ∷ ls) e =
    let s : Shape = shape_on v in
    let d = line_passed before (start before s).refusal 1 (further before (start before s).words 0 ls) e in
    let begun : Begun before (start before s).words s (opened_by s) = started before s d.0 in
    let rest : List ℕ = drop (extent s.capacity) before in
    let all = further_inserted s rest before (start before s).words (opened_by s) 0 (length before) begun.size begun.holds ls (ap (λ l. l.answer.refusal) (sym d.1) ∙ e) in
    let count : (further before (start before s).words 0 ls).answer.count ≡ 0 + length (trials_on ls) = all.count in
    let same : 0 + length (trials_on ls) ≡ length (trials_on ls) = omega arith in
    record {
      line_1 = omega arith;
      form = ap (λ l. some v ∷ l) all.form;
      start_done = d.0;
      insertions_done = all.answers;
      words = ap (λ l. l.words) d.1 ∙ all.words;
      count = ap (λ l. l.answer.count) d.1 ∙ count ∙ same;
      begun = record { size = begun.size; holds = rw d.1 all.holds };
    }

card_done : (before card : List ℕ) → (load before card).answer.refusal ≡ 0 → CardDone before (lines card) (card_shape card) (card_trials card)
unfolding load card_shape card_trials
card_done before card e = card_lines_done before (lines card) e

as_calls : (before card : List ℕ) → (load before card).answer.refusal ≡ 0 → AsCalls before card
unfolding load card_insertions
as_calls before card e =
    let l = card_done before card e in
    record {
      line_1 = l.line_1;
      form = l.form;
      start_done = l.start_done;
      insertions_done = l.insertions_done;
      words = l.words;
      count = l.count;
    }

pub card_begun : (before card : List ℕ) → (load before card).answer.refusal ≡ 0
    → Begun before (load before card).words (card_shape card) (card_book card)
unfolding load card_book
card_begun before card e = (card_done before card e).begun

after_loading : (before card : List ℕ) (calls : List Call) → (load before card).answer.refusal ≡ 0 → AfterLoading before card calls
after_loading before card calls e =
    let begun = card_begun before card e in
    let run = whole_history before (load before card).words (card_shape card) (card_book card) begun calls in
    record {
      agrees = history before _ (card_shape card) _ begun calls;
      holds = holds_just (card_shape card) _ _ _ run.holds;
      counts = keeps_counts (card_shape card) _ _ _ run.holds;
    }

-- "Since the start or the loading that wrote it whole": terms 2 and 3 after a loading.
pub terms_after_loading : TermsAfterLoading
terms_after_loading = record { as_calls = as_calls; after = after_loading }
