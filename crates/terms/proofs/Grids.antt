-- A grid is its insertions as calls, so terms 2 and 3 hold across grids.
use Prim.Native.Nat.{ℕ, zero, suc, ◌+◌, ◌≤◌}
use mathlib.Core.Path.{◌≡◌, refl, sym, ap, ap₂, ◌∙◌}
use mathlib.Core.Bool.{Bool, true, false}
use mathlib.Core.List.{List, ◌∷◌, ◌++◌, append-nil, []}
use native.Mathlib.Omega.{arith}
use lib.Dec.{leb}
use lib.ListN.{length, take, drop, replicate, length-append, drop_of_length-le, take-append-drop}
use lib.Seq.{take_all, take_at, drop_at, length-take-le}
use Rattle.hypervolume.proofs.Tests.{Compared, below, above, compared}
use Rattle.words.specs.Archive.{Trial, Shape}
use Rattle.words.specs.Layout.{layout, read, behind}
use Rattle.words.specs.Format.{archive_rows}
use Rattle.words.proofs.Reading.{length_layout}
use Rattle.words.proofs.Passed.{passed, passed_both}
use Rattle.calls.specs.Calls.{inserted, insert_rows}
use Rattle.calls.specs.Lent
use Rattle.calls.specs.Lent.{leaves}
use Rattle.calls.specs.Grid
use Rattle.calls.specs.Grid.{Filling, filled, grid_trials, grid_rows, GridOutcome, grid_outcome, insert_grid, one_by_one}
use Rattle.calls.proofs.Answers.{leaves_refused}
use Rattle.calls.proofs.Lent.{leaves_refusal}
use Rattle.calls.proofs.Grid.{grids}
use Rattle.calls.proofs.Sound.{insert_passed, inserted_sound}
use Rattle.history.specs.Book.{Book}
use Rattle.history.specs.History.{Call, Answered, on_words, lent_of, words_after, answered, run_words, run_answers}
use Rattle.history.proofs.Histories.{Begun, started, whole_history, history}
use Rattle.history.proofs.Kept.{holds_just, keeps_counts}
use Rattle.terms.specs.Loading.{done}
use Rattle.terms.specs.Grids.{Step, call, grid, words_after_step, unless_refused, insertions, calls_of, stopped_by, answers_of, run_steps, all_calls, all_answers, OneByOne, HoldAcross, AcrossGrids}
use Rattle.terms.proofs.Loading.{card_begun}

-- A part of the words replaced by as many others.
record Replaced (lent : ℕ) (w new : List ℕ) : Type 0 where
  front : take lent (new ++ drop lent w) ≡ new
  rest : drop lent (new ++ drop lent w) ≡ drop lent w

replaced : (lent : ℕ) (w new : List ℕ) → length new ≡ length (take lent w) → Replaced lent w new
replaced lent w new e = go (leb lent (length w)) (compared lent (length w))
  where
    go : (x : Bool) → Compared lent (length w) x → Replaced lent w new
    go true (below l) =
        let long : length new ≡ lent = e ∙ length-take-le lent w l in
        record { front = take_at new (drop lent w) lent long; rest = drop_at new (drop lent w) lent long }
    go false (above l) =
        let none : drop lent w ≡ [] = drop_of_length-le w (let m : length w ≤ lent = omega arith in m) in
        let short : length new ≤ lent = omega (arith, e, ap length (take_all lent w (let m : length w ≤ lent = omega arith in m))) in
        record {
          front = ap (λ d. take lent (new ++ d)) none ∙ ap (take lent) (append-nil new) ∙ take_all lent new short;
          rest = ap (λ d. drop lent (new ++ d)) none ∙ ap (drop lent) (append-nil new) ∙ drop_of_length-le new short ∙ sym none;
        }

-- An insertion: it keeps the length, it answers no value and no log, and refused it leaves the words.
insert_length : (w : List ℕ) (t : Trial) → length (Lent.insert w t).words ≡ length w
unfolding Lent.insert leaves inserted
insert_length w t = go (archive_rows w (insert_rows (read w) t)) refl
  where
    go : (row : ℕ) → archive_rows w (insert_rows (read w) t) ≡ row
        → length (leaves w [] row 0 (layout (inserted (read w) t) ++ behind w) []).words ≡ length w
    go zero e =
        let both = passed_both w (insert_rows (read w) t) e in
        let now = passed w both.0 in
        let sound = inserted_sound (read w) t now.sound (insert_passed (read w) t both.1) in
        length-append (layout (inserted (read w) t)) (behind w)
        ∙ ap (λ n. n + length (behind w)) (length_layout (inserted (read w) t) sound.held_within ∙ sym (length_layout (read w) now.sound.held_within))
        ∙ sym (length-append (layout (read w)) (behind w))
        ∙ ap length (sym now.laid)
    go (suc row) e = refl

insert_answered : (w : List ℕ) (t : Trial) → answered (Lent.insert w t) ≡ record { refusal = (Lent.insert w t).refusal; value = 0; log = [] }
unfolding Lent.insert leaves answered
insert_answered w t = go (archive_rows w (insert_rows (read w) t))
  where
    go : (row : ℕ) → answered (leaves w [] row 0 (layout (inserted (read w) t) ++ behind w) []) ≡ record { refusal = (leaves w [] row 0 (layout (inserted (read w) t) ++ behind w) []).refusal; value = 0; log = [] }
    go zero = refl
    go (suc row) = refl

insert_stays : (w : List ℕ) (t : Trial) (row : ℕ) → (Lent.insert w t).refusal ≡ suc row → (Lent.insert w t).words ≡ w
unfolding Lent.insert
insert_stays w t row e =
    ap (λ o. o.words) (leaves_refused w [] _ (suc row) 0 _ [] (sym (leaves_refusal w [] _ 0 _ []) ∙ e) (λ z. let no' : ⊥ = omega (arith, z) in no'))

-- The insertions of a grid as calls.
record Made (lent : ℕ) (calls : List Call) (w : List ℕ) (o : GridOutcome) : Type 0 where
  words : run_words calls w ≡ o.words ++ drop lent w
  answers : run_answers calls w ≡ replicate o.answer.inserted done ++ stopped_by o.answer.stop

made : (lent : ℕ) (ts : List Trial) (w : List ℕ) → Made lent (insertions lent ts w) w (one_by_one (take lent w) ts)
unfolding one_by_one Grid.unless_refused insertions unless_refused run_words run_answers words_after on_words lent_of stopped_by done
made lent [] w = record { words = sym (take-append-drop lent w); answers = refl }
made lent (t ∷ ts) w = go (Lent.insert (take lent w) t).refusal refl (made lent ts ((Lent.insert (take lent w) t).words ++ drop lent w))
  where
    after : List ℕ
    after = (Lent.insert (take lent w) t).words ++ drop lent w

    parts : Replaced lent w (Lent.insert (take lent w) t).words
    parts = replaced lent w (Lent.insert (take lent w) t).words (insert_length (take lent w) t)

    go : (row : ℕ) → (Lent.insert (take lent w) t).refusal ≡ row → Made lent (insertions lent ts after) after (one_by_one (take lent after) ts)
        → Made lent (Call.insert lent t ∷ unless_refused (Lent.insert (take lent w) t).refusal (insertions lent ts after)) w
        (Grid.unless_refused (Lent.insert (take lent w) t).refusal (take lent w) (one_by_one (Lent.insert (take lent w) t).words ts))
    go zero e later =
        rw e
        (record {
          words = later.words ∙ ap₂ (λ x d. (one_by_one x ts).words ++ d) parts.front parts.rest;
          answers =
              ap₂ (λ (a : Answered) l. a ∷ l) (insert_answered (take lent w) t ∙ ap (λ n. record { refusal = n; value = 0; log = [] }) e)
              (later.answers ∙ ap (λ x. replicate (one_by_one x ts).answer.inserted done ++ stopped_by (one_by_one x ts).answer.stop) parts.front);
        })
    go (suc row) e later =
        rw e
        (record {
          words = ap (λ x. x ++ drop lent w) (insert_stays (take lent w) t row e);
          answers = ap (λ (a : Answered). a ∷ []) (insert_answered (take lent w) t ∙ ap (λ n. record { refusal = n; value = 0; log = [] }) e);
        })

-- A step as the calls that it stands for.
record StepMade (s : Step) (w : List ℕ) : Type 0 where
  words : words_after_step s w ≡ run_words (calls_of s w) w
  answers : answers_of s w ≡ run_answers (calls_of s w) w

grid_refused : (row : ℕ) (w : List ℕ) (f : Filling) → grid_outcome (suc row) w f ≡ record { answer = record { refusal = suc row; inserted = 0; stop = 0 }; words = w }
unfolding grid_outcome
grid_refused row w f = refl

step_made : (s : Step) (w : List ℕ) → StepMade s w
unfolding words_after_step calls_of answers_of run_words run_answers unless_refused stopped_by
step_made (call c) w = record { words = refl; answers = refl }
step_made (grid lent g) w = go (grid_rows (take lent w) g) refl
  where
    refused : (row : ℕ) → grid_rows (take lent w) g ≡ suc row → insert_grid (take lent w) g ≡ record { answer = record { refusal = suc row; inserted = 0; stop = 0 }; words = take lent w }
    refused row e = unfold insert_grid in (ap (λ n. grid_outcome n (take lent w) (filled (read (take lent w)) (grid_trials g))) e ∙ grid_refused row _ _)

    go : (row : ℕ) → grid_rows (take lent w) g ≡ row → StepMade (grid lent g) w
    go zero e =
        let all = made lent (grid_trials g) w in
        let same = grids.insertions (take lent w) g e in
        record {
          words = ap (λ o. o.words ++ drop lent w) same ∙ sym all.words ∙ ap (λ n. run_words (unless_refused n (insertions lent (grid_trials g) w)) w) (sym e);
          answers =
              ap (λ o. replicate o.answer.inserted done ++ stopped_by o.answer.stop) same
              ∙ sym all.answers
              ∙ ap (λ n. run_answers (unless_refused n (insertions lent (grid_trials g) w)) w) (sym e);
        }
    go (suc row) e =
        record {
          words = ap (λ o. o.words ++ drop lent w) (refused row e) ∙ take-append-drop lent w ∙ ap (λ n. run_words (unless_refused n (insertions lent (grid_trials g) w)) w) (sym e);
          answers =
              ap (λ o. replicate o.answer.inserted done ++ stopped_by o.answer.stop) (refused row e)
              ∙ ap (λ n. run_answers (unless_refused n (insertions lent (grid_trials g) w)) w) (sym e);
        }

-- Calls one after the other.
run_more : (c d : List Call) (w : List ℕ) → run_words (c ++ d) w ≡ run_words d (run_words c w)
unfolding run_words
run_more [] d w = refl
run_more (x ∷ c) d w = run_more c d (words_after x w)

answers_more : (c d : List Call) (w : List ℕ) → run_answers (c ++ d) w ≡ run_answers c w ++ run_answers d (run_words c w)
unfolding run_words run_answers
answers_more [] d w = refl
answers_more (x ∷ c) d w = ap (λ l. answered (on_words x w) ∷ l) (answers_more c d (words_after x w))

one_by_one_made : (steps : List Step) (w : List ℕ) → OneByOne steps w
unfolding run_steps all_calls all_answers run_words run_answers
one_by_one_made [] w = record { words = refl; answers = refl }
one_by_one_made (s ∷ steps) w =
    let here = step_made s w in
    let later = one_by_one_made steps (words_after_step s w) in
    record {
      words =
          later.words
          ∙ ap (run_words (all_calls steps (words_after_step s w))) here.words
          ∙ sym (run_more (calls_of s w) (all_calls steps (words_after_step s w)) w);
      answers =
          ap₂ (λ a b. a ++ b) here.answers (later.answers ∙ ap (run_answers (all_calls steps (words_after_step s w))) here.words)
          ∙ sym (answers_more (calls_of s w) (all_calls steps (words_after_step s w)) w);
    }

across : (before begun : List ℕ) (s : Shape) (b : Book) → Begun before begun s b → (steps : List Step) → HoldAcross before begun s b steps
across before begun s b h steps =
    let one = one_by_one_made steps begun in
    let told = history before begun s b h (all_calls steps begun) in
    let run = whole_history before begun s b h (all_calls steps begun) in
    record {
      words = rw one.words told.words;
      words_behind = rw one.words told.words_behind;
      answers = one.answers ∙ told.answers;
      holds = rw one.words (holds_just s _ _ _ run.holds);
      counts = rw one.words (keeps_counts s _ _ _ run.holds);
    }

pub across_grids : AcrossGrids
across_grids =
    record {
      as_calls = one_by_one_made;
      after_start = λ before s steps e. across before _ s _ (started before s e) steps;
      after_loading = λ before card steps e. across before _ _ _ (card_begun before card e) steps;
    }
