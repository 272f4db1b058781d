-- Term 3 of document 00, its claim about whole lists of calls: by induction on the list, through one invariant (Steps:
-- the words hold the fresh archive of the book, and behind it what lay there at the start).
use Prim.Native.Nat.{ℕ, ◌+◌, ◌≤◌}
use mathlib.Core.Path.{◌≡◌, refl, sym, ap, ◌∙◌}
use mathlib.Core.List.{List, ◌∷◌, []}
use native.Mathlib.Omega.{arith}
use lib.ListN.{length, take, drop, length-drop}
use lib.Seq.{take_at, drop_at}
use borrow.Author.Tests.{ltb-false, not-false}
use Rattle.words.specs.Archive.{Shape}
use Rattle.words.specs.Layout.{extent}
use Rattle.words.proofs.Passed.{guard_none}
use Rattle.calls.specs.Calls.{empty, in_order}
use Rattle.calls.specs.Lent.{leaves, start_rows, start}
use Rattle.calls.proofs.Counted.{empty_counted}
use Rattle.calls.proofs.Sound.{empty_sound}
use Rattle.calls.proofs.Lent.{leaves_refusal, leaves_unrefused}
use Rattle.history.specs.Book.{Book, book_turn, opened}
use Rattle.history.specs.History.{Call, on_words, words_after, run_words, run_answers, request, run_book, book_answers, shape_of_book, fresh_archive, fresh, Agrees}
use Rattle.history.specs.Terms.{opened_by}
use Rattle.history.proofs.Thinning.{fresh_is}
use Rattle.history.proofs.Steps.{Holds, Agree, fresh_length, holds_length, step}

-- The length of the words does not change.
fresh_size : (s : Shape) (rest w : List ℕ) (b : Book) → Holds s rest b w → length (fresh b) ≡ extent s.capacity
unfolding shape_of_book
fresh_size s rest w b h = fresh_length s rest w b h ∙ ap (λ t. extent t.capacity) h.shape

pub holds_size : (s : Shape) (rest w : List ℕ) (b : Book) → Holds s rest b w → length w ≡ extent s.capacity + length rest
unfolding shape_of_book
holds_size s rest w b h =
    holds_length s rest w b h ∙ ap (λ t. extent t.capacity + length rest) h.shape

-- A list of calls, from words that hold a book's fresh archive.
pub record RunsAlike (s : Shape) (rest w : List ℕ) (b : Book) (size : ℕ) (calls : List Call) : Type 0 where
  pub holds : Holds s rest (run_book size calls b) (run_words calls w)
  pub answers : run_answers calls w ≡ book_answers size calls b

pub runs_alike : (calls : List Call) (s : Shape) (rest w : List ℕ) (b : Book) → Holds s rest b w
    → RunsAlike s rest w b (extent s.capacity + length rest) calls
unfolding run_words run_answers run_book book_answers words_after
runs_alike [] s rest w b h = record { holds = h; answers = refl }
runs_alike (c ∷ calls) s rest w b h =
    let size : length w ≡ extent s.capacity + length rest = holds_size s rest w b h in
    let now : Agree s rest w c (on_words c w) (book_turn (request (extent s.capacity + length rest) c) b) =
    rw (← size) (step s rest w b h c) in
    let later = runs_alike calls s rest _ _ now.holds in
    record { holds = later.holds; answers = rw (now.answer, later.answers) }

-- A start that is done.
fresh_start : (s : Shape) → fresh_archive (opened s.capacity s.rx s.ry s.rz) ≡ empty s
unfolding shape_of_book opened in_order
fresh_start s = fresh_is (opened s.capacity s.rx s.ry s.rz) ∙ sym (empty_counted s)

-- What a start or a loading that is done has left: words that hold the fresh archive of the book that it opened.
pub record Begun (before begun : List ℕ) (s : Shape) (b : Book) : Type 0 where
  pub size : length before ≡ extent s.capacity + length (drop (extent s.capacity) before)
  pub holds : Holds s (drop (extent s.capacity) before) b begun

pub started : (before : List ℕ) (s : Shape) → (start before s).refusal ≡ 0 → Begun before (start before s).words s (opened_by s)
unfolding start start_rows
started before s e =
    let passed : start_rows (length before) s ≡ 0 = sym (leaves_refusal before [] (start_rows (length before) s) 0 _ []) ∙ e in
    let shaped = guard_none _ _ _ passed in
    let long = guard_none _ _ _ shaped.1 in
    let enough : extent s.capacity ≤ length before = ltb-false _ _ long.0 in
    record {
      size = omega (arith, length-drop (extent s.capacity) before);
      holds =
          record {
            shape = unfold shape_of_book opened in refl;
            sound = rw (fresh_start s) (empty_sound s (not-false _ shaped.0));
            words = ap (λ o. o.words) (leaves_unrefused before [] (start_rows (length before) s) 0 _ [] e) ∙ unfold leaves fresh in rw (fresh_start s);
          };
    }

-- The words before the extent and behind it.
pub holds_front : (s : Shape) (rest w : List ℕ) (b : Book) → Holds s rest b w → take (extent s.capacity) w ≡ fresh b
holds_front s rest w b h = rw h.words (take_at (fresh b) rest (extent s.capacity) (fresh_size s rest w b h))

pub holds_behind : (s : Shape) (rest w : List ℕ) (b : Book) → Holds s rest b w → drop (extent s.capacity) w ≡ rest
holds_behind s rest w b h = rw h.words (drop_at (fresh b) rest (extent s.capacity) (fresh_size s rest w b h))

module _ (before begun : List ℕ) (s : Shape) (b : Book) (h : Begun before begun s b) (calls : List Call) where
  -- A whole history: what holds after it, with the book's answers.
  pub whole_history : RunsAlike s (drop (extent s.capacity) before) begun b (length before) calls
  whole_history = rw h.size (runs_alike calls s _ begun b h.holds)

  -- Term 3: "for every such list, the archive's words after it are those of a fresh archive .. and every call has
  -- answered as the trial book of document 01 does".
  pub history : Agrees before begun b calls
  unfolding shape_of_book
  history =
      let run = whole_history in
      let same : b.capacity ≡ s.capacity = ap (λ t. t.capacity) h.holds.shape in
      record {
        words = ap (λ k. take (extent k) (run_words calls begun)) same ∙ holds_front s _ _ _ run.holds;
        words_behind =
            ap (λ k. drop (extent k) (run_words calls begun)) same
            ∙ holds_behind s _ _ _ run.holds
            ∙ ap (λ k. drop (extent k) before) (sym same);
        answers = run.answers;
      }
