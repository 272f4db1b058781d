-- Terms 2 and 3 of document 00 across grids (document 02, W-203). A list of calls in which grids occur comes to a list without them, each
-- grid reduced to its insertions, "stopping at the first" that is refused; so what is proved of a list of calls is proved of it.
use Rattle.std.specs.Prelude.{ℕ, zero, suc, ◌≡◌, List, ◌∷◌, ◌++◌, [], length, take, drop, replicate}
use Rattle.words.specs.Archive.{Trial, Shape}
use Rattle.words.specs.Layout.{extent}
use Rattle.calls.specs.Lent.{start}
use Rattle.calls.specs.Grid.{grid_trials, grid_rows, GridOutcome, insert_grid}
use Rattle.card.specs.Card.{load}
use Rattle.history.specs.Book.{Book}
use Rattle.history.specs.History.{Call, Answered, on_words, words_after, answered, run_words, run_answers, run_book, book_answers, fresh}
use Rattle.history.specs.Kept.{HoldsJust, KeepsCounts}
use Rattle.history.specs.Terms.{opened_by}
use Rattle.terms.specs.Loading.{card_shape, card_book, done}

-- A call of a list in which grids occur: a call as History has them, or a grid; each is lent the words that the last one left, or
-- a first part of them.
pub data Step : Type 0 where
  call : Call → Step
  grid : (lent : ℕ) (grid : List ℕ) → Step

-- What a grid does to the words that it is lent.
abbrev pub grid_on : (lent : ℕ) (g w : List ℕ) → GridOutcome
grid_on lent g w = insert_grid (take lent w) g

unfoldable pub words_after_step : Step → List ℕ → List ℕ
words_after_step (call c) w = words_after c w
words_after_step (grid lent g) w = (grid_on lent g w).words ++ drop lent w

-- Calls that are made unless a row turns something down before.
unfoldable pub unless_refused : (row : ℕ) → List Call → List Call
unless_refused zero calls = calls
unless_refused (suc row) calls = []

-- The insertions of these trials, made one after the other, up to the first that is refused.
unfoldable pub insertions : (lent : ℕ) → List Trial → List ℕ → List Call
insertions lent [] w = []
insertions lent (t ∷ ts) w =
    Call.insert lent t
    ∷ unless_refused (on_words (Call.insert lent t) w).refusal (insertions lent ts (words_after (Call.insert lent t) w))

-- The calls that a step stands for. A grid that is refused stands for none.
unfoldable pub calls_of : Step → List ℕ → List Call
calls_of (call c) w = c ∷ []
calls_of (grid lent g) w = unless_refused (grid_rows (take lent w) g) (insertions lent (grid_trials g) w)

-- Their answers, as the step's answer tells them: of a grid as many that are done as "went in", and then the one that stopped it.
unfoldable pub stopped_by : (row : ℕ) → List Answered
stopped_by zero = []
stopped_by (suc row) = record { refusal = suc row; value = 0; log = [] } ∷ []

unfoldable pub answers_of : Step → List ℕ → List Answered
answers_of (call c) w = answered (on_words c w) ∷ []
answers_of (grid lent g) w =
    replicate (grid_on lent g w).answer.inserted done ++ stopped_by (grid_on lent g w).answer.stop

-- The words after a list of steps, the calls that they stand for, and the answers of these.
unfoldable pub run_steps : List Step → List ℕ → List ℕ
run_steps [] w = w
run_steps (s ∷ steps) w = run_steps steps (words_after_step s w)

unfoldable pub all_calls : List Step → List ℕ → List Call
all_calls [] w = []
all_calls (s ∷ steps) w = calls_of s w ++ all_calls steps (words_after_step s w)

unfoldable pub all_answers : List Step → List ℕ → List Answered
all_answers [] w = []
all_answers (s ∷ steps) w = answers_of s w ++ all_answers steps (words_after_step s w)

-- "Its outcome equals inserting them one by one": the words after the steps, and their answers, are those of the calls.
pub record OneByOne (steps : List Step) (w : List ℕ) : Type 0 where
  pub words : run_steps steps w ≡ run_words (all_calls steps w) w
  pub answers : all_answers steps w ≡ run_answers (all_calls steps w) w

-- Terms 2 and 3 of the steps after a start or a loading that left the words `begun` and opened the book b: what Agrees, HoldsJust and
-- KeepsCounts say of a list of calls, with the book fed the insertions that the grids stand for.
pub record HoldAcross (before begun : List ℕ) (s : Shape) (b : Book) (steps : List Step) : Type 0 where
  pub words : take (extent b.capacity) (run_steps steps begun) ≡ fresh (run_book (length before) (all_calls steps begun) b)
  pub words_behind : drop (extent b.capacity) (run_steps steps begun) ≡ drop (extent b.capacity) before
  pub answers : all_answers steps begun ≡ book_answers (length before) (all_calls steps begun) b
  pub holds : HoldsJust (run_steps steps begun) s (run_book (length before) (all_calls steps begun) b).trials
  pub counts : KeepsCounts (run_steps steps begun) s (run_book (length before) (all_calls steps begun) b).trials

-- For any words; and after every start and every loading that is done, for every list of steps.
pub record AcrossGrids : Type 0 where
  pub as_calls : (steps : List Step) (w : List ℕ) → OneByOne steps w
  pub after_start : (before : List ℕ) (s : Shape) (steps : List Step) → (start before s).refusal ≡ 0
      → HoldAcross before (start before s).words s (opened_by s) steps
  pub after_loading : (before card : List ℕ) (steps : List Step) → (load before card).answer.refusal ≡ 0
      → HoldAcross before (load before card).words (card_shape card) (card_book card) steps
