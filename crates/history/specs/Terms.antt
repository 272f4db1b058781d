-- Terms 2 and 3 of document 00, each as one statement, after a start. Their proofs are in proofs/Terms. The crate terms says
-- the same after a loading.
use Rattle.std.specs.Prelude.{ℕ, ◌≡◌, List, length}
use Rattle.words.specs.Archive.{Trial, Shape}
use Rattle.calls.specs.Lent.{start}
use Rattle.history.specs.Book.{Book, opened}
use Rattle.history.specs.History.{Call, run_words, run_book, Agrees}
use Rattle.history.specs.Kept.{HoldsJust, KeepsCounts}
use Rattle.history.specs.Moves.{InsertionLowers, RemovalRaises, ReductionDrops}

-- "After a start that is done" the book "has that start's reference and capacity and no trial".
abbrev pub opened_by : Shape → Book
opened_by s = opened s.capacity s.rx s.ry s.rz

-- The words and the surviving trials after a start on these words and a list of calls.
abbrev pub words_of : (before : List ℕ) → Shape → List Call → List ℕ
words_of before s calls = run_words calls (start before s).words

abbrev pub survivors : (before : List ℕ) → Shape → List Call → List Trial
survivors before s calls = (run_book (length before) calls (opened_by s)).trials

-- Term 2, "on an archive that only the library writes": after every start that is done, "whatever the slice held", and
-- every list of calls.
pub record Term2 : Type 0 where
  pub holds : (before : List ℕ) (s : Shape) (calls : List Call) → (start before s).refusal ≡ 0
      → HoldsJust (words_of before s calls) s (survivors before s calls)
  pub counts : (before : List ℕ) (s : Shape) (calls : List Call) → (start before s).refusal ≡ 0
      → KeepsCounts (words_of before s calls) s (survivors before s calls)

-- Term 3: the claim "about the whole list", and the last two sentences "for every such call that is done, on any
-- archive".
pub record Term3 : Type 0 where
  pub histories : (before : List ℕ) (s : Shape) (calls : List Call) → (start before s).refusal ≡ 0
      → Agrees before (start before s).words (opened_by s) calls
  pub insertions : InsertionLowers
  pub removals : RemovalRaises
  pub reductions : ReductionDrops
