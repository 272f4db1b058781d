-- A history of calls on words and its agreement with the trial book (document 00, term 3). The run on words uses
-- the definitions that the contracts of the calls cite (Rattle.calls.specs.Lent), so the claim speaks of the code.
use Rattle.std.specs.Prelude.{ℕ, min, ◌≡◌, List, ◌∷◌, ◌++◌, [], length, take, drop}
use Rattle.words.specs.Archive.{Trial, Shape, Archive}
use Rattle.words.specs.Layout.{layout, extent}
use Rattle.calls.specs.Calls.{in_order}
use Rattle.calls.specs.Counted.{counted}
use Rattle.calls.specs.Lent
use Rattle.calls.specs.Lent.{Outcome}
use Rattle.history.specs.Book.{Book, Request, Reply, book_turn, book_front}

-- A call of the list: "each call is lent the words that the last one left, or only a first part of them" (lent, how
-- many), with any arguments, and for a reduce any log words.
pub data Call : Type 0 where
  insert : (lent : ℕ) (trial : Trial) → Call
  remove : (lent : ℕ) (number : ℕ) → Call
  reduce : (lent : ℕ) (k rule : ℕ) (log : List ℕ) → Call

-- What the call does to the words that it is lent.
unfoldable pub on_words : Call → List ℕ → Outcome
on_words (insert lent t) w = Lent.insert (take lent w) t
on_words (remove lent n) w = Lent.remove (take lent w) n
on_words (reduce lent k rule log) w = Lent.reduce (take lent w) k rule log

unfoldable pub lent_of : Call → ℕ
lent_of (insert lent t) = lent
lent_of (remove lent n) = lent
lent_of (reduce lent k rule log) = lent

-- The words after the call: the part lent as the call leaves it, then the rest.
unfoldable pub words_after : Call → List ℕ → List ℕ
words_after c w = (on_words c w).words ++ drop (lent_of c) w

-- What a call answered, and its log as it then is.
pub record Answered : Type 0 where
  pub refusal : ℕ
  pub value : ℕ
  pub log : List ℕ

unfoldable pub answered : Outcome → Answered
answered o = record { refusal = o.refusal; value = o.value; log = o.log }

-- The words after a list of calls, and all their answers.
unfoldable pub run_words : List Call → List ℕ → List ℕ
run_words [] w = w
run_words (c ∷ calls) w = run_words calls (words_after c w)

unfoldable pub run_answers : List Call → List ℕ → List Answered
run_answers [] w = []
run_answers (c ∷ calls) w = answered (on_words c w) ∷ run_answers calls (words_after c w)

-- What the book is fed of a call on words of this length: of the slices lent only the lengths.
unfoldable pub request : ℕ → Call → Request
request size (insert lent t) = Request.insert (min lent size) t
request size (remove lent n) = Request.remove (min lent size) n
request size (reduce lent k rule log) = Request.reduce (min lent size) k rule (length log)

-- The log that a call brings.
unfoldable pub log_of : Call → List ℕ
log_of (insert lent t) = []
log_of (remove lent n) = []
log_of (reduce lent k rule log) = log

-- The answer that the book's reply asks for: "the noted pairs in order, then its words as before".
unfoldable pub expected : Call → Reply → Answered
expected c r =
    record { refusal = r.refusal; value = r.value; log = r.notes ++ drop (length r.notes) (log_of c) }

-- The book after a list of calls, and the answers it asks for.
unfoldable pub run_book : ℕ → List Call → Book → Book
run_book size [] b = b
run_book size (c ∷ calls) b = run_book size calls (book_turn (request size c) b).book

unfoldable pub book_answers : ℕ → List Call → Book → List Answered
book_answers size [] b = []
book_answers size (c ∷ calls) b =
    expected c (book_turn (request size c) b).reply ∷ book_answers size calls (book_turn (request size c) b).book

-- The trials in the archive's order.
abbrev pub sorted : List Trial → List Trial
sorted ts = in_order (λ t. t) ts

unfoldable pub shape_of_book : Book → Shape
shape_of_book b = record { capacity = b.capacity; rx = b.rx; ry = b.ry; rz = b.rz }

-- "A fresh archive holding the surviving trials has the words set out above, with the book's reference, capacity
-- and trials, and with total and contributions counted on those trials alone." It "must agree in that word", the front, "as
-- well" (document 02, W-209); the book counts it for itself.
unfoldable pub fresh_archive : Book → Archive
fresh_archive b =
    record {
      shape = shape_of_book b;
      sum = (counted (shape_of_book b) (sorted b.trials)).sum;
      front = book_front b;
      rows = (counted (shape_of_book b) (sorted b.trials)).rows;
    }

unfoldable pub fresh : Book → List ℕ
fresh b = layout (fresh_archive b)

-- Term 3's claim about a whole list of calls. The slice held the words `before`; then a start or a loading that is done
-- wrote the archive whole: it left the words `begun` and opened the book b. After the calls the words before
-- 8 + 5 × capacity are those of a fresh archive of the book's survivors, the words behind are untouched, and every
-- answer and every log is the book's.
pub record Agrees (before begun : List ℕ) (b : Book) (calls : List Call) : Type 0 where
  pub words : take (extent b.capacity) (run_words calls begun) ≡ fresh (run_book (length before) calls b)
  pub words_behind : drop (extent b.capacity) (run_words calls begun) ≡ drop (extent b.capacity) before
  pub answers : run_answers calls begun ≡ book_answers (length before) calls b
