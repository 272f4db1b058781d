-- The trial book (document 01, "The trial book"): "fed the arguments of the start and the calls and nothing else; of
-- a lent slice only the length". It knows neither words nor the archive's order, and its rows and its least are
-- written here a second time from document 01's text, so that the theorem holds one text against the other. It
-- shares with the archive's definitions only what a trial is, the counts of cells and plain connectives.
use Rattle.std.specs.Prelude.{ℕ, zero, suc, ◌+◌, ◌-◌, ◌*◌, Bool, true, false, not, List, ◌∷◌, ◌++◌, map, [], leb, ltb, eqb, length}
use Rattle.hypervolume.specs.Counts.{contribution}
use Rattle.words.specs.Archive.{Trial, point}
use Rattle.slices.specs.Choices.{both, pick, either}

-- "It keeps a reference, a capacity and the surviving trials, a number and a point each." The trials stand as they
-- were entered, the last in front.
pub record Book : Type 0 where
  pub capacity : ℕ
  pub rx : ℕ
  pub ry : ℕ
  pub rz : ℕ
  pub trials : List Trial

-- What the book is fed: the call's arguments, and of the lent slices the lengths.
pub data Request : Type 0 where
  insert : (slice : ℕ) (trial : Trial) → Request
  remove : (slice : ℕ) (number : ℕ) → Request
  reduce : (slice : ℕ) (k rule : ℕ) (log : ℕ) → Request

-- What the book answers: a refusal number, or 0; how many trials a reduce struck out; what it noted.
pub record Reply : Type 0 where
  pub refusal : ℕ
  pub value : ℕ
  pub notes : List ℕ

-- The book as a call leaves it, with its reply.
pub record Turn : Type 0 where
  pub book : Book
  pub reply : Reply

-- One of two turns: refused where the condition holds.
unfoldable pub refuse_if : Bool → ℕ → Book → Turn → Turn
refuse_if true number b otherwise = record { book = b; reply = record { refusal = number; value = 0; notes = [] } }
refuse_if false number b otherwise = otherwise

-- "Refused by row 1 where its archive slice is shorter than 8 + 5 × capacity."
unfoldable pub row_1 : ℕ → Book → Turn → Turn
row_1 slice b otherwise = refuse_if (ltb slice (8 + 5 * b.capacity)) 1 b otherwise

-- Whether the book has a trial of this number.
unfoldable pub has : ℕ → List Trial → Bool
has n [] = false
has n (t ∷ ts) = either (eqb n t.number) (has n ts)

-- "Insert enters the trial."
unfoldable pub entered : Trial → Book → Book
entered t b =
    record { capacity = b.capacity; rx = b.rx; ry = b.ry; rz = b.rz; trials = t ∷ b.trials }

-- "Remove strikes it out."
unfoldable pub struck_out : ℕ → List Trial → List Trial
struck_out n [] = []
struck_out n (t ∷ ts) = pick (eqb n t.number) (struck_out n ts) (t ∷ struck_out n ts)

unfoldable pub struck : ℕ → Book → Book
struck n b =
    record {
      capacity = b.capacity;
      rx = b.rx;
      ry = b.ry;
      rz = b.rz;
      trials = struck_out n b.trials;
    }

-- Rows 5 to 8, "with held, count, capacity and reference read from the book"; then insert enters the trial. "Row 6 is
-- given only above 1,048,576" (document 02, W-201), so the reference is not asked.
unfoldable pub book_insert : ℕ → Trial → Book → Turn
book_insert slice t b =
    row_1 slice b
    (refuse_if (either (ltb t.number 1) (ltb 9999999 t.number)) 5 b
    (refuse_if (either (ltb 1048576 t.x) (either (ltb 1048576 t.y) (ltb 1048576 t.z))) 6 b
    (refuse_if (has t.number b.trials) 7 b
    (refuse_if (eqb (length b.trials) b.capacity) 8 b
    (record { book = entered t b; reply = record { refusal = 0; value = 0; notes = [] } })))))

-- Row 9; then remove strikes the trial out.
unfoldable pub book_remove : ℕ → ℕ → Book → Turn
book_remove slice n b =
    row_1 slice b
    (refuse_if (not (has n b.trials)) 9 b
    (record { book = struck n b; reply = record { refusal = 0; value = 0; notes = [] } }))

-- "Contributions are counted on the trials then remaining."
unfoldable pub counted_contribution : Book → Trial → ℕ
counted_contribution b t = contribution (b.rx ∷ b.ry ∷ b.rz ∷ []) (map point b.trials) (point t)

-- "Among equal least contributors the lowest trial number now goes"; "1 the highest" (document 02, W-206): the one of t and u that
-- goes where they contribute alike.
unfoldable pub at_a_tie : (rule : ℕ) → Trial → Trial → Trial
at_a_tie zero t u = pick (ltb t.number u.number) t u
at_a_tie (suc other) t u = pick (ltb u.number t.number) t u

-- "The least goes, among equals by the rule of Least": the one of t and u that goes.
unfoldable pub rather : (rule : ℕ) → Book → Trial → Trial → Trial
rather rule b t u =
    pick (ltb (counted_contribution b t) (counted_contribution b u)) t
    (pick (ltb (counted_contribution b u) (counted_contribution b t)) u (at_a_tie rule t u))

unfoldable pub least_of : (rule : ℕ) → Book → Trial → List Trial → Trial
least_of rule b t [] = t
least_of rule b t (u ∷ ts) = least_of rule b (rather rule b t u) ts

unfoldable pub least_trial : (rule : ℕ) → Book → List Trial → Trial
least_trial rule b [] = record { number = 0; x = 0; y = 0; z = 0 }
least_trial rule b (t ∷ ts) = least_of rule b t ts

-- "The book notes its number and that count."
unfoldable pub book_note : (rule : ℕ) → Book → List ℕ
book_note rule b =
    (least_trial rule b b.trials).number ∷ counted_contribution b (least_trial rule b b.trials) ∷ []

-- "Strikes out one trial at a time": n of them.
unfoldable pub thinned : (rule : ℕ) → ℕ → Book → Book
thinned rule zero b = b
thinned rule (suc n) b = thinned rule n (struck (least_trial rule b b.trials).number b)

unfoldable pub book_notes : (rule : ℕ) → ℕ → Book → List ℕ
book_notes rule zero b = []
book_notes rule (suc n) b =
    book_note rule b ++ book_notes rule n (struck (least_trial rule b b.trials).number b)

-- Row 18, a "tie rule neither 0 nor 1", and rows 11 and 12; then reduce strikes out "until k remain" and "answers how many it
-- struck out".
unfoldable pub book_reduce : (slice k rule log : ℕ) → Book → Turn
book_reduce slice k rule log b =
    row_1 slice b
    (refuse_if (ltb 1 rule) 18 b
    (refuse_if (ltb (length b.trials) k) 11 b
    (refuse_if (ltb log (2 * (length b.trials - k))) 12 b
    (record {
      book = thinned rule (length b.trials - k) b;
      reply =
          record {
            refusal = 0;
            value = length b.trials - k;
            notes = book_notes rule (length b.trials - k) b;
          };
    }))))

-- One call on the book.
unfoldable pub book_turn : Request → Book → Turn
book_turn (insert slice t) b = book_insert slice t b
book_turn (remove slice n) b = book_remove slice n b
book_turn (reduce slice k rule log) b = book_reduce slice k rule log b

-- "On the front: those for which no other trial is at most equal on all axes and smaller on at least one" (document 02, W-209).
-- Whether t is so beside u; whether no trial of a list is so beside t; how many trials of a list no trial of all is so beside.
unfoldable pub better : Trial → Trial → Bool
better t u =
    both (leb t.x u.x)
    (both (leb t.y u.y)
    (both (leb t.z u.z) (either (ltb t.x u.x) (either (ltb t.y u.y) (ltb t.z u.z)))))

unfoldable pub none_better : List Trial → Trial → Bool
none_better [] t = true
none_better (u ∷ ts) t = both (not (better u t)) (none_better ts t)

unfoldable pub on_front : List Trial → List Trial → ℕ
on_front all [] = 0
on_front all (t ∷ ts) = pick (none_better all t) (suc (on_front all ts)) (on_front all ts)

unfoldable pub book_front : Book → ℕ
book_front b = on_front b.trials b.trials

-- "After a start that is done it has that start's reference and capacity and no trial."
unfoldable pub opened : (capacity rx ry rz : ℕ) → Book
opened capacity rx ry rz = record { capacity = capacity; rx = rx; ry = ry; rz = rz; trials = [] }
