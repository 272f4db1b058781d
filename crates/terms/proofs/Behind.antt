-- Words from 8 + 5 × capacity on are neither read nor written: the proof, by forms of calls. A question answers by
-- its rows and the archive that it reads; insert, remove and reduce write a new archive besides; a rearranging writes another
-- slice; start and loading go by the capacity given.
use Prim.Native.Nat.{ℕ, zero, suc, ◌+◌, ◌-◌, ◌*◌, ◌%◌, ◌≤◌}
use mathlib.Core.Path.{◌≡◌, refl, sym, ap, ◌∙◌}
use mathlib.Core.Bool.{Bool, true, false, not}
use mathlib.Core.List.{List, ◌∷◌, ◌++◌, map, []}
use mathlib.Core.Option.{Option, none, some}
use native.Mathlib.Omega.{arith}
use lib.Dec.{ltb, eqb}
use lib.ListN.{length, get_or, take, drop}
use lib.Seq.{take_at, drop_at}
use borrow.Author.Tests.{ltb-false, le-ltb, not-false}
use Rattle.hypervolume.specs.Cells.{holds}
use Rattle.text.specs.Lines.{Numbers}
use Rattle.words.specs.Archive.{Trial, Shape, Archive}
use Rattle.words.specs.Layout.{extent, layout, word, read_shape, read, behind}
use Rattle.words.specs.Format.{guard, shape_allowed, archive_rows}
use Rattle.words.proofs.Reading.{length_layout, behind_layout}
use Rattle.words.proofs.Passed.{guard_none, Sound, passed, passed_both}
use Rattle.calls.specs.Calls.{empty, inserted, removed, least_row, least_rows, joint_of, joint_rows, insert_gain, gain_rows, share_of, audited, dropped, after_drops, reduce_rows}
use Rattle.calls.specs.declared.Answer.{Answer}
use Rattle.calls.specs.Lent
use Rattle.calls.specs.Lent.{Outcome, leaves, answer, least_answer, start_rows}
use Rattle.calls.specs.Grid
use Rattle.calls.specs.Grid.{grid_trials, filled, grid_rows, GridOutcome, grid_outcome}
use Rattle.calls.specs.Replacement
use Rattle.calls.specs.Replacement.{change_of, replace_rows, change}
use Rattle.calls.proofs.Counted.{audited_counted}
use Rattle.calls.proofs.Grid.{grid_passes, filled_fair}
use Rattle.calls.proofs.Sound.{insert_passed, remove_passed, inserted_sound, removed_sound}
use Rattle.calls.proofs.Drops.{drops_down}
use Rattle.axes.specs.Rearranging
use Rattle.axes.specs.Rearranging.{rearranged_archive, rearrange_rows}
use Rattle.card.specs.Card
use Rattle.card.specs.Card.{shape_on, lines}
use Rattle.card.specs.Verdict.{judge, answer_of}
use Rattle.card.proofs.Theorems.{load_answer, load_stays}
use Rattle.history.proofs.Steps.{Deed, insert_deed, remove_deed, reduce_deed}
use Rattle.history.proofs.Histories.{holds_front, holds_behind}
use Rattle.printing.specs.Texts.{text_rows, output}
use Rattle.reports.specs.Report
use Rattle.reports.specs.Report.{report_text, report_rows, reported}
use Rattle.writing.specs.Written
use Rattle.writing.specs.Written.{card_text, write_rows}
use Rattle.terms.specs.Loading.{no_numbers, numbers_on, card_shape}
use Rattle.terms.specs.Behind.{sides, ArchiveCall, written, only_read, result, capacity_for, reach, DoneAlike, WordsBehind}
use Rattle.terms.proofs.Loading.{card_begun}
use Rattle.terms.proofs.Seen.{Alike, by_length, Seen, turned_down, held, seen, refused_row, reads, passes}

-- Questions: what comes of the refusal and of the archive that is read, where a refusal leaves nothing of the archive.
question : {A : Type 0} (rows : Archive → ℕ) (f : ℕ → Archive → A) → ((n : ℕ) (a b : Archive) → f (suc n) a ≡ f (suc n) b)
    → (v w : List ℕ) → Alike (extent (word v 1)) v w → f (archive_rows v (rows (read v))) (read v) ≡ f (archive_rows w (rows (read w))) (read w)
question rows f k v w h = go (seen v w h)
  where
    go : Seen v w → f (archive_rows v (rows (read v))) (read v) ≡ f (archive_rows w (rows (read w))) (read w)
    go (turned_down n e d) =
        rw (refused_row v n (rows (read v)) e, refused_row w n (rows (read w)) d) (k n (read v) (read w))
    go (held a b c s e d) =
        rw (reads v b a e, reads w c a d, passes v b a e s (rows a), passes w c a d s (rows a))

answers_alike : (rows value : Archive → ℕ) (v w : List ℕ) → Alike (extent (word v 1)) v w
    → answer (archive_rows v (rows (read v))) (value (read v)) ≡ answer (archive_rows w (rows (read w))) (value (read w))
unfolding answer
answers_alike rows value v w h = question rows (λ k a. answer k (value a)) (λ n a b. refl) v w h

-- Texts of an archive: what is answered, and the output.
texts_alike : (bytes : ℕ) (text : Archive → List ℕ) (out v w : List ℕ) → Alike (extent (word v 1)) v w
    → (answer (text_rows bytes v out) (length (text (read v))) ≡ answer (text_rows bytes w out) (length (text (read w))))
    × (output (text_rows bytes v out) (text (read v)) out ≡ output (text_rows bytes w out) (text (read w)) out)
unfolding text_rows output
texts_alike bytes text out v w h =
    let rows : Archive → ℕ = λ a. guard (ltb (length out) (bytes * (length a.rows + 1))) 16 0 in
    (answers_alike rows (λ a. length (text a)) v w h, question rows (λ n a. output n (text a) out) (λ n a b. refl) v w h)

-- Two outcomes that are alike before a place.
record LeftAlike (e : ℕ) (o p : Outcome) : Type 0 where
  answer : (written o).answer ≡ (written p).answer
  words : take e o.words ≡ take e p.words
  log : o.log ≡ p.log

-- The same words before a place, whatever lies behind.
front_alike : (new b c : List ℕ) (e : ℕ) → length new ≡ e → take e (new ++ b) ≡ take e (new ++ c)
front_alike new b c e long = take_at new b e long ∙ sym (take_at new c e long)

leaves_alike : (v w log : List ℕ) (k value : ℕ) (new b c noted : List ℕ) (e : ℕ) → take e v ≡ take e w → (k ≡ 0 → length new ≡ e)
    → LeftAlike e (leaves v log k value (new ++ b) noted) (leaves w log k value (new ++ c) noted)
unfolding leaves written
leaves_alike v w log zero value new b c noted e same fits =
    record { answer = refl; words = front_alike new b c e (fits refl); log = refl }
leaves_alike v w log (suc k) value new b c noted e same fits = record { answer = refl; words = same; log = refl }

refusals_alike : (v w log : List ℕ) (n : ℕ) (i j : ℕ) (a b c d : List ℕ) (e : ℕ) → take e v ≡ take e w
    → LeftAlike e (leaves v log (suc n) i a c) (leaves w log (suc n) j b d)
unfolding leaves written
refusals_alike v w log n i j a b c d e same = record { answer = refl; words = same; log = refl }

leaves_behind : (w log : List ℕ) (k value : ℕ) (new noted : List ℕ) (e : ℕ) → (k ≡ 0 → length new ≡ e)
    → drop e (leaves w log k value (new ++ drop e w) noted).words ≡ drop e w
unfolding leaves
leaves_behind w log zero value new noted e fits = drop_at new (drop e w) e (fits refl)
leaves_behind w log (suc k) value new noted e fits = refl

-- Calls that write (Deed): the new archive takes as many words as the old one.
abbrev Fits : Deed → Type 0
Fits d = (a : Archive) → Sound a → d.rows a ≡ 0 → length (layout (d.new a)) ≡ extent a.shape.capacity

abbrev outcome : Deed → List ℕ → List ℕ → Outcome
outcome d log w =
    leaves w log (archive_rows w (d.rows (read w))) (d.value (read w)) (layout (d.new (read w)) ++ behind w) (d.noted (read w))

outcome_held : (d : Deed) (log w b : List ℕ) (a : Archive) → w ≡ layout a ++ b → Sound a
    → outcome d log w ≡ leaves w log (d.rows a) (d.value a) (layout (d.new a) ++ b) (d.noted a)
outcome_held d log w b a e s =
    let after : behind w ≡ b = ap behind e ∙ behind_layout a b s.held_within in
    rw (reads w b a e, passes w b a e s (d.rows a), after)

deed_alike : (d : Deed) → Fits d → (log v w : List ℕ) → Alike (extent (word v 1)) v w → LeftAlike (extent (word v 1)) (outcome d log v) (outcome d log w)
unfolding read read_shape
deed_alike d fits log v w h = go (seen v w h)
  where
    go : Seen v w → LeftAlike (extent (word v 1)) (outcome d log v) (outcome d log w)
    go (turned_down n e f) =
        rw (refused_row v n (d.rows (read v)) e, refused_row w n (d.rows (read w)) f)
        (refusals_alike v w log n _ _ _ _ _ _ (extent (word v 1)) h.same)
    go (held a b c s e f) =
        let size : extent a.shape.capacity ≡ extent (word v 1) = ap (λ k. extent k.shape.capacity) (sym (reads v b a e)) in
        rw (outcome_held d log v b a e s, outcome_held d log w c a f s)
        (leaves_alike v w log (d.rows a) (d.value a) (layout (d.new a)) b c (d.noted a) (extent (word v 1)) h.same (λ z. fits a s z ∙ size))

deed_behind : (d : Deed) → Fits d → (log w : List ℕ) → drop (extent (word w 1)) (outcome d log w).words ≡ drop (extent (word w 1)) w
unfolding behind read read_shape
deed_behind d fits log w =
    leaves_behind w log (archive_rows w (d.rows (read w))) (d.value (read w)) (layout (d.new (read w))) (d.noted (read w)) (extent (word w 1))
    (λ e. let both = passed_both w (d.rows (read w)) e in fits (read w) (passed w both.0).sound both.1)

insert_fits : (t : Trial) → Fits (insert_deed t)
unfolding inserted
insert_fits t a s e = length_layout (inserted a t) (inserted_sound a t s (insert_passed a t e)).held_within

remove_fits : (n : ℕ) → Fits (remove_deed n)
unfolding removed
remove_fits n a s e = length_layout (removed a n) (removed_sound a n s (remove_passed a n e)).held_within

drops_shape : (rule n : ℕ) (a : Archive) → (after_drops rule n a).shape ≡ a.shape
unfolding after_drops dropped removed
drops_shape rule zero a = refl
drops_shape rule (suc n) a = drops_shape rule n (dropped rule a)

reduce_fits : (k rule : ℕ) (log : List ℕ) → Fits (reduce_deed k rule log)
unfolding reduce_rows
reduce_fits k rule log a s e =
    let ruled = guard_none _ _ _ e in
    let enough = guard_none _ _ _ ruled.1 in
    let room = guard_none _ _ _ enough.1 in
    let yes = guard_none _ _ _ room.1 in
    let most : k ≤ length a.rows = ltb-false _ _ enough.0 in
    let n : ℕ = length a.rows - k in
    let all = drops_down rule n a s (audited_counted a (not-false _ yes.0)) (omega arith) in
    length_layout (after_drops rule n a) all.sound.held_within ∙ ap (λ q. extent q.capacity) (drops_shape rule n a)

-- A grid: the archive that it fills takes as many words as before.
grid_fits : (ts : List Trial) (a : Archive) → Sound a → length (layout (filled a ts).archive) ≡ extent a.shape.capacity
grid_fits ts a s =
    let all = filled_fair 0 a ts s (omega arith) in
    length_layout (filled a ts).archive all.sound.held_within ∙ ap (λ q. extent q.capacity) all.shaped

-- Two outcomes of a grid that are alike before a place.
record GridAlike (e : ℕ) (o p : GridOutcome) : Type 0 where
  answer : o.answer ≡ p.answer
  words : take e o.words ≡ take e p.words

grid_alike : (g v w : List ℕ) → Alike (extent (word v 1)) v w → GridAlike (extent (word v 1)) (Grid.insert_grid v g) (Grid.insert_grid w g)
unfolding Grid.insert_grid grid_rows guard grid_outcome read read_shape
grid_alike g v w h = go (not (eqb (length g % 4) 0)) (seen v w h)
  where
    go : (odd : Bool) → Seen v w
        → GridAlike (extent (word v 1)) (grid_outcome (guard odd 17 (archive_rows v 0)) v (filled (read v) (grid_trials g))) (grid_outcome (guard odd 17 (archive_rows w 0)) w (filled (read w) (grid_trials g)))
    go true s = record { answer = refl; words = h.same }
    go false (turned_down n e f) = rw (e, f) (record { answer = refl; words = h.same })
    go false (held a b c s e f) =
        let size : extent a.shape.capacity ≡ extent (word v 1) = ap (λ k. extent k.shape.capacity) (sym (reads v b a e)) in
        let long : length (layout (filled a (grid_trials g)).archive) ≡ extent (word v 1) = grid_fits (grid_trials g) a s ∙ size in
        rw (passes v b a e s 0, passes w c a f s 0, reads v b a e, reads w c a f)
        (record { answer = refl; words = front_alike (layout (filled a (grid_trials g)).archive) (behind v) (behind w) (extent (word v 1)) long })

grid_behind : (g w : List ℕ) → drop (extent (word w 1)) (Grid.insert_grid w g).words ≡ drop (extent (word w 1)) w
unfolding Grid.insert_grid grid_outcome behind read read_shape
grid_behind g w = go (grid_rows w g) refl
  where
    go : (row : ℕ) → grid_rows w g ≡ row → drop (extent (word w 1)) (grid_outcome row w (filled (read w) (grid_trials g))).words ≡ drop (extent (word w 1)) w
    go zero e = drop_at (layout (filled (read w) (grid_trials g)).archive) (behind w) (extent (word w 1)) (grid_fits (grid_trials g) (read w) (passed w (grid_passes w g e)).sound)
    go (suc row) e = refl

-- Rearranging: it leaves the archive's words, and what it leaves besides comes of the archive that is read.
stays_alike : (v w second : List ℕ) (k : ℕ) (noted : List ℕ) (e : ℕ) → take e v ≡ take e w → LeftAlike e (leaves v second k 0 v noted) (leaves w second k 0 w noted)
unfolding leaves written
stays_alike v w second zero noted e same = record { answer = refl; words = same; log = refl }
stays_alike v w second (suc k) noted e same = record { answer = refl; words = same; log = refl }

capacity_held : (w b : List ℕ) (a : Archive) → w ≡ layout a ++ b → word w 1 ≡ a.shape.capacity
unfolding read read_shape
capacity_held w b a e = ap (λ q. q.shape.capacity) (reads w b a e)

rearrange_held : (order : ℕ) (second w b : List ℕ) (a : Archive) → w ≡ layout a ++ b → Sound a
    → Rearranging.rearrange w order second
    ≡ leaves w second (guard (ltb 5 order) 22 (guard (not (audited a)) 13 (guard (ltb (length second) (extent a.shape.capacity)) 1 0))) 0 w (layout (rearranged_archive order a))
unfolding Rearranging.rearrange rearrange_rows
rearrange_held order second w b a e s =
    rw (capacity_held w b a e, reads w b a e)
    (ap (λ k. leaves w second k 0 w (layout (rearranged_archive order a))) (passes w b a e s _))

rearrange_alike : (order : ℕ) (second v w : List ℕ) → Alike (extent (word v 1)) v w
    → LeftAlike (extent (word v 1)) (Rearranging.rearrange v order second) (Rearranging.rearrange w order second)
rearrange_alike order second v w h = go (seen v w h)
  where
    go : Seen v w → LeftAlike (extent (word v 1)) (Rearranging.rearrange v order second) (Rearranging.rearrange w order second)
    go (turned_down n e f) =
        unfold Rearranging.rearrange rearrange_rows in
        rw (refused_row v n _ e, refused_row w n _ f) (refusals_alike v w second n _ _ _ _ _ _ (extent (word v 1)) h.same)
    go (held a b c s e f) =
        rw (rearrange_held order second v b a e s, rearrange_held order second w c a f s)
        (stays_alike v w second _ (layout (rearranged_archive order a)) (extent (word v 1)) h.same)

rearrange_behind : (order : ℕ) (second w : List ℕ) → (Rearranging.rearrange w order second).words ≡ w
unfolding Rearranging.rearrange leaves
rearrange_behind order second w = go (rearrange_rows w order (length second))
  where
    go : (k : ℕ) → (leaves w second k 0 w (layout (rearranged_archive order (read w)))).words ≡ w
    go zero = refl
    go (suc k) = refl

-- Start: its earlier contents don't matter, and both slices are long enough.
empty_fits : (s : Shape) → length (layout (empty s)) ≡ extent s.capacity
unfolding empty
empty_fits s = length_layout (empty s) (omega arith)

start_rows_long : (long : ℕ) (s : Shape) → extent s.capacity ≤ long → start_rows long s ≡ guard (not (shape_allowed s)) 4 0
unfolding start_rows guard
start_rows_long long s l = rw (le-ltb long (extent s.capacity) l)

start_alike : (s : Shape) (v w : List ℕ) → Alike (extent s.capacity) v w → LeftAlike (extent s.capacity) (Lent.start v s) (Lent.start w s)
unfolding Lent.start
start_alike s v w h =
    rw (start_rows_long (length v) s h.long, start_rows_long (length w) s h.long_too)
    (leaves_alike v w [] _ 0 (layout (empty s)) _ _ [] (extent s.capacity) h.same (λ z. empty_fits s))

start_behind : (s : Shape) (w : List ℕ) → drop (extent s.capacity) (Lent.start w s).words ≡ drop (extent s.capacity) w
unfolding Lent.start
start_behind s w = leaves_behind w [] (start_rows (length w) s) 0 (layout (empty s)) [] (extent s.capacity) (λ z. empty_fits s)

-- Loading: of the slice only the length is judged, on line 1; a card that is accepted leaves the book's fresh archive.
judge_alike : (m n : ℕ) (ls : List (Option Numbers)) (e : ℕ)
    → e ≡ extent (shape_on (get_or (map numbers_on ls) 0 no_numbers)).capacity → e ≤ m → e ≤ n → judge m ls ≡ judge n ls
unfolding judge start_rows numbers_on guard
judge_alike m n [] e q l h = refl
judge_alike m n (none ∷ ls) e q l h = refl
judge_alike m n (some v ∷ ls) e q l h =
    rw (← q, le-ltb m e l, le-ltb n e h)

load_answers : (v w card : List ℕ) → Alike (extent (card_shape card).capacity) v w → (Card.load v card).answer ≡ (Card.load w card).answer
unfolding card_shape
load_answers v w card h =
    load_answer v card
    ∙ ap answer_of (judge_alike (length v) (length w) (lines card) _ refl h.long h.long_too)
    ∙ sym (load_answer w card)

load_refused : (w card : List ℕ) (n : ℕ) → (Card.load w card).answer.refusal ≡ suc n → (Card.load w card).words ≡ w
load_refused w card n e = load_stays w card (λ z. let no : ⊥ = omega arith in no)

load_words : (v w card : List ℕ) → Alike (extent (card_shape card).capacity) v w
    → take (extent (card_shape card).capacity) (Card.load v card).words ≡ take (extent (card_shape card).capacity) (Card.load w card).words
load_words v w card h = go (Card.load v card).answer.refusal refl
  where
    too : (k : ℕ) → (Card.load v card).answer.refusal ≡ k → (Card.load w card).answer.refusal ≡ k
    too k q = ap (λ a. a.refusal) (sym (load_answers v w card h)) ∙ q

    go : (k : ℕ) → (Card.load v card).answer.refusal ≡ k
        → take (extent (card_shape card).capacity) (Card.load v card).words ≡ take (extent (card_shape card).capacity) (Card.load w card).words
    go zero q =
        holds_front (card_shape card) _ _ _ (card_begun v card q).holds
        ∙ sym (holds_front (card_shape card) _ _ _ (card_begun w card (too 0 q)).holds)
    go (suc n) q = rw (load_refused v card n q, load_refused w card n (too (suc n) q)) h.same

load_behind : (w card : List ℕ) → drop (extent (card_shape card).capacity) (Card.load w card).words ≡ drop (extent (card_shape card).capacity) w
load_behind w card = go (Card.load w card).answer.refusal refl
  where
    go : (k : ℕ) → (Card.load w card).answer.refusal ≡ k
        → drop (extent (card_shape card).capacity) (Card.load w card).words ≡ drop (extent (card_shape card).capacity) w
    go zero q = holds_behind (card_shape card) _ _ _ (card_begun w card q).holds
    go (suc n) q = rw (load_refused w card n q)

-- What the call leaves and answers, by its outcomes.
outcomes_alike : (c : ArchiveCall) (v w : List ℕ) (o p : Outcome) → result c v ≡ written o → result c w ≡ written p
    → LeftAlike (reach c v) o p → DoneAlike c v w
unfolding written
outcomes_alike c v w o p e f l = record { answer = rw (e, f) l.answer; words = rw (e, f) l.words; other = rw (e, f) l.log }

abbrev as_numbers : Answer → List ℕ
as_numbers a = a.refusal ∷ a.value ∷ []

long_alike : (c : ArchiveCall) (v w : List ℕ) → Alike (reach c v) v w → DoneAlike c v w
unfolding reach capacity_for extent result only_read Lent.insert Lent.remove Lent.reduce Lent.least Lent.joint Lent.gain_answer Lent.share Lent.audit Replacement.replace_effect change Report.report reported report_rows Written.write Written.written write_rows least_answer
long_alike (ArchiveCall.start s) v w h =
    outcomes_alike _ v w _ _ refl refl (start_alike s v w h)
long_alike (ArchiveCall.insert t) v w h =
    outcomes_alike _ v w _ _ refl refl (deed_alike (insert_deed t) (insert_fits t) [] v w h)
long_alike (ArchiveCall.insert_grid g) v w h =
    let same = grid_alike g v w h in
    record { answer = ap (λ a. a.refusal ∷ a.inserted ∷ a.stop ∷ []) same.answer; words = same.words; other = refl }
long_alike (ArchiveCall.remove n) v w h =
    outcomes_alike _ v w _ _ refl refl (deed_alike (remove_deed n) (remove_fits n) [] v w h)
long_alike (ArchiveCall.reduce k rule log) v w h =
    outcomes_alike _ v w _ _ refl refl (deed_alike (reduce_deed k rule log) (reduce_fits k rule log) log v w h)
long_alike (ArchiveCall.least rule) v w h =
    let same = question (λ a. least_rows a rule) (λ n a. least_answer n (least_row rule a.rows)) (λ n a b. refl) v w h in
    record { answer = ap (λ a. a.refusal ∷ a.number ∷ a.contribution ∷ []) same; words = h.same; other = refl }
long_alike (ArchiveCall.joint m n) v w h =
    let same = answers_alike (λ a. joint_rows a m n) (λ a. joint_of a m n) v w h in
    record { answer = ap as_numbers same; words = h.same; other = refl }
long_alike (ArchiveCall.gain p) v w h =
    let same = answers_alike (λ a. gain_rows p) (λ a. insert_gain a p) v w h in
    record { answer = ap as_numbers same; words = h.same; other = refl }
long_alike (ArchiveCall.replace_effect n p) v w h =
    let same = question (λ a. replace_rows a n p) (λ k a. change k (change_of a n p)) (λ k a b. refl) v w h in
    record { answer = ap (λ a. a.refusal ∷ sides a.difference) same; words = h.same; other = refl }
long_alike ArchiveCall.share v w h =
    let same = answers_alike (λ a. 0) share_of v w h in
    record { answer = ap as_numbers same; words = h.same; other = refl }
long_alike ArchiveCall.audit v w h =
    let same = answers_alike (λ a. 0) (λ a. holds (audited a)) v w h in
    record { answer = ap as_numbers same; words = h.same; other = refl }
long_alike (ArchiveCall.load card) v w h =
    record {
      answer = ap (λ a. a.refusal ∷ a.line ∷ a.count ∷ []) (load_answers v w card h);
      words = load_words v w card h;
      other = refl;
    }
long_alike (ArchiveCall.report out) v w h =
    let same = texts_alike 53 report_text out v w h in
    record { answer = ap as_numbers same.0; words = h.same; other = same.1 }
long_alike (ArchiveCall.write_card out) v w h =
    let same = texts_alike 33 card_text out v w h in
    record { answer = ap as_numbers same.0; words = h.same; other = same.1 }
long_alike (ArchiveCall.rearrange order second) v w h =
    outcomes_alike _ v w _ _ refl refl (rearrange_alike order second v w h)

not_read : (c : ArchiveCall) (v w : List ℕ) → take (reach c v) v ≡ take (reach c v) w → DoneAlike c v w
not_read c v w same =
    by_length (reach c v) v w same (long_alike c v w) (λ equal. rw (← equal) (record { answer = refl; words = refl; other = refl }))

not_written : (c : ArchiveCall) (w : List ℕ) → drop (reach c w) (result c w).words ≡ drop (reach c w) w
unfolding reach capacity_for extent result written only_read Lent.insert Lent.remove Lent.reduce
not_written (ArchiveCall.start s) w = start_behind s w
not_written (ArchiveCall.insert t) w = deed_behind (insert_deed t) (insert_fits t) [] w
not_written (ArchiveCall.insert_grid g) w = grid_behind g w
not_written (ArchiveCall.remove n) w = deed_behind (remove_deed n) (remove_fits n) [] w
not_written (ArchiveCall.reduce k rule log) w = deed_behind (reduce_deed k rule log) (reduce_fits k rule log) log w
not_written (ArchiveCall.least rule) w = refl
not_written (ArchiveCall.joint m n) w = refl
not_written (ArchiveCall.gain p) w = refl
not_written (ArchiveCall.replace_effect n p) w = refl
not_written ArchiveCall.share w = refl
not_written ArchiveCall.audit w = refl
not_written (ArchiveCall.load card) w = load_behind w card
not_written (ArchiveCall.report out) w = refl
not_written (ArchiveCall.write_card out) w = refl
not_written (ArchiveCall.rearrange order second) w = ap (drop (extent (word w 1))) (rearrange_behind order second w)

-- "Words from 8 + 5 × capacity on are neither read nor written."
pub words_behind : WordsBehind
words_behind = record { not_read = not_read; not_written = not_written }
