-- Cards written and read back. A card is the lines of its numbers; written ones read back as they were written, and an accepted card
-- whose trials stand in order leaves them in that order.
use Prim.Native.Nat.{ℕ, zero, suc, ◌+◌, ◌≤◌, ◌<◌}
use mathlib.Core.Path.{◌≡◌, refl, sym, ap, ◌∙◌}
use mathlib.Core.Bool.{Bool, true, false, true≢false}
use mathlib.Core.Logic.{◌⊎◌, inl, inr, ◌↔◌}
use mathlib.Core.List.Memᴰ
use mathlib.Core.List.{List, ◌∷◌, ◌++◌, map, append_assoc, append-nil, Memᴰ, []}
use mathlib.Core.Option.{none, some}
use native.Mathlib.Omega.{arith}
use native.Mathlib.Nat.{le_refl}
use lib.Dec.{eqb}
use lib.ListN.{length, get_or, take, drop, replicate, length-append, length-map, length-replicate}
use lib.Seq.{take_at, drop_at}
use borrow.Author.Tests.{le-ltb, ne_eqb, not-true}
use Rattle.slices.specs.Choices.{both, pick, either}
use Rattle.slices.proofs.Choices.{both_true}
use Rattle.slices.proofs.Put.{put_front}
use Rattle.text.specs.Lines.{Numbers, line, line_from}
use Rattle.text.specs.Justified.{line_of}
use Rattle.text.proofs.Lines.{Fitting, length_line_of, line_line_of, line_of_line}
use Rattle.words.specs.Archive.{Trial, Row, Shape, Archive, trials, ascends, before}
use Rattle.words.specs.Layout.{word, extent, layout, read, read_shape}
use Rattle.words.specs.Format.{guard, number_allowed, coordinates_allowed, held, distinct, archive_rows}
use Rattle.words.proofs.Reading.{read_layout}
use Rattle.words.proofs.Passed.{within_bounds, bounds_within, passed, passed_both, Sound, shape_bounds, coordinates_small, passed_front}
use Rattle.calls.specs.Calls.{held_trials, place, in_order, empty, inserted, admission_rows}
use Rattle.calls.specs.Counted.{counted}
use Rattle.calls.specs.Lent.{answer, start_rows, audit}
use Rattle.calls.proofs.Known.{count_rows}
use Rattle.calls.proofs.Members.{map-map, map_id}
use Rattle.calls.proofs.Counted.{inserted_trials, audited_counted, is_counted, counted_trials}
use Rattle.calls.proofs.Order.{before_trans, AscendingTrials, ordered_ascending, not_held, held_place}
use Rattle.calls.proofs.Sound.{rows_each, inserted_count}
use Rattle.calls.proofs.Fewest.{says_yes}
use Rattle.card.specs.Card.{shape_on, trial_on, lines, load}
use Rattle.card.specs.Check.{packed, check}
use Rattle.card.specs.Verdict.{archive, in_turn, judge_further, judge, answer_of}
use Rattle.card.proofs.CardLines.{lines_none, lines_more}
use Rattle.card.proofs.Verdicts.{in_turn_passed}
use Rattle.card.proofs.Theorems.{load_answer}
use Rattle.history.specs.Book.{Book, entered, opened}
use Rattle.history.specs.History.{sorted, fresh_archive, fresh}
use Rattle.history.specs.Terms.{opened_by}
use Rattle.history.proofs.Thinning.{fresh_is}
use Rattle.history.proofs.Histories.{holds_front, holds_behind}
use Rattle.printing.specs.Texts.{lines_of, text_rows, output}
use Rattle.writing.specs.Written.{shape_line, trial_line, row_line, card_text, write_rows, write, written}
use Rattle.terms.specs.Loading.{no_numbers, numbers_on, card_numbers, card_shape, card_trials, all_entered, card_book}
use Rattle.terms.specs.RoundTrips.{card_left, LoadsAs, in_archive_order, CarriedAlike, RoundTrips}
use Rattle.terms.proofs.Loading.{terms_after_loading, card_begun}

-- The order.

ascends_self : (a : List ℕ) → ascends a a ≡ false
unfolding ascends either both
ascends_self [] = refl
ascends_self (m ∷ a) = rw (le-ltb m m (le_refl m), ascends_self a) (never (eqb m m))
  where
    never : (b : Bool) → both b false ≡ false
    never true = refl
    never false = refl

not_behind : (t u : Trial) → before u t ≡ true → before t u ≡ false
not_behind t u h = go (before t u) refl
  where
    go : (b : Bool) → before t u ≡ b → b ≡ false
    go true e = unfold before in absurd (true≢false (sym (before_trans t u t e h) ∙ ascends_self _))
    go false e = refl

-- A trial that all others stand before has its place at the end.
place_last : (ts : List Trial) (t : Trial) → ((u : Trial) → Memᴰ u ts → before u t ≡ true) → place (λ u. u) t ts ≡ ts ++ (t ∷ [])
unfolding place pick
place_last [] t h = refl
place_last (u ∷ ts) t h =
    rw (not_behind t u (h u (Memᴰ.head refl))) (ap (λ l. u ∷ l) (place_last ts t (λ v m. h v (Memᴰ.tail m))))

all_before : (done : List Trial) (t : Trial) (left : List Trial) → AscendingTrials (done ++ (t ∷ left)) → (u : Trial) → Memᴰ u done
    → before u t ≡ true
unfolding AscendingTrials
all_before [] t left h u m = absurd (Memᴰ.not-nil m)
all_before (d ∷ done) t left h u m = go (all_before done t left h.1 u) (Memᴰ.cases_cons m)
  where
    go : (Memᴰ u done → before u t ≡ true) → (u ≡ d) ⊎ Memᴰ u done → before u t ≡ true
    go later (inl e) = rw e (h.0 t (Memᴰ.append_right done (Memᴰ.head refl)))
    go later (inr k) = later k

-- Trials entered in the archive's order stay in it.
entered_sorted : (b : Book) (t : Trial) → sorted (entered t b).trials ≡ place (λ u. u) t (sorted b.trials)
unfolding entered in_order
entered_sorted b t = refl

entered_in_order : (ts : List Trial) (b : Book) → AscendingTrials (sorted b.trials ++ ts)
    → sorted (all_entered ts b).trials ≡ sorted b.trials ++ ts
unfolding all_entered
entered_in_order [] b h = sym (append-nil (sorted b.trials))
entered_in_order (t ∷ ts) b h =
    let here : sorted (entered t b).trials ≡ sorted b.trials ++ (t ∷ []) =
    entered_sorted b t ∙ place_last (sorted b.trials) t (all_before (sorted b.trials) t ts h) in
    let again : sorted (entered t b).trials ++ ts ≡ sorted b.trials ++ (t ∷ ts) =
    ap (λ l. l ++ ts) here ∙ append_assoc (sorted b.trials) (t ∷ []) ts in
    entered_in_order ts (entered t b) (rw again h) ∙ again

book_in_order : (card : List ℕ) → in_archive_order card ≡ true → sorted (card_book card).trials ≡ card_trials card
unfolding in_archive_order card_book opened in_order
book_in_order card e = entered_in_order (card_trials card) (opened_by (card_shape card)) (ordered_ascending (card_trials card) e)

-- What an accepted card leaves: the archive of its trials in order, and the words behind.
abbrev card_archive : List ℕ → Archive
card_archive card = counted (card_shape card) (sorted (card_book card).trials)

record Left (slice card : List ℕ) : Type 0 where
  front : take (extent (card_shape card).capacity) (load slice card).words ≡ layout (card_archive card)
  behind : drop (extent (card_shape card).capacity) (load slice card).words ≡ drop (extent (card_shape card).capacity) slice
  reads : read (load slice card).words ≡ card_archive card
  sound : Sound (card_archive card)

left : (slice card : List ℕ) → (load slice card).answer.refusal ≡ 0 → Left slice card
unfolding fresh
left slice card e =
    let b : Book = card_book card in
    let h = (card_begun slice card e).holds in
    let is : fresh_archive b ≡ card_archive card = fresh_is b ∙ ap (λ s. counted s (sorted b.trials)) h.shape in
    record {
      front = holds_front (card_shape card) _ _ b h ∙ ap layout is;
      behind = holds_behind (card_shape card) _ _ b h;
      reads = ap read h.words ∙ read_layout (fresh_archive b) _ ∙ is;
      sound = rw (← is) h.sound;
    }

-- A card is the lines of its numbers.

unfoldable shape_numbers : Shape → Numbers
shape_numbers s = record { first = s.capacity; second = s.rx; third = s.ry; fourth = s.rz }

unfoldable trial_numbers : Trial → Numbers
trial_numbers t = record { first = t.number; second = t.x; third = t.y; fourth = t.z }

abbrev archive_numbers : Shape → List Trial → List Numbers
archive_numbers s ts = shape_numbers s ∷ map trial_numbers ts

lines_of_map : {A B : Type 0} (line : B → List ℕ) (f : A → B) (l : List A) → lines_of line (map f l) ≡ lines_of (λ a. line (f a)) l
unfolding lines_of
lines_of_map line f [] = refl
lines_of_map line f (a ∷ l) = ap (λ rest. line (f a) ++ rest) (lines_of_map line f l)

text_is : (a : Archive) → card_text a ≡ lines_of line_of (archive_numbers a.shape (held_trials a))
unfolding card_text shape_line row_line trial_line lines_of trials shape_numbers trial_numbers
text_is a =
    ap (λ rest. line_of (shape_numbers a.shape) ++ rest)
    (sym (lines_of_map line_of trial_numbers (held_trials a) ∙ lines_of_map (λ t. line_of (trial_numbers t)) (λ r. r.trial) a.rows))

-- Written lines read back.
numbers_read : (vs : List Numbers) → ((v : Numbers) → Memᴰ v vs → Fitting v) → lines (lines_of line_of vs) ≡ map some vs
unfolding lines_of
numbers_read [] h = lines_none [] refl
numbers_read (v ∷ vs) h =
    let rest : List ℕ = lines_of line_of vs in
    let long : 0 < length (line_of v ++ rest) = omega (arith, length-append (line_of v) rest, length_line_of v) in
    lines_more (line_of v ++ rest) long
    ∙ (rw (line_line_of v rest (h v (Memᴰ.head refl)), drop_at (line_of v) rest 33 (length_line_of v), numbers_read vs (λ u m. h u (Memᴰ.tail m))))

-- And lines of the form are the lines of their numbers.
numbers_written : (vs : List Numbers) (card : List ℕ) → lines card ≡ map some vs → card ≡ lines_of line_of vs
unfolding lines_of line_from
numbers_written [] [] e = refl
numbers_written [] (b ∷ bytes) e =
    absurd (let no : ⊥ = omega (arith, ap length (sym (lines_more (b ∷ bytes) (omega arith)) ∙ e)) in no)
numbers_written (v ∷ vs) [] e = absurd (let no : ⊥ = omega (arith, ap length (sym (lines_none [] refl) ∙ e)) in no)
numbers_written (v ∷ vs) (b ∷ bytes) e =
    let card : List ℕ = b ∷ bytes in
    let both-parts : line card ∷ lines (drop 33 card) ≡ some v ∷ map some vs = sym (lines_more card (omega arith)) ∙ e in
    let first : line card ≡ some v = ap (λ l. get_or l 0 none) both-parts in
    let rest : lines (drop 33 card) ≡ map some vs = ap (drop 1) both-parts in
    (line_of_line card 0 v first).start ∙ ap (λ l. line_of v ++ l) (numbers_written vs (drop 33 card) rest)

-- What rows 1 to 3 allow of a trial.
record Allowed (t : Trial) : Type 0 where
  number : number_allowed t.number ≡ true
  coordinates : coordinates_allowed t ≡ true

module _ (a : Archive) (s : Sound a) where
  trial_allowed : (t : Trial) → Memᴰ t (held_trials a) → Allowed t
  unfolding trials number_allowed
  trial_allowed t m = go (Memᴰ.of_map (λ r. r.trial) a.rows m)
    where
      go : (r : Row) × Memᴰ r a.rows × (r.trial ≡ t) → Allowed t
      go w =
          let b = rows_each a.shape a.rows s.rows_fit w.0 w.1 in
          rw (← w.2) (record { number = bounds_within 1 9999999 _ b.number_low b.number_high; coordinates = b.coordinates })

  trial_fits : (t : Trial) → Allowed t → Fitting (trial_numbers t)
  unfolding trial_numbers number_allowed
  trial_fits t w =
      let number = within_bounds 1 9999999 t.number w.number in
      let small = coordinates_small t w.coordinates in
      record { first = omega (arith, number.1); second = omega (arith, small 0); third = omega (arith, small 1); fourth = omega (arith, small 2) }

  shape_fits : Fitting (shape_numbers a.shape)
  unfolding shape_numbers
  shape_fits =
      let b = shape_bounds a.shape s.shaped in
      record { first = omega (arith, b.capacity_high); second = omega (arith, b.reference_high 0); third = omega (arith, b.reference_high 1); fourth = omega (arith, b.reference_high 2) }

  all_fit : (v : Numbers) → Memᴰ v (archive_numbers a.shape (held_trials a)) → Fitting v
  all_fit v m = go (Memᴰ.cases_cons m)
    where
      of_trial : (t : Trial) × Memᴰ t (held_trials a) × (trial_numbers t ≡ v) → Fitting v
      of_trial w = rw (← w.2) (trial_fits w.0 (trial_allowed w.0 w.1))

      go : (v ≡ shape_numbers a.shape) ⊎ Memᴰ v (map trial_numbers (held_trials a)) → Fitting v
      go (inl e) = rw e shape_fits
      go (inr k) = of_trial (Memᴰ.of_map trial_numbers (held_trials a) k)

  text_lines : lines (card_text a) ≡ map some (archive_numbers a.shape (held_trials a))
  text_lines = ap lines (text_is a) ∙ numbers_read _ all_fit

  text_numbers : card_numbers (card_text a) ≡ archive_numbers a.shape (held_trials a)
  unfolding numbers_on
  text_numbers =
      let vs : List Numbers = archive_numbers a.shape (held_trials a) in
      ap (map numbers_on) text_lines ∙ map-map some numbers_on vs ∙ map_id vs

  shape_read : card_shape (card_text a) ≡ a.shape
  unfolding card_shape shape_on shape_numbers
  shape_read = ap (λ vs. shape_on (get_or vs 0 no_numbers)) text_numbers

  trials_read : card_trials (card_text a) ≡ held_trials a
  unfolding card_trials trial_on trial_numbers
  trials_read = ap (λ vs. map trial_on (drop 1 vs)) text_numbers ∙ map-map trial_numbers trial_on (held_trials a) ∙ map_id (held_trials a)

  text_in_order : in_archive_order (card_text a) ≡ true
  unfolding in_archive_order
  text_in_order = rw trials_read s.in_order

-- An accepted card in order is the card of its archive.
whole : (vs : List Numbers) → 1 ≤ length vs → archive_numbers (shape_on (get_or vs 0 no_numbers)) (map trial_on (drop 1 vs)) ≡ vs
unfolding shape_numbers trial_numbers shape_on trial_on
whole [] some-line = absurd (let no : ⊥ = omega arith in no)
whole (v ∷ vs) some-line = ap (λ l. v ∷ l) (map-map trial_on trial_numbers vs ∙ map_id vs)

card_whole : (slice card : List ℕ) → (load slice card).answer.refusal ≡ 0 → card_text (counted (card_shape card) (card_trials card)) ≡ card
unfolding counted card_shape card_trials
card_whole slice card e =
    let calls = terms_after_loading.as_calls slice card e in
    let one : 1 ≤ length (card_numbers card) = omega (arith, calls.line_1, length-map (lines card) numbers_on) in
    text_is (counted (card_shape card) (card_trials card))
    ∙ ap (λ ts. lines_of line_of (archive_numbers (card_shape card) ts)) (counted_trials (card_shape card) (card_trials card))
    ∙ ap (lines_of line_of) (whole (card_numbers card) one)
    ∙ sym (numbers_written (card_numbers card) card calls.form)

-- Rows 5 to 8 turn no trial of an archive down.
admitted : (a : Archive) (t : Trial) → Allowed t → held t.number (held_trials a) ≡ false → (length a.rows ≡ a.shape.capacity → ⊥)
    → admission_rows a t 0 ≡ 0
unfolding admission_rows guard
admitted a t w new room = rw (w.number, w.coordinates, new, ne_eqb (length a.rows) a.shape.capacity room)

accepts : (a : Archive) (ts : List Trial) → ((t : Trial) → Memᴰ t ts → Allowed t)
    → ((t : Trial) → Memᴰ t ts → held t.number (held_trials a) ≡ false) → distinct ts ≡ true
    → length a.rows + length ts ≤ a.shape.capacity → (b : Archive) × (judge_further a (map some (map trial_numbers ts)) ≡ archive b)
unfolding judge_further distinct trial_on trial_numbers
accepts a [] allowed new apart room = (a, refl)
accepts a (t ∷ ts) allowed new apart room =
    let parts = both_true _ _ apart in
    let once : held t.number ts ≡ false = not-true _ parts.0 in
    let one : admission_rows a t 0 ≡ 0 =
    admitted a t (allowed t (Memᴰ.head refl)) (new t (Memᴰ.head refl)) (λ e. omega arith) in
    let more =
    accepts (inserted a t) ts (λ u m. allowed u (Memᴰ.tail m))
    (λ u m. still_new u (not_held t.number ts once u m) (new u (Memᴰ.tail m))) parts.1 (unfold inserted in omega (arith, inserted_count a t)) in
    (more.0, in_turn_passed _ _ _ one ∙ more.1)
  where
    still_new : (u : Trial) → (u.number ≡ t.number → ⊥) → held u.number (held_trials a) ≡ false
        → held u.number (held_trials (inserted a t)) ≡ false
    still_new u other before' = unfold held either in rw (inserted_trials a t, held_place u.number t (held_trials a), ne_eqb t.number u.number (λ e. other (sym e)), before')

text_accepted : (a : Archive) → Sound a → (slice : List ℕ) → extent a.shape.capacity ≤ length slice
    → (b : Archive) × (judge (length slice) (lines (card_text a)) ≡ archive b)
unfolding judge in_turn start_rows guard empty held shape_on shape_numbers trials
text_accepted a s slice long =
    let more =
    accepts (empty a.shape) (held_trials a) (trial_allowed a s) (λ t m. refl) s.apart
    (let within : length a.rows ≤ a.shape.capacity = s.held_within in omega (arith, length-map a.rows (λ r. r.trial))) in
    (more.0, (rw (text_lines a s, s.shaped, le-ltb (length slice) (extent a.shape.capacity) long, more.1)))

-- The card that writing leaves.
answer_none : (k v : ℕ) → (answer k v).refusal ≡ 0 → k ≡ 0
unfolding answer
answer_none zero v e = refl
answer_none (suc k) v e = e

card_put : (w out : List ℕ) (k : ℕ) → k ≡ 0 → take (answer k (length (card_text (read w)))).value (output k (card_text (read w)) out) ≡ card_text (read w)
unfolding answer output
card_put w out k e = rw (e, put_front out (card_text (read w))) (take_at (card_text (read w)) _ _ refl)

record Done (w out : List ℕ) : Type 0 where
  passes : archive_rows w 0 ≡ 0
  card : card_left w out ≡ card_text (read w)

done : (w out : List ℕ) → (write w out).refusal ≡ 0 → Done w out
unfolding write written write_rows text_rows
done w out e =
    let rows : write_rows w out ≡ 0 = answer_none (write_rows w out) _ e in
    record { passes = (passed_both w _ rows).0; card = card_put w out (write_rows w out) rows }

-- Loading a written card.
recounts : (w out slice : List ℕ) → (write w out).refusal ≡ 0 → extent (word w 1) ≤ length slice
    → LoadsAs slice (card_left w out) (word w 0) (word w 1) (layout (counted (read w).shape (trials (read w).rows)))
unfolding read read_shape trials answer_of
recounts w out slice e long = rw d.card loaded
  where
    d : Done w out
    d = done w out e

    a : Archive
    a = read w

    card : List ℕ
    card = card_text a

    s : Sound a
    s = (passed w d.passes).sound

    said : (b : Archive) × (judge (length slice) (lines card) ≡ archive b)
    said = text_accepted a s slice long

    answered : (load slice card).answer ≡ record { refusal = 0; line = 0; count = length said.0.rows }
    answered = load_answer slice card ∙ ap answer_of said.1

    unrefused : (load slice card).answer.refusal ≡ 0
    unrefused = ap (λ x. x.refusal) answered

    count : length said.0.rows ≡ word w 0
    count =
        ap (λ x. x.count) (sym answered)
        ∙ (terms_after_loading.as_calls slice card unrefused).count
        ∙ ap length (trials_read a s)
        ∙ length-map a.rows (λ r. r.trial)
        ∙ count_rows w

    is : card_archive card ≡ counted a.shape (held_trials a)
    is =
        ap (counted (card_shape card)) (book_in_order card (text_in_order a s) ∙ trials_read a s)
        ∙ ap (λ q. counted q (held_trials a)) (shape_read a s)

    l : Left slice card
    l = left slice card unrefused

    size : extent (card_shape card).capacity ≡ extent (word w 1)
    size = ap (λ q. extent q.capacity) (shape_read a s)

    loaded : LoadsAs slice card (word w 0) (word w 1) (layout (counted (read w).shape (trials (read w).rows)))
    loaded =
        record {
          answer = answered ∙ ap (λ n. record { refusal = 0; line = 0; count = n }) count;
          words_before = ap (λ k. take k (load slice card).words) (sym size) ∙ l.front ∙ ap layout is;
          words_behind = ap (λ k. drop k (load slice card).words) (sym size) ∙ l.behind ∙ ap (λ k. drop k slice) size;
        }

checks : (w out : List ℕ) → (write w out).refusal ≡ 0 → check (card_left w out) ≡ 0
unfolding check packed extent read_shape
checks w out e =
    let most : word w 1 ≤ 512 = (passed w (done w out e).passes).bounds.capacity_high in
    let zeros : List ℕ = replicate 2568 0 in
    ap packed (recounts w out zeros e (omega (arith, length-replicate {A = ℕ} 2568 0))).answer

-- Where the audit says yes, the archive is a counted one.
restores : (w out slice : List ℕ) → (write w out).refusal ≡ 0 → audit w ≡ record { refusal = 0; value = 1 } → extent (word w 1) ≤ length slice
    → LoadsAs slice (card_left w out) (word w 0) (word w 1) (take (extent (word w 1)) w)
unfolding read read_shape
restores w out slice e said long =
    let p = passed w (done w out e).passes in
    let is : read w ≡ counted (read w).shape (trials (read w).rows) = is_counted (read w) (audited_counted (read w) (says_yes w said).yes) in
    rw (passed_front w p, is) (recounts w out slice e long)

-- Writing a loaded card.
same_bytes : (card slice out : List ℕ) → (load slice card).answer.refusal ≡ 0 → (write (load slice card).words out).refusal ≡ 0
    → (card_left (load slice card).words out ≡ card) ↔ (in_archive_order card ≡ true)
same_bytes card slice out e f = (forth, back)
  where
    l : Left slice card
    l = left slice card e

    is : card_left (load slice card).words out ≡ card_text (card_archive card)
    is = (done (load slice card).words out f).card ∙ ap card_text l.reads

    forth : card_left (load slice card).words out ≡ card → in_archive_order card ≡ true
    forth same = ap in_archive_order (sym same ∙ is) ∙ text_in_order (card_archive card) l.sound

    back : in_archive_order card ≡ true → card_left (load slice card).words out ≡ card
    back order = is ∙ ap (λ ts. card_text (counted (card_shape card) ts)) (book_in_order card order) ∙ card_whole slice card e

written_in_order : (w out : List ℕ) → (write w out).refusal ≡ 0 → in_archive_order (card_left w out) ≡ true
written_in_order w out e =
    let d = done w out e in
    rw d.card (text_in_order (read w) (passed w d.passes).sound)

-- Equal cards.
tells_all : (v w : List ℕ) → archive_rows v 0 ≡ 0 → archive_rows w 0 ≡ 0 → card_text (read v) ≡ card_text (read w) → CarriedAlike v w
tells_all v w p q e =
    let s = (passed v p).sound in
    let t = (passed w q).sound in
    record {
      shape = sym (shape_read (read v) s) ∙ ap card_shape e ∙ shape_read (read w) t;
      trials = sym (trials_read (read v) s) ∙ ap card_trials e ∙ trials_read (read w) t;
    }

pub round_trips : RoundTrips
round_trips =
    record { restores = restores; recounts = recounts; checks = checks; same_bytes = same_bytes; in_order = written_in_order; tells_all = tells_all }
