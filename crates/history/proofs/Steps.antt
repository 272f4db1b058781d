-- One call on words that hold the book's fresh archive: it answers as the book does, and its words hold the fresh
-- archive of the book after it.
use Prim.Native.Nat.{ℕ, zero, suc, ◌+◌, ◌-◌, ◌*◌, ◌≤◌, ◌<◌, min, zero-le}
use mathlib.Core.Path.{◌≡◌, refl, sym, ap, ◌∙◌}
use mathlib.Core.Bool.{Bool, true, false, not, true≢false}
use mathlib.Core.List.{List, ◌++◌, append_assoc, []}
use native.Mathlib.Omega.{arith}
use lib.Dec.{leb, ltb, eqb}
use lib.ListN.{length, take, drop, length-append, take-append-drop}
use lib.Seq.{take-append-add, drop-append-add}
use borrow.Author.Tests.{le-leb, lt-ltb, ne_eqb, ltb-false, not-false, eqb-false}
use Rattle.slices.proofs.Choices.{not_both}
use Rattle.slices.specs.Choices.{both, either}
use Rattle.hypervolume.proofs.Tests.{Compared, below, above, compared, not_leb}
use Rattle.words.specs.Archive.{Trial, Shape, Archive}
use Rattle.words.specs.Layout.{header, layout, extent, word, read, behind}
use Rattle.words.specs.Format.{guard, within, number_allowed, coordinates_allowed, held, archive_rows}
use Rattle.words.proofs.Reading.{read_layout, length_layout, behind_layout}
use Rattle.words.proofs.Passed.{Sound, sound_passes, each_three}
use Rattle.words.proofs.Short.{part_short}
use Rattle.calls.specs.Calls.{held_trials, inserted, insert_overruns, admission_rows, insert_rows, removed, remove_overruns, remove_rows, audited, rule_allowed, after_drops, notes, reduce_rows, in_order}
use Rattle.calls.specs.Counted.{counted}
use Rattle.calls.proofs.Members.{split}
use Rattle.calls.proofs.Counted.{counted_audited, counted_insert, insert_fits, remove_fits}
use Rattle.calls.proofs.Sound.{InsertPassed, inserted_sound, removed_sound}
use Rattle.calls.specs.Lent
use Rattle.calls.specs.Lent.{Outcome, leaves}
use Rattle.history.specs.Book.{Book, Turn, refuse_if, row_1, has, entered, struck, thinned, book_notes, book_insert, book_remove, book_reduce, book_turn}
use Rattle.history.specs.History.{Call, on_words, lent_of, answered, request, log_of, expected, sorted, shape_of_book, fresh_archive, fresh}
use Rattle.calls.proofs.InOrder.{in_order_held}
use Rattle.history.proofs.Sorting.{has_held}
use Rattle.history.proofs.Thinning.{fresh_is, fresh_count, fresh_counted, fresh_trials, fresh_remove, struck_shape, thins}

-- The words hold the fresh archive of the book, of this shape, and behind it the rest.
pub record Holds (s : Shape) (rest : List ℕ) (b : Book) (w : List ℕ) : Type 0 where
  pub shape : shape_of_book b ≡ s
  pub sound : Sound (fresh_archive b)
  pub words : w ≡ fresh b ++ rest

-- What a call left and answered is what the book asks for.
pub record Agree (s : Shape) (rest w : List ℕ) (c : Call) (o : Outcome) (turn : Turn) : Type 0 where
  pub answer : answered o ≡ expected c turn.reply
  pub holds : Holds s rest turn.book (o.words ++ drop (lent_of c) w)

-- The common form of the three calls: rows, value, new archive and notes, each from the archive that is read.
pub record Deed : Type 0 where
  pub rows : Archive → ℕ
  pub value : Archive → ℕ
  pub new : Archive → Archive
  pub noted : Archive → List ℕ

abbrev pub insert_deed : Trial → Deed
insert_deed t = record { rows = λ a. insert_rows a t; value = λ a. 0; new = λ a. inserted a t; noted = λ a. [] }

abbrev pub remove_deed : ℕ → Deed
remove_deed n = record { rows = λ a. remove_rows a n; value = λ a. 0; new = λ a. removed a n; noted = λ a. [] }

abbrev pub reduce_deed : (k rule : ℕ) → List ℕ → Deed
reduce_deed k rule log =
    record {
      rows = λ a. reduce_rows a k rule (length log);
      value = λ a. length a.rows - k;
      new = λ a. after_drops rule (length a.rows - k) a;
      noted = λ a. notes rule (length a.rows - k) a;
    }

-- A turn of the book in which the call is done.
abbrev finished : Book → ℕ → List ℕ → Turn
finished b value notes = record { book = b; reply = record { refusal = 0; value = value; notes = notes } }

-- Row 13 is not given.
never : (n : ℕ) (x : Bool) → x ≡ false → guard x n 0 ≡ 0
unfolding guard
never n x e = rw e

-- The conditions of the rows, as the archive and as the book has them.
row_5 : (n : ℕ) → not (number_allowed n) ≡ either (ltb n 1) (ltb 9999999 n)
unfolding number_allowed within
row_5 n = not_both (leb 1 n) (leb n 9999999) ∙ rw (not_leb 1 n, not_leb n 9999999)

past : (n : ℕ) → not (within 0 1048576 n) ≡ ltb 1048576 n
unfolding within both
past n = rw (le-leb 0 n zero-le) (not_leb n 1048576)

row_6 : (t : Trial) → not (coordinates_allowed t) ≡ either (ltb 1048576 t.x) (either (ltb 1048576 t.y) (ltb 1048576 t.z))
unfolding coordinates_allowed
row_6 t =
    ap not (each_three (within 0 1048576) t.x t.y t.z)
    ∙ not_both (within 0 1048576 t.x) (both (within 0 1048576 t.y) (within 0 1048576 t.z))
    ∙ rw (not_both (within 0 1048576 t.y) (within 0 1048576 t.z), past t.x, past t.y, past t.z)

row_7 : (n : ℕ) (b : Book) → held n (held_trials (fresh_archive b)) ≡ has n b.trials
row_7 n b = rw (fresh_trials b, in_order_held n b.trials) (sym (has_held n b.trials))

row_8 : (b : Book) → eqb (length (fresh_archive b).rows) (fresh_archive b).shape.capacity ≡ eqb (length b.trials) b.capacity
unfolding fresh_archive counted shape_of_book
row_8 b = ap (λ n. eqb n b.capacity) (fresh_count b)

row_18 : (rule : ℕ) → not (rule_allowed rule) ≡ ltb 1 rule
unfolding rule_allowed either
row_18 zero = refl
row_18 (suc zero) = refl
row_18 (suc (suc r)) =
    rw (ne_eqb (suc (suc r)) 0 (λ e. omega (arith, e)), ne_eqb (suc (suc r)) 1 (λ e. omega (arith, e)), lt-ltb 1 (suc (suc r)) (omega arith))

-- Entering a trial in the book is inserting it into the fresh archive.
fresh_insert : (b : Book) (t : Trial) → inserted (fresh_archive b) t ≡ fresh_archive (entered t b)
unfolding entered shape_of_book in_order
fresh_insert b t = ap (λ a. inserted a t) (fresh_is b) ∙ counted_insert (shape_of_book b) (sorted b.trials) t ∙ sym (fresh_is (entered t b))

module _ (s : Shape) (rest w : List ℕ) (b : Book) (h : Holds s rest b w) where
  -- What the words are that hold the fresh archive, and their parts.
  holds_passes : archive_rows w 0 ≡ 0
  unfolding fresh
  holds_passes = rw h.words (sound_passes (fresh_archive b) rest 0 h.sound)

  holds_extent : extent (word w 1) ≡ extent b.capacity
  unfolding fresh layout header fresh_archive counted shape_of_book
  holds_extent = rw h.words

  pub fresh_length : length (fresh b) ≡ extent b.capacity
  unfolding fresh fresh_archive counted shape_of_book
  fresh_length = length_layout (fresh_archive b) h.sound.held_within

  pub holds_length : length w ≡ extent b.capacity + length rest
  holds_length = rw (h.words, length-append (fresh b) rest, fresh_length)

  past_extent : (n : ℕ) → extent b.capacity ≤ n → n ≡ length (fresh b) + (n - extent b.capacity)
  past_extent n l = omega (arith, fresh_length)

  part_long : (n : ℕ) → extent b.capacity ≤ n → take n w ≡ fresh b ++ take (n - extent b.capacity) rest
  part_long n l =
      rw h.words (ap (λ k. take k (fresh b ++ rest)) (past_extent n l) ∙ take-append-add (fresh b) rest (n - extent b.capacity))

  part_left : (n : ℕ) → extent b.capacity ≤ n → drop n w ≡ drop (n - extent b.capacity) rest
  part_left n l =
      rw h.words (ap (λ k. drop k (fresh b ++ rest)) (past_extent n l) ∙ drop-append-add (fresh b) rest (n - extent b.capacity))

  -- What a call with this refusal leaves, and what a deed leaves by the archive that it reads.
  abbrev left : Call → (k value : ℕ) (words noted : List ℕ) → Outcome
  left c k value words noted = leaves (take (lent_of c) w) (log_of c) k value words noted

  abbrev on_archive : Call → Deed → (part : List ℕ) → Outcome
  on_archive c d part =
      left c (d.rows (fresh_archive b)) (d.value (fresh_archive b)) (layout (d.new (fresh_archive b)) ++ part) (d.noted (fresh_archive b))

  abbrev on_part : Call → Deed → Outcome
  on_part c d =
      let v = take (lent_of c) w in
      left c (archive_rows v (d.rows (read v))) (d.value (read v)) (layout (d.new (read v)) ++ behind v) (d.noted (read v))

  -- A row of the table that the call and the book give alike.
  agree_guard : (c : Call) (x y : Bool) (n k value : ℕ) (words noted : List ℕ) (turn : Turn) → x ≡ y
      → (x ≡ false → Agree s rest w c (left c k value words noted) turn)
      → Agree s rest w c (left c (guard x (suc n) k) value words noted) (refuse_if y (suc n) b turn)
  unfolding guard refuse_if leaves answered expected
  agree_guard c true y n k value words noted turn e later =
      rw (← e) (record { answer = refl; holds = rw (take-append-drop (lent_of c) w) h })
  agree_guard c false y n k value words noted turn e later = rw (← e) (later refl)

  -- A call on the first part of the words. Too short a part is turned down by row 1 here and in the book; of any
  -- other the call reads the fresh archive, and the words behind stay, those that it was lent and those that not.
  agree_short : (c : Call) (d : Deed) (turn : Turn) → lent_of c < extent b.capacity → Agree s rest w c (on_part c d) (refuse_if true 1 b turn)
  unfolding guard
  agree_short c d turn l =
      let short : lent_of c < extent (word w 1) = rw holds_extent l in
      rw (part_short w (lent_of c) (d.rows (read (take (lent_of c) w))) holds_passes short)
      (agree_guard c true true 0 0 _ _ _ turn refl (λ e. absurd (true≢false e)))

  agree_long : (c : Call) (d : Deed) (turn : Turn) → extent b.capacity ≤ lent_of c
      → ((part : List ℕ) → part ++ drop (lent_of c) w ≡ rest → Agree s rest w c (on_archive c d part) turn)
      → Agree s rest w c (on_part c d) turn
  unfolding fresh
  agree_long c d turn l inner =
      let part : List ℕ = take (lent_of c - extent b.capacity) rest in
      let seen : take (lent_of c) w ≡ layout (fresh_archive b) ++ part = part_long (lent_of c) l in
      let reads : read (take (lent_of c) w) ≡ fresh_archive b = rw seen (read_layout (fresh_archive b) part) in
      let passes : archive_rows (take (lent_of c) w) (d.rows (fresh_archive b)) ≡ d.rows (fresh_archive b) =
      rw seen (sound_passes (fresh_archive b) part (d.rows (fresh_archive b)) h.sound) in
      let after : behind (take (lent_of c) w) ≡ part =
      rw seen (behind_layout (fresh_archive b) part h.sound.held_within) in
      let whole : part ++ drop (lent_of c) w ≡ rest =
      rw (part_left (lent_of c) l) (take-append-drop (lent_of c - extent b.capacity) rest) in
      rw (reads, passes, after) (inner part whole)

  agree_part : (c : Call) (d : Deed) (turn : Turn)
      → ((part : List ℕ) → part ++ drop (lent_of c) w ≡ rest → Agree s rest w c (on_archive c d part) turn)
      → Agree s rest w c (on_part c d) (row_1 (min (lent_of c) (length w)) b turn)
  unfolding row_1 extent refuse_if
  agree_part c d turn inner = go (ltb (min (lent_of c) (length w)) (8 + 5 * b.capacity)) (compared _ _)
    where
      go : (x : Bool) → Compared (suc (min (lent_of c) (length w))) (8 + 5 * b.capacity) x → Agree s rest w c (on_part c d) (refuse_if x 1 b turn)
      go true (below l) = agree_short c d turn (omega (arith, holds_length))
      go false (above l) = agree_long c d turn (omega arith) inner

  -- A call that is done.
  agree_done : (c : Call) (a : Archive) (b' : Book) (value : ℕ) (part noted notes : List ℕ)
      → part ++ drop (lent_of c) w ≡ rest → a ≡ fresh_archive b' → Sound a → shape_of_book b' ≡ s → noted ≡ notes
      → Agree s rest w c (left c 0 value (layout a ++ part) noted) (finished b' value notes)
  unfolding leaves answered expected fresh
  agree_done c a b' value part noted notes whole new sound shape same =
      record {
        answer = rw same;
        holds =
            record {
              shape = shape;
              sound = rw (← new) sound;
              words = append_assoc (layout a) part (drop (lent_of c) w) ∙ rw (whole, new);
            };
      }

  -- Where only row 13 is left to be asked.
  abbrev last : Call → Deed → (part : List ℕ) (thirteen : Bool) → Outcome
  last c d part thirteen =
      left c (guard thirteen 13 0) (d.value (fresh_archive b)) (layout (d.new (fresh_archive b)) ++ part) (d.noted (fresh_archive b))

  -- Insert.
  insert_done : (lent : ℕ) (t : Trial) (part : List ℕ) → part ++ drop lent w ≡ rest → InsertPassed (fresh_archive b) t
      → Agree s rest w (Call.insert lent t) (last (Call.insert lent t) (insert_deed t) part (insert_overruns (fresh_archive b) t))
      (finished (entered t b) 0 [])
  unfolding lent_of entered shape_of_book
  insert_done lent t part whole p =
      rw (never 13 (insert_overruns (fresh_archive b) t) p.fits)
      (agree_done (Call.insert lent t) (inserted (fresh_archive b) t) (entered t b) 0 part [] [] whole
      (fresh_insert b t) (inserted_sound (fresh_archive b) t h.sound p) h.shape refl)

  step_insert : (lent : ℕ) (t : Trial)
      → Agree s rest w (Call.insert lent t) (Lent.insert (take lent w) t) (book_insert (min lent (length w)) t b)
  unfolding Lent.insert book_insert lent_of log_of insert_rows admission_rows
  step_insert lent t =
      agree_part c (insert_deed t) _
      (λ part whole. agree_guard c _ _ _ _ _ _ _ _ (row_5 t.number)
      (λ five. agree_guard c _ _ _ _ _ _ _ _ (row_6 t)
      (λ six. agree_guard c _ _ _ _ _ _ _ _ (row_7 t.number b)
      (λ seven. agree_guard c _ _ _ _ _ _ _ _ (row_8 b)
      (λ eight. insert_done lent t part whole
      (record {
        number = not-false _ five;
        coordinates = not-false _ six;
        new = seven;
        room = eqb-false _ _ eight;
        fits = insert_fits (fresh_archive b) t (fresh_counted b);
      }))))))
    where
      c : Call
      c = Call.insert lent t

  -- Remove.
  remove_done : (lent n : ℕ) (part : List ℕ) → part ++ drop lent w ≡ rest → held n (held_trials (fresh_archive b)) ≡ true
      → Agree s rest w (Call.remove lent n) (last (Call.remove lent n) (remove_deed n) part (remove_overruns (fresh_archive b) n))
      (finished (struck n b) 0 [])
  unfolding lent_of
  remove_done lent n part whole known =
      rw (never 13 (remove_overruns (fresh_archive b) n) fits)
      (agree_done (Call.remove lent n) (removed (fresh_archive b) n) (struck n b) 0 part [] [] whole
      (fresh_remove b n h.sound known)
      (removed_sound (fresh_archive b) n h.sound (record { known = known; fits = fits }))
      (struck_shape n b ∙ h.shape) refl)
    where
      fits : remove_overruns (fresh_archive b) n ≡ false
      fits = remove_fits (fresh_archive b) n (fresh_counted b) (split n (fresh_archive b).rows known h.sound.apart)

  step_remove : (lent n : ℕ)
      → Agree s rest w (Call.remove lent n) (Lent.remove (take lent w) n) (book_remove (min lent (length w)) n b)
  unfolding Lent.remove book_remove lent_of log_of remove_rows
  step_remove lent n =
      agree_part (Call.remove lent n) (remove_deed n) _
      (λ part whole. agree_guard (Call.remove lent n) _ _ _ _ _ _ _ _ (ap not (row_7 n b))
      (λ nine. remove_done lent n part whole (not-false _ nine)))

  -- Reduce.
  reduce_done : (lent k rule : ℕ) (log part : List ℕ) → part ++ drop lent w ≡ rest → k ≤ length b.trials
      → Agree s rest w (Call.reduce lent k rule log) (last (Call.reduce lent k rule log) (reduce_deed k rule log) part (not (audited (fresh_archive b))))
      (finished (thinned rule (length b.trials - k) b) (length b.trials - k) (book_notes rule (length b.trials - k) b))
  unfolding lent_of
  reduce_done lent k rule log part whole l =
      let all = thins rule (length b.trials - k) b h.sound (omega arith) in
      rw (never 13 (not (audited (fresh_archive b))) (ap not (counted_audited (fresh_archive b) (fresh_counted b))), fresh_count b)
      (agree_done (Call.reduce lent k rule log) (after_drops rule (length b.trials - k) (fresh_archive b))
      (thinned rule (length b.trials - k) b) (length b.trials - k) part _ _ whole
      all.left (rw all.left all.sound) (all.shape ∙ h.shape) all.noted)

  step_reduce : (lent k rule : ℕ) (log : List ℕ)
      → Agree s rest w (Call.reduce lent k rule log) (Lent.reduce (take lent w) k rule log) (book_reduce (min lent (length w)) k rule (length log) b)
  unfolding Lent.reduce book_reduce lent_of log_of reduce_rows
  step_reduce lent k rule log =
      agree_part c (reduce_deed k rule log) _
      (λ part whole. agree_guard c _ _ _ _ _ _ _ _ (row_18 rule)
      (λ eighteen. agree_guard c _ _ _ _ _ _ _ _ (ap (λ n. ltb n k) (fresh_count b))
      (λ eleven. agree_guard c _ _ _ _ _ _ _ _ (ap (λ n. ltb (length log) (2 * (n - k))) (fresh_count b))
      (λ twelve. reduce_done lent k rule log part whole (enough eleven)))))
    where
      c : Call
      c = Call.reduce lent k rule log

      enough : ltb (length (fresh_archive b).rows) k ≡ false → k ≤ length b.trials
      enough e = rw (← fresh_count b) (ltb-false _ _ e)

  -- Any call.
  pub step : (c : Call) → Agree s rest w c (on_words c w) (book_turn (request (length w) c) b)
  unfolding on_words book_turn request
  step (Call.insert lent t) = step_insert lent t
  step (Call.remove lent n) = step_remove lent n
  step (Call.reduce lent k rule log) = step_reduce lent k rule log
