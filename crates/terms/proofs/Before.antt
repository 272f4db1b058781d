-- Every formerly accepted call answers as before: on words and points inside the reference the rows as they were and
-- the rows of today come to the same, and a card's insertions stay inside where its coordinates do.
use Prim.Native.Nat.{ℕ, zero, suc, ◌+◌, ◌≤◌, zero-le}
use mathlib.Core.Path.{◌≡◌, refl, ap, ◌∙◌}
use mathlib.Core.Bool.{true}
use mathlib.Core.Logic.{◌⊎◌, inl, inr}
use mathlib.Core.List.Memᴰ
use mathlib.Core.List.{List, ◌∷◌, map, [], Memᴰ}
use mathlib.Core.Option.{Option, none, some}
use native.Mathlib.Nat.{le_trans}
use native.Mathlib.Omega.{arith}
use lib.Dec.{lit≤}
use lib.ListN.{length, get_or, drop, replicate}
use borrow.Author.Tests.{leb-true}
use Rattle.slices.proofs.Choices.{both_true, both_intro}
use Rattle.hypervolume.specs.Cells.{dominates}
use Rattle.text.specs.Lines.{Numbers}
use Rattle.words.specs.Archive.{Trial, Row, Shape, point, reference, trials}
use Rattle.words.specs.Layout.{extent, read_shape, read}
use Rattle.words.specs.Format.{guard, within, each, coordinates_allowed, row_allowed, rows_allowed, sound_rows, records_allowed, archive_rows}
use Rattle.words.proofs.Passed.{bounds_within, ShapeBounds, shape_bounds, Unrefused, unrefused, test_unrefused, header_facts, row_3_decides, test_decides}
use Rattle.calls.specs.Calls.{insert_rows, admission_rows, remove_rows, least_rows, reduce_rows, joint_rows, gain_rows}
use Rattle.calls.specs.Lent
use Rattle.card.specs.Card
use Rattle.card.specs.Card.{shape_on, trial_on, lines, malformed, by_form, first_line, further_line, Loading, judged, further, from_first}
use Rattle.card.specs.Check
use Rattle.card.specs.Check.{packed}
use Rattle.history.specs.Book.{Book, entered, opened}
use Rattle.history.specs.Kept.{HoldsJust}
use Rattle.history.specs.Terms.{opened_by}
use Rattle.history.proofs.Steps.{Holds}
use Rattle.history.proofs.Histories.{started}
use Rattle.history.proofs.Kept.{holds_just}
use Rattle.printing.specs.Texts.{text_rows}
use Rattle.reports.specs.Report
use Rattle.reports.specs.Report.{report_rows}
use Rattle.terms.specs.Loading.{no_numbers, numbers_on, card_shape, card_trials}
use Rattle.terms.specs.Before.{inside, row_allowed_before, rows_allowed_before, sound_rows_before, records_allowed_before, archive_rows_before, insert_rows_before, gain_rows_before, table_now, table_before, insert_by, remove_by, least_by, reduce_by, asked_by, further_by, from_first_by, load_by, check_by, short_output, EachTrial, Unchanged}
use Rattle.terms.proofs.Loading.{trials_on, inserts}

-- A point inside the reference is allowed, for any number of axes.
each_below : (p r : List ℕ) → length p ≤ length r → ((axis : ℕ) → get_or r axis 0 ≤ 1048576) → dominates p r ≡ true → each (within 0 1048576) p ≡ true
unfolding each dominates
each_below [] r l h e = refl
each_below (x ∷ p) [] l h e = absurd (let no : ⊥ = omega arith in no)
each_below (x ∷ p) (y ∷ r) l h e =
    let parts = both_true _ _ e in
    both_intro _ _ (bounds_within 0 1048576 x zero-le (le_trans (leb-true x y parts.0) (h 0)))
    (each_below p r (omega arith) (λ axis. h (suc axis)) parts.1)

inside_allowed : (s : Shape) (t : Trial) → ShapeBounds s → inside s t ≡ true → coordinates_allowed t ≡ true
unfolding inside coordinates_allowed
inside_allowed s t b e = each_below (point t) (reference s) (lit≤ tt) b.reference_high e

-- Rows allowed as they were: allowed today, and all inside; and back.
rows_now : (s : Shape) (rows : List Row) → ShapeBounds s → rows_allowed_before s rows ≡ true → rows_allowed s rows ≡ true
unfolding rows_allowed rows_allowed_before row_allowed row_allowed_before
rows_now s [] b e = refl
rows_now s (r ∷ rows) b e =
    let parts = both_true _ _ e in
    let number = both_true _ _ parts.0 in
    let rest = both_true _ _ number.1 in
    both_intro _ _ (both_intro _ _ number.0 (both_intro _ _ (inside_allowed s r.trial b rest.0) rest.1))
    (rows_now s rows b parts.1)

rows_then : (s : Shape) (rows : List Row) → rows_allowed s rows ≡ true → ((t : Trial) → Memᴰ t (trials rows) → inside s t ≡ true)
    → rows_allowed_before s rows ≡ true
unfolding rows_allowed rows_allowed_before row_allowed row_allowed_before trials
rows_then s [] e h = refl
rows_then s (r ∷ rows) e h =
    let parts = both_true _ _ e in
    let number = both_true _ _ parts.0 in
    let rest = both_true _ _ number.1 in
    both_intro _ _ (both_intro _ _ number.0 (both_intro _ _ (h r.trial (Memᴰ.head refl)) rest.1))
    (rows_then s rows parts.1 (λ t m. h t (Memᴰ.tail m)))

-- Rows 1 to 3. Words that passed as they were pass today, and either table leaves the verdict to the rows of the call.
module _ (w : List ℕ) (e : archive_rows_before w 0 ≡ 0) where
  passed_before : Unrefused (records_allowed_before w) w 0
  unfolding archive_rows_before
  passed_before = test_unrefused (records_allowed_before w) w 0 e

  bounds : ShapeBounds (read_shape w)
  bounds = shape_bounds (read_shape w) (header_facts w passed_before.headed).shaped

  records_now : records_allowed w ≡ true
  unfolding records_allowed records_allowed_before sound_rows sound_rows_before
  records_now =
      let records = both_true _ _ passed_before.records in
      let rows = both_true _ _ records.0 in
      both_intro _ _ (both_intro _ _ (rows_now (read_shape w) (read w).rows bounds rows.0) rows.1) records.1

  rows_same : (rest : ℕ) → archive_rows w rest ≡ archive_rows_before w rest
  unfolding guard archive_rows_before
  rows_same rest =
      row_3_decides w rest passed_before.headed
      ∙ rw (records_now, test_decides (records_allowed_before w) w rest passed_before.headed, passed_before.records)

  -- Row 6, of a point inside the reference.
  module _ (t : Trial) (i : inside (read w).shape t ≡ true) where
    allowed : coordinates_allowed t ≡ true
    unfolding read
    allowed = inside_allowed (read w).shape t bounds i

    insert_row : insert_rows (read w) t ≡ insert_rows_before (read w) t
    unfolding insert_rows admission_rows insert_rows_before
    insert_row = rw (allowed, i)

    gain_row : gain_rows t ≡ gain_rows_before (read w) t
    unfolding gain_rows gain_rows_before
    gain_row = rw (allowed, i)

    insert_same : Lent.insert w t ≡ insert_by table_before w t
    unfolding Lent.insert insert_by table_before
    insert_same = rw (rows_same (insert_rows (read w) t), insert_row)

-- Words that pass today passed before where no trial lies beyond the reference.
passed_then : (w : List ℕ) → archive_rows w 0 ≡ 0 → ((t : Trial) → Memᴰ t (trials (read w).rows) → inside (read w).shape t ≡ true)
    → archive_rows_before w 0 ≡ 0
unfolding archive_rows_before records_allowed records_allowed_before sound_rows sound_rows_before guard read
passed_then w p h =
    let u = unrefused w 0 p in
    let records = both_true _ _ u.records in
    let rows = both_true _ _ records.0 in
    let then : records_allowed_before w ≡ true =
    both_intro _ _ (both_intro _ _ (rows_then (read_shape w) (read w).rows rows.0 h) rows.1) records.1 in
    test_decides (records_allowed_before w) w 0 u.headed ∙ rw then

held_then : (w : List ℕ) (s : Shape) (ts : List Trial) → HoldsJust w s ts → ((t : Trial) → Memᴰ t ts → inside s t ≡ true) → archive_rows_before w 0 ≡ 0
unfolding trials
held_then w s ts h k =
    passed_then w h.passes
    (λ t m. let r = Memᴰ.of_map (λ r. r.trial) (read w).rows m in rw (h.shape, ← r.2) (k r.0.trial (h.no_other r.0 r.1)))

-- A line that is not refused leaves the verdict to the rest of the card.
judged_same : (before : List ℕ) (k line : ℕ) (rest other : Loading) → (k ≡ 0 → rest ≡ other) → judged before k line rest ≡ judged before k line other
unfolding judged
judged_same before zero line rest other e = e refl
judged_same before (suc k) line rest other e = refl

-- The further lines of a card, from words that hold a book's fresh archive.
further_same : (s : Shape) (rest before w : List ℕ) (b : Book) (n : ℕ) → Holds s rest b w → ((t : Trial) → Memᴰ t b.trials → inside s t ≡ true)
    → (ls : List (Option Numbers)) → ((t : Trial) → Memᴰ t (trials_on ls) → inside s t ≡ true)
    → further before w n ls ≡ further_by table_before before w n ls
unfolding further further_by further_line by_form numbers_on entered
further_same s rest before w b n h old [] new = refl
further_same s rest before w b n h old (none ∷ ls) new = unfold malformed judged in refl
further_same s rest before w b n h old (some v ∷ ls) new =
    let t : Trial = trial_on v in
    let here : inside s t ≡ true = new t (Memᴰ.head refl) in
    let held : HoldsJust w s b.trials = holds_just s rest w b h in
    let then : archive_rows_before w 0 ≡ 0 = held_then w s b.trials held old in
    let same : Lent.insert w t ≡ insert_by table_before w t = insert_same w then t (rw held.shape here) in
    rw (← same)
    (judged_same before (Lent.insert w t).refusal (n + 2) _ _
    (λ e. further_same s rest before (Lent.insert w t).words (entered t b) (n + 1) (inserts s rest w b (length w) refl h t e).holds (with_one t here) ls (λ u m. new u (Memᴰ.tail m))))
  where
    with_one : (t : Trial) → inside s t ≡ true → (u : Trial) → Memᴰ u (entered t b).trials → inside s u ≡ true
    with_one t here u m = go (Memᴰ.cases_cons m)
      where
        go : (u ≡ t) ⊎ Memᴰ u b.trials → inside s u ≡ true
        go (inl e) = rw e here
        go (inr k) = old u k

lines_same : (w : List ℕ) (ls : List (Option Numbers))
    → ((t : Trial) → Memᴰ t (map trial_on (drop 1 (map numbers_on ls))) → inside (shape_on (get_or (map numbers_on ls) 0 no_numbers)) t ≡ true)
    → from_first w ls ≡ from_first_by table_before w ls
unfolding from_first from_first_by first_line by_form numbers_on
lines_same w [] h = refl
lines_same w (none ∷ ls) h = unfold malformed judged in refl
lines_same w (some v ∷ ls) h =
    judged_same w (Lent.start w (shape_on v)).refusal 1 _ _
    (λ e. further_same (shape_on v) _ w (Lent.start w (shape_on v)).words (opened_by (shape_on v)) 0 (started w (shape_on v) e).holds (λ t m. unfold opened in absurd (Memᴰ.not-nil m)) ls h)

load_same : (w card : List ℕ) → EachTrial (λ s t. inside s t ≡ true) card → Card.load w card ≡ load_by table_before w card
unfolding Card.load load_by card_shape card_trials
load_same w card h = lines_same w (lines card) h

-- By the table of today the calls are those that the contracts cite.
further_cited : (before w : List ℕ) (n : ℕ) (ls : List (Option Numbers)) → further before w n ls ≡ further_by table_now before w n ls
unfolding further further_by further_line insert_by table_now Lent.insert
further_cited before w n [] = refl
further_cited before w n (l ∷ ls) =
    ap (judged before (further_line w l).refusal (n + 2)) (further_cited before (further_line w l).words (n + 1) ls)

load_cited : (w card : List ℕ) → Card.load w card ≡ load_by table_now w card
unfolding Card.load load_by from_first from_first_by
load_cited w card = go (lines card)
  where
    go : (ls : List (Option Numbers)) → from_first w ls ≡ from_first_by table_now w ls
    go [] = refl
    go (l ∷ ls) = ap (judged w (first_line w l).refusal 1) (further_cited w (first_line w l).words 0 ls)

-- "Every formerly accepted call answers as before."
pub unchanged : Unchanged
unfolding table_now table_before Lent.insert insert_by Lent.remove remove_by Lent.least least_by Lent.reduce reduce_by Lent.joint Lent.gain_answer
    Lent.share Lent.audit asked_by Report.report Report.reported report_rows text_rows short_output Check.check check_by
unchanged =
    record {
      as_cited =
          record {
            insert = λ w t h i. refl;
            remove = λ w n h. refl;
            least = λ w rule h. refl;
            reduce = λ w k rule log h. refl;
            joint = λ w m n h. refl;
            gain = λ w p h i. refl;
            share = λ w h. refl;
            audit = λ w h. refl;
            report = λ w out h. refl;
            reported = λ w out h. refl;
            load = λ w card h. load_cited w card;
            check = λ card h. ap (λ l. packed l.answer) (load_cited (replicate (extent 512) 0) card);
          };
      as_before =
          record {
            insert = λ w t h i. insert_same w h t i;
            remove = λ w n h. rw (rows_same w h (remove_rows (read w) n));
            least = λ w rule h. rw (rows_same w h (least_rows (read w) rule));
            reduce = λ w k rule log h. rw (rows_same w h (reduce_rows (read w) k rule (length log)));
            joint = λ w m n h. rw (rows_same w h (joint_rows (read w) m n));
            gain = λ w p h i. rw (rows_same w h (gain_rows p), gain_row w h p i);
            share = λ w h. rw (rows_same w h 0);
            audit = λ w h. rw (rows_same w h 0);
            report = λ w out h. rw (rows_same w h (short_output w out));
            reported = λ w out h. rw (rows_same w h (short_output w out));
            load = load_same;
            check = λ card h. ap (λ l. packed l.answer) (load_same (replicate (extent 512) 0) card h);
          };
      only_beyond = passed_then;
    }
