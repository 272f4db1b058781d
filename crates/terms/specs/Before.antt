-- "Every formerly accepted call answers as before" (document 02, W-201). Until then rows 3 and 6 turned down a
-- coordinate beyond the reference. That condition and the rows that read it stand here as they were; everything else of
-- the calls is what they share with the calls of today, the rounding of a share (W-204) with it.
use Rattle.std.specs.Prelude.{ℕ, ◌+◌, ◌*◌, ◌-◌, ◌≡◌, Bool, true, not, leb, ltb, eqb, length, replicate}
use mathlib.Core.List.{List, ◌∷◌, ◌++◌, [], Memᴰ}
use Rattle.std.proofs.Math.Option.{Option}
use Rattle.slices.specs.Choices.{both}
use Rattle.hypervolume.specs.Cells.{holds, box, dominates}
use Rattle.text.specs.Lines.{Numbers}
use Rattle.words.specs.Archive.{Trial, Row, Shape, Archive, point, reference, trials}
use Rattle.words.specs.Layout.{word, read, read_shape, extent, layout, behind}
use Rattle.words.specs.Format.{guard, number_allowed, header_allowed, ordered, held, distinct, zeros, unused, archive_rows}
use Rattle.calls.specs.Calls.{held_trials, inserted, insert_gain, insert_overruns, insert_rows, removed, remove_rows, least_row, least_rows, joint_of, joint_rows, gain_rows, share_of, audited, after_drops, notes, reduce_rows}
use Rattle.calls.specs.declared.Answer.{Answer}
use Rattle.calls.specs.declared.LeastAnswer.{LeastAnswer}
use Rattle.calls.specs.Lent
use Rattle.calls.specs.Lent.{Outcome, leaves, answer, least_answer}
use Rattle.card.specs.Card
use Rattle.card.specs.Card.{trial_on, lines, by_form, first_line, Loading, refused, accepted, judged}
use Rattle.card.specs.Check
use Rattle.card.specs.Check.{packed}
use Rattle.printing.specs.Texts.{output}
use Rattle.reports.specs.Report
use Rattle.reports.specs.Report.{report_text}
use Rattle.terms.specs.Loading.{card_shape, card_trials}

-- The condition of rows 3 and 6 as it was: "coordinates run from 0 to the reference on that axis, both allowed".
unfoldable pub inside : Shape → Trial → Bool
inside s t = dominates (point t) (reference s)

-- Row 3 as it was.
unfoldable pub row_allowed_before : Shape → Row → Bool
row_allowed_before s r =
    both (number_allowed r.trial.number) (both (inside s r.trial) (leb r.kept (box (reference s))))

unfoldable pub rows_allowed_before : Shape → List Row → Bool
rows_allowed_before s [] = true
rows_allowed_before s (r ∷ rows) = both (row_allowed_before s r) (rows_allowed_before s rows)

unfoldable pub sound_rows_before : Shape → List Row → Bool
sound_rows_before s rows =
    both (rows_allowed_before s rows) (both (ordered (trials rows)) (distinct (trials rows)))

unfoldable pub records_allowed_before : List ℕ → Bool
records_allowed_before w = both (sound_rows_before (read_shape w) (read w).rows) (zeros (unused w))

-- Rows 1 to 3 as they were.
unfoldable pub archive_rows_before : List ℕ → ℕ → ℕ
archive_rows_before w rest =
    guard (ltb (length w) 8) 1
    (guard (not (header_allowed w)) 2
    (guard (ltb (length w) (extent (word w 1))) 1 (guard (not (records_allowed_before w)) 3 rest)))

-- The rows of insert and of gain as they were, with row 6.
unfoldable pub insert_rows_before : Archive → Trial → ℕ
insert_rows_before a t =
    guard (not (number_allowed t.number)) 5
    (guard (not (inside a.shape t)) 6
    (guard (held t.number (held_trials a)) 7
    (guard (eqb (length a.rows) a.shape.capacity) 8 (guard (insert_overruns a t) 13 0))))

unfoldable pub gain_rows_before : Archive → Trial → ℕ
gain_rows_before a t = guard (not (inside a.shape t)) 6 0

-- The rows that read the condition: rows 1 to 3, those of insert, those of gain.
pub record Table : Type 0 where
  pub archive : List ℕ → ℕ → ℕ
  pub insert : Archive → Trial → ℕ
  pub gain : Archive → Trial → ℕ

unfoldable pub table_now : Table
table_now = record { archive = archive_rows; insert = insert_rows; gain = λ a t. gain_rows t }

unfoldable pub table_before : Table
table_before = record { archive = archive_rows_before; insert = insert_rows_before; gain = gain_rows_before }

-- The calls by a table, in the order of calls/specs/Lent, card/specs/Card and reports/specs/Report. For the table of
-- today they are the definitions there, which the contracts cite (Unchanged.as-cited).
unfoldable pub insert_by : Table → List ℕ → Trial → Outcome
insert_by by w t =
    leaves w [] (by.archive w (by.insert (read w) t)) 0 (layout (inserted (read w) t) ++ behind w) []

unfoldable pub remove_by : Table → List ℕ → ℕ → Outcome
remove_by by w n =
    leaves w [] (by.archive w (remove_rows (read w) n)) 0 (layout (removed (read w) n) ++ behind w) []

unfoldable pub least_by : Table → List ℕ → (rule : ℕ) → LeastAnswer
least_by by w rule = least_answer (by.archive w (least_rows (read w) rule)) (least_row rule (read w).rows)

unfoldable pub reduce_by : Table → List ℕ → (k rule : ℕ) → List ℕ → Outcome
reduce_by by w k rule log =
    leaves w log (by.archive w (reduce_rows (read w) k rule (length log))) (length (read w).rows - k)
    (layout (after_drops rule (length (read w).rows - k) (read w)) ++ behind w)
    (notes rule (length (read w).rows - k) (read w))

-- A question that the archive's own rows and these rows of the call may turn down.
unfoldable pub asked_by : Table → List ℕ → (rows value : ℕ) → Answer
asked_by by w rows value = answer (by.archive w rows) value

unfoldable pub further_by : Table → List ℕ → List ℕ → ℕ → List (Option Numbers) → Loading
further_by by before w count [] = accepted count w
further_by by before w count (l ∷ ls) =
    judged before (by_form w l (λ v. insert_by by w (trial_on v))).refusal (count + 2)
    (further_by by before (by_form w l (λ v. insert_by by w (trial_on v))).words (count + 1) ls)

unfoldable pub from_first_by : Table → List ℕ → List (Option Numbers) → Loading
from_first_by by w [] = refused w 15 1
from_first_by by w (l ∷ ls) =
    judged w (first_line w l).refusal 1 (further_by by w (first_line w l).words 0 ls)

unfoldable pub load_by : Table → List ℕ → List ℕ → Loading
load_by by w card = from_first_by by w (lines card)

unfoldable pub check_by : Table → List ℕ → ℕ
check_by by card = packed (load_by by (replicate (extent 512) 0) card).answer

-- Row 16.
unfoldable pub short_output : List ℕ → List ℕ → ℕ
short_output w out = guard (ltb (length out) (53 * (length (read w).rows + 1))) 16 0

-- So it is with every trial of the card under the card's shape.
abbrev pub EachTrial : (Shape → Trial → Type 0) → List ℕ → Type 0
EachTrial Point card = (t : Trial) → Memᴰ t (card_trials card) → Point (card_shape card) t

-- Where the words, the points and the card are so, the calls that the contracts cite answer and leave what the calls by
-- the table do.
pub record CallsAlike (by : Table) (Words : List ℕ → Type 0) (Point : Shape → Trial → Type 0) : Type 0 where
  pub insert : (w : List ℕ) (t : Trial) → Words w → Point (read w).shape t → Lent.insert w t ≡ insert_by by w t
  pub remove : (w : List ℕ) (n : ℕ) → Words w → Lent.remove w n ≡ remove_by by w n
  pub least : (w : List ℕ) (rule : ℕ) → Words w → Lent.least w rule ≡ least_by by w rule
  pub reduce : (w : List ℕ) (k rule : ℕ) (log : List ℕ) → Words w → Lent.reduce w k rule log ≡ reduce_by by w k rule log
  pub joint : (w : List ℕ) (m n : ℕ) → Words w → Lent.joint w m n ≡ asked_by by w (joint_rows (read w) m n) (joint_of (read w) m n)
  pub gain : (w : List ℕ) (p : Trial) → Words w → Point (read w).shape p
      → Lent.gain_answer w p ≡ asked_by by w (by.gain (read w) p) (insert_gain (read w) p)
  pub share : (w : List ℕ) → Words w → Lent.share w ≡ asked_by by w 0 (share_of (read w))
  pub audit : (w : List ℕ) → Words w → Lent.audit w ≡ asked_by by w 0 (holds (audited (read w)))
  pub report : (w out : List ℕ) → Words w → Report.report w out ≡ asked_by by w (short_output w out) (length (report_text (read w)))
  pub reported : (w out : List ℕ) → Words w
      → Report.reported w out ≡ output (by.archive w (short_output w out)) (report_text (read w)) out
  pub load : (w card : List ℕ) → EachTrial Point card → Card.load w card ≡ load_by by w card
  pub check : (card : List ℕ) → EachTrial Point card → Check.check card ≡ check_by by card

-- By the table of today the calls are those that the contracts cite, always. By the table as it was they are so on words
-- that its rows 1 to 3 let pass, for points that its row 6 lets pass, and for cards whose coordinates are at most their
-- reference. (The other rows may turn the call down.) Start is not among them: it reads no coordinate.
pub record Unchanged : Type 0 where
  pub as_cited : CallsAlike table_now (λ w. Unit {0}) (λ s t. Unit {0})
  pub as_before : CallsAlike table_before (λ w. archive_rows_before w 0 ≡ 0) (λ s t. inside s t ≡ true)
  -- rows 1 to 3 gave way nowhere else: words that pass today passed then where no trial lies beyond the reference
  pub only_beyond : (w : List ℕ) → archive_rows w 0 ≡ 0
      → ((t : Trial) → Memᴰ t (trials (read w).rows) → inside (read w).shape t ≡ true) → archive_rows_before w 0 ≡ 0
