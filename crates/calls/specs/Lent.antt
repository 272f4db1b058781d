-- What each call answers and what every lent slice then holds (document 00, term 1; document 01, "Calls"). These
-- are the definitions that the contracts cite, for any words and any arguments.
use Rattle.std.specs.Prelude.{ℕ, zero, suc, ◌-◌, ◌≡◌, not, List, ◌++◌, [], ltb, length, drop}
use Rattle.hypervolume.specs.Cells.{holds}
use Rattle.words.specs.Archive.{Trial, Row, Shape}
use Rattle.words.specs.Layout.{layout, read, extent, behind}
use Rattle.words.specs.Format.{guard, shape_allowed, archive_rows}
use Rattle.calls.specs.declared.Answer.{Answer}
use Rattle.calls.specs.declared.LeastAnswer.{LeastAnswer}
use Rattle.calls.specs.Calls.{empty, inserted, insert_rows, removed, remove_rows, least_row, least_rows, joint_of, joint_rows, insert_gain, gain_rows, share_of, audited, after_drops, notes, reduce_rows}

-- The trial and the shape of the numbers given, whatever they are.
abbrev pub trial_of : (number x y z : ℕ) → Trial
trial_of number x y z = record { number = number; x = x; y = y; z = z }

abbrev pub shape_of : (capacity rx ry rz : ℕ) → Shape
shape_of capacity rx ry rz = record { capacity = capacity; rx = rx; ry = ry; rz = rz }

-- What a call that writes leaves and answers: the refusal (0 when done), the value, the archive slice, the log.
pub record Outcome : Type 0 where
  pub refusal : ℕ
  pub value : ℕ
  pub words : List ℕ
  pub log : List ℕ

-- Where a refusal is given (not 0): its number, zeros, "and lent memory as before the call". Else: 0 and the
-- value; the new archive, "words from 8 + 5 × capacity on" untouched; the notes, "log words behind these stay
-- unchanged".
unfoldable pub leaves : List ℕ → List ℕ → ℕ → ℕ → List ℕ → List ℕ → Outcome
leaves w log zero value archive notes =
    record { refusal = 0; value = value; words = archive; log = notes ++ drop (length notes) log }
leaves w log (suc n) value archive notes = record { refusal = suc n; value = 0; words = w; log = log }

-- An answer of one number: zero in a refusal.
unfoldable pub answer : ℕ → ℕ → Answer
answer zero value = record { refusal = 0; value = value }
answer (suc n) value = record { refusal = suc n; value = 0 }

-- Start. "Start checks 4 before 1"; "its earlier contents don't matter": of the slice only the length is judged.
unfoldable pub start_rows : ℕ → Shape → ℕ
start_rows long s = guard (not (shape_allowed s)) 4 (guard (ltb long (extent s.capacity)) 1 0)

unfoldable pub start : List ℕ → Shape → Outcome
start w s = leaves w [] (start_rows (length w) s) 0 (layout (empty s) ++ drop (extent s.capacity) w) []

-- Insert (number, point).
unfoldable pub insert : List ℕ → Trial → Outcome
insert w t = leaves w [] (archive_rows w (insert_rows (read w) t)) 0 (layout (inserted (read w) t) ++ behind w) []

-- Remove (number).
unfoldable pub remove : List ℕ → ℕ → Outcome
remove w n = leaves w [] (archive_rows w (remove_rows (read w) n)) 0 (layout (removed (read w) n) ++ behind w) []

-- Least (tie rule): "number and kept contribution".
unfoldable pub least_answer : ℕ → Row → LeastAnswer
least_answer zero r = record { refusal = 0; number = r.trial.number; contribution = r.kept }
least_answer (suc n) r = record { refusal = suc n; number = 0; contribution = 0 }

unfoldable pub least : List ℕ → (rule : ℕ) → LeastAnswer
least w rule = least_answer (archive_rows w (least_rows (read w) rule)) (least_row rule (read w).rows)

-- Reduce (k, tie rule, log): "it answers the count of drops".
unfoldable pub reduce : List ℕ → (k rule : ℕ) → List ℕ → Outcome
reduce w k rule log =
    leaves w log (archive_rows w (reduce_rows (read w) k rule (length log))) (length (read w).rows - k)
    (layout (after_drops rule (length (read w).rows - k) (read w)) ++ behind w)
    (notes rule (length (read w).rows - k) (read w))

-- The answer, the archive slice and the log of a reduction are those of its outcome.
pub record MeetsOutcome (o : Outcome) (r : Answer) (words log : List ℕ) : Type 0 where
  pub answered : r ≡ record { refusal = o.refusal; value = o.value }
  pub left : words ≡ o.words
  pub noted : log ≡ o.log

-- Joint (two numbers), gain (point), share, audit (1 for yes).
unfoldable pub joint : List ℕ → ℕ → ℕ → Answer
joint w m n = answer (archive_rows w (joint_rows (read w) m n)) (joint_of (read w) m n)

unfoldable pub gain_answer : List ℕ → Trial → Answer
gain_answer w t = answer (archive_rows w (gain_rows t)) (insert_gain (read w) t)

unfoldable pub share : List ℕ → Answer
share w = answer (archive_rows w 0) (share_of (read w))

unfoldable pub audit : List ℕ → Answer
audit w = answer (archive_rows w 0) (holds (audited (read w)))
