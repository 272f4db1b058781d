-- The calls on an archive that has been read (document 01, "Calls"), and the rows of the table that turn them
-- down after rows 1 to 3. Lent says what each of them answers and leaves in memory.
use Rattle.std.specs.Prelude.{ℕ, zero, suc, ◌+◌, ◌-◌, ◌*◌, Bool, true, false, not, List, ◌∷◌, ◌++◌, map, [], ltb, eqb, length}
use Rattle.slices.specs.Choices.{both, pick, either}
use Rattle.rounding.specs.Nearest.{nearest}
use Rattle.hypervolume.specs.Cells.{box}
use Rattle.hypervolume.specs.Counts.{total, contribution, joint, gain}
use Rattle.hypervolume.specs.Front.{front}
use Rattle.words.specs.Archive.{Trial, Row, Shape, Archive, point, reference, trials, points, before}
use Rattle.words.specs.Format.{guard, number_allowed, coordinates_allowed, held}

-- The trials an archive holds, its reference, and their points.
abbrev pub held_trials : Archive → List Trial
held_trials a = trials a.rows

abbrev pub held_points : Archive → List (List ℕ)
held_points a = points (trials a.rows)

abbrev pub reference_of : Archive → List ℕ
reference_of a = reference a.shape

abbrev pub box_of : Archive → ℕ
box_of a = box (reference_of a)

-- Word 6 "holds how many trials are on the front", "counted anew by every start, insertion, removal and reduction" (document 02,
-- W-209): from the trials that are then held, and never from the word as it was.
abbrev pub renewed : Shape → ℕ → List Row → Archive
renewed s total rows = record { shape = s; sum = total; front = front (points (trials rows)); rows = rows }

-- Start: "writes an empty archive".
unfoldable pub empty : Shape → Archive
empty s = renewed s 0 []

-- The record in its place in the archive's order.
unfoldable pub place : {A : Type 0} → (A → Trial) → A → List A → List A
place trial a [] = a ∷ []
place trial a (b ∷ l) = pick (before (trial a) (trial b)) (a ∷ b ∷ l) (b ∷ place trial a l)

-- All of them in the archive's order.
unfoldable pub in_order : {A : Type 0} → (A → Trial) → List A → List A
in_order trial [] = []
in_order trial (a ∷ l) = place trial a (in_order trial l)

-- Insert. "The new record's contribution is its counted gain. The total and every other record's contribution
-- move by the counted amounts, not by stored ones."
unfoldable pub insert_gain : Archive → Trial → ℕ
insert_gain a t = gain (reference_of a) (held_points a) (point t)

-- Joint count of a new trial with a held one, just after the insertion.
unfoldable pub joint_with : Archive → Trial → Row → ℕ
joint_with a t r = joint (reference_of a) (point t ∷ held_points a) (point t) (point r.trial)

unfoldable pub lowered : Archive → Trial → Row → Row
lowered a t r = record { trial = r.trial; kept = r.kept - joint_with a t r }

unfoldable pub inserted : Archive → Trial → Archive
inserted a t =
    renewed a.shape (a.sum + insert_gain a t)
    (place (λ r. r.trial) (record { trial = t; kept = insert_gain a t }) (map (lowered a t) a.rows))

-- Row 13, insert: "a new total or contribution would fall below 0 or exceed the box". A total only rises here and
-- a contribution only falls; the new record's contribution is a count, so it is at most the box.
unfoldable pub falls_below : Archive → Trial → List Row → Bool
falls_below a t [] = false
falls_below a t (r ∷ rows) = either (ltb r.kept (joint_with a t r)) (falls_below a t rows)

unfoldable pub insert_overruns : Archive → Trial → Bool
insert_overruns a t = either (ltb (box_of a) (a.sum + insert_gain a t)) (falls_below a t a.rows)

-- Rows 5 to 8, which judge a new trial, then the rows after them.
unfoldable pub admission_rows : Archive → Trial → ℕ → ℕ
admission_rows a t rest =
    guard (not (number_allowed t.number)) 5
    (guard (not (coordinates_allowed t)) 6
    (guard (held t.number (held_trials a)) 7 (guard (eqb (length a.rows) a.shape.capacity) 8 rest)))

-- The rows of insert, in the table's order.
unfoldable pub insert_rows : Archive → Trial → ℕ
insert_rows a t = admission_rows a t (guard (insert_overruns a t) 13 0)

-- The record of a number, and the records of the others.
unfoldable pub row_of : ℕ → List Row → Row
row_of n [] = record { trial = record { number = 0; x = 0; y = 0; z = 0 }; kept = 0 }
row_of n (r ∷ rows) = pick (eqb r.trial.number n) r (row_of n rows)

unfoldable pub others : ℕ → List Row → List Row
others n [] = []
others n (r ∷ rows) = pick (eqb r.trial.number n) (others n rows) (r ∷ others n rows)

-- The archive without the records of this number; the rest still as it was.
unfoldable pub without : Archive → ℕ → Archive
without a n = record { shape = a.shape; sum = a.sum; front = a.front; rows = others n a.rows }

-- Remove. The counted contribution of the trial leaves the total; every other record's contribution rises by the
-- joint count with it, just before the removal.
unfoldable pub removal_loss : Archive → ℕ → ℕ
removal_loss a n = insert_gain (without a n) (row_of n a.rows).trial

unfoldable pub raised : Archive → Trial → Row → Row
raised a t r = record { trial = r.trial; kept = r.kept + joint_with a t r }

unfoldable pub removed : Archive → ℕ → Archive
removed a n =
    renewed a.shape (a.sum - removal_loss a n)
    (map (raised (without a n) (row_of n a.rows).trial) (others n a.rows))

-- Row 13, remove: the total only falls and a contribution only rises.
unfoldable pub exceeds : Archive → Trial → List Row → Bool
exceeds a t [] = false
exceeds a t (r ∷ rows) = either (ltb (box_of a) (r.kept + joint_with a t r)) (exceeds a t rows)

unfoldable pub remove_overruns : Archive → ℕ → Bool
remove_overruns a n =
    either (ltb a.sum (removal_loss a n))
    (exceeds (without a n) (row_of n a.rows).trial (others n a.rows))

-- The rows of remove.
unfoldable pub remove_rows : Archive → ℕ → ℕ
remove_rows a n = guard (not (held n (held_trials a))) 9 (guard (remove_overruns a n) 13 0)

-- The tie rule (document 02, W-206): "among equal least contributors the lowest trial number now goes", and jobs that "relied on the
-- highest" "name that rule in the call: 0 the default, 1 the highest". Whether trial m goes before trial n among equals.
unfoldable pub number_first : (rule m n : ℕ) → Bool
number_first rule m n = pick (eqb rule 0) (ltb m n) (ltb n m)

-- Row 18: "tie rule neither 0 nor 1".
unfoldable pub rule_allowed : ℕ → Bool
rule_allowed rule = either (eqb rule 0) (eqb rule 1)

-- Least: "the trial whose kept contribution is least", among equals by the tie rule: r goes before s.
unfoldable pub goes_first : (rule : ℕ) → Row → Row → Bool
goes_first rule r s =
    either (ltb r.kept s.kept)
    (both (eqb r.kept s.kept) (number_first rule r.trial.number s.trial.number))

unfoldable pub least_from : (rule : ℕ) → Row → List Row → Row
least_from rule r [] = r
least_from rule r (s ∷ rows) = least_from rule (pick (goes_first rule s r) s r) rows

-- The least contributor of an archive that holds a trial.
unfoldable pub least_row : (rule : ℕ) → List Row → Row
least_row rule [] = row_of 0 []
least_row rule (r ∷ rows) = least_from rule r rows

-- The rows of least.
unfoldable pub least_rows : Archive → (rule : ℕ) → ℕ
least_rows a rule = guard (not (rule_allowed rule)) 18 (guard (eqb (length a.rows) 0) 14 0)

-- Joint: cells that both trials dominate and no third does.
unfoldable pub joint_of : Archive → ℕ → ℕ → ℕ
joint_of a m n =
    joint (reference_of a) (held_points a) (point (row_of m a.rows).trial) (point (row_of n a.rows).trial)

unfoldable pub joint_rows : Archive → ℕ → ℕ → ℕ
joint_rows a m n =
    guard (not (both (held m (held_trials a)) (held n (held_trials a)))) 9 (guard (eqb m n) 10 0)

-- Gain of a point (a trial's number does not matter to it).
unfoldable pub gain_rows : Trial → ℕ
gain_rows t = guard (not (coordinates_allowed t)) 6 0

-- "Share: the kept total (word 5) × 1,000,000 divided by the box", and by document 02, W-204, "rounded to the nearest,
-- and a tie goes to the even number".
unfoldable pub share_of : Archive → ℕ
share_of a = nearest (a.sum * 1000000) (box_of a)

-- "The audit answers yes exactly when the total and all contributions equal their counts"; "the audit includes" the front
-- (document 02, W-209).
unfoldable pub rows_counted : Archive → List Row → Bool
rows_counted a [] = true
rows_counted a (r ∷ rows) =
    both (eqb r.kept (contribution (reference_of a) (held_points a) (point r.trial))) (rows_counted a rows)

unfoldable pub audited : Archive → Bool
audited a =
    both (eqb a.sum (total (reference_of a) (held_points a)))
    (both (eqb a.front (front (held_points a))) (rows_counted a a.rows))

-- Reduce: "drops the least contributor by that rule until k trials are held". For each drop "the number and its
-- contribution at that moment".
unfoldable pub dropped : (rule : ℕ) → Archive → Archive
dropped rule a = removed a (least_row rule a.rows).trial.number

unfoldable pub note : (rule : ℕ) → Archive → List ℕ
note rule a = (least_row rule a.rows).trial.number ∷ (least_row rule a.rows).kept ∷ []

unfoldable pub after_drops : (rule : ℕ) → ℕ → Archive → Archive
after_drops rule zero a = a
after_drops rule (suc n) a = after_drops rule n (dropped rule a)

unfoldable pub notes : (rule : ℕ) → ℕ → Archive → List ℕ
notes rule zero a = []
notes rule (suc n) a = note rule a ++ notes rule n (dropped rule a)

-- The rows of reduce; of the log only its length matters.
unfoldable pub reduce_rows : Archive → (k rule log : ℕ) → ℕ
reduce_rows a k rule log =
    guard (not (rule_allowed rule)) 18
    (guard (ltb (length a.rows) k) 11
    (guard (ltb log (2 * (length a.rows - k))) 12 (guard (not (audited a)) 13 0)))
