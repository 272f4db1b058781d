-- What a replacement would change (document 02, W-202): "what replacing trial a by a new point would do: the total afterwards less the
-- total before, signed". "The archive is not touched."
use Rattle.std.specs.Prelude.{ℕ, zero, suc, ◌≤◌, ◌≡◌, true, not, List, ◌∷◌, [], eqb, ℤ, pos, ◌-ℤ◌, nat_abs}
use Rattle.slices.specs.Choices.{pick}
use Rattle.hypervolume.specs.Counts.{total}
use Rattle.words.specs.Archive.{Trial, Row, Archive, point}
use Rattle.words.specs.Layout.{read}
use Rattle.words.specs.Format.{guard, held, coordinates_allowed, archive_rows}
use Rattle.calls.specs.declared.Change.{Change}
use Rattle.calls.specs.Calls.{held_trials, held_points, reference_of, box_of, insert_gain, row_of, without, removal_loss}
use Rattle.calls.specs.Lent.{insert, remove}

-- The points of the trials, with this point in place of trial n's.
unfoldable pub replaced : ℕ → List ℕ → List Row → List (List ℕ)
replaced n p [] = []
replaced n p (r ∷ rows) = pick (eqb r.trial.number n) p (point r.trial) ∷ replaced n p rows

-- The difference of two counts, as a whole number with a sign.
unfoldable pub difference : ℕ → ℕ → ℤ
difference m n = pos m -ℤ pos n

-- "The total afterwards less the total before": counts, whatever total is kept.
unfoldable pub change_of : Archive → ℕ → Trial → ℤ
change_of a n t =
    difference (total (reference_of a) (replaced n (point t) a.rows)) (total (reference_of a) (held_points a))

-- "(Order: rows 1 to 3, 9, 6.)"
unfoldable pub replace_rows : Archive → ℕ → Trial → ℕ
replace_rows a n t = guard (not (held n (held_trials a))) 9 (guard (not (coordinates_allowed t)) 6 0)

-- The answer: zero in a refusal.
unfoldable pub change : ℕ → ℤ → Change
change zero d = record { refusal = 0; difference = d }
change (suc r) d = record { refusal = suc r; difference = pos 0 }

-- Replace-effect (number, point). Of the trial t only the point counts.
unfoldable pub replace_effect : List ℕ → ℕ → Trial → Change
replace_effect w n t = change (archive_rows w (replace_rows (read w) n t)) (change_of (read w) n t)

-- The counted total of words.
abbrev pub counted_total : List ℕ → ℕ
counted_total w = total (reference_of (read w)) (held_points (read w))

-- What it is, of a trial n that is held on words that rows 1 to 3 let pass.
pub record Replaceable (w : List ℕ) (n : ℕ) : Type 0 where
  pub passes : archive_rows w 0 ≡ 0
  pub known : held n (held_trials (read w)) ≡ true

pub record ReplacementLaws : Type 0 where
  -- What the point gains over the other trials, less what trial n's own point gains over them.
  pub gains : (w : List ℕ) (n : ℕ) (t : Trial) → Replaceable w n → change_of (read w) n t ≡ difference (insert_gain (without (read w) n) t) (removal_loss (read w) n)
  -- "A point equal to a gives 0."
  pub equal : (w : List ℕ) (n : ℕ) (t : Trial) → Replaceable w n → point t ≡ point (row_of n (read w).rows).trial → change_of (read w) n t ≡ pos 0
  -- "From −2^60 to 2^60": at most the box either way, for any archive.
  pub within : (a : Archive) (n : ℕ) (t : Trial) → nat_abs (change_of a n t) ≤ box_of a
  -- Where the trial's removal and the insertion of the point under its number are done, they change the counted total by that.
  pub made : (w : List ℕ) (n : ℕ) (t : Trial) → t.number ≡ n → (remove w n).refusal ≡ 0 → (insert (remove w n).words t).refusal ≡ 0
      → change_of (read w) n t ≡ difference (counted_total (insert (remove w n).words t).words) (counted_total w)
