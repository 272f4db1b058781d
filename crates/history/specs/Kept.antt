-- Term 2 of document 00, for words and the trials that they are to hold: what the words keep and what the calls answer
-- are counts on these trials. Terms says of which words and trials.
use Rattle.std.specs.Prelude.{ℕ, ◌≡◌, true, length}
use mathlib.Core.List.{List, Memᴰ}
use Rattle.hypervolume.specs.Counts
use Rattle.hypervolume.specs.Front
use Rattle.words.specs.Archive.{Trial, Row, Shape, point, reference, points}
use Rattle.words.specs.Layout.{read}
use Rattle.words.specs.Format.{coordinates_allowed, archive_rows}
use Rattle.calls.specs.Calls.{row_of}
use Rattle.calls.specs.Lent

-- The words pass rows 1 to 3 (so the records stand in order, each number once) and hold these trials and no other.
pub record HoldsJust (w : List ℕ) (s : Shape) (trials : List Trial) : Type 0 where
  pub passes : archive_rows w 0 ≡ 0
  pub shape : (read w).shape ≡ s
  pub count : length (read w).rows ≡ length trials
  pub held : (t : Trial) → Memᴰ t trials → (row_of t.number (read w).rows).trial ≡ t
  pub no_other : (r : Row) → Memᴰ r (read w).rows → Memᴰ r.trial trials

-- "The kept total is the number of cells that some trial dominates; a contribution is the number that this trial
-- dominates and no other does. Joint contributions and the gain of a point not held are such counts too." The kept front is
-- the number of trials on it (document 02, W-209). And the audit says yes. "Of two equal trials each contributes 0": t is any
-- one of the two.
pub record KeepsCounts (w : List ℕ) (s : Shape) (trials : List Trial) : Type 0 where
  pub total : (read w).sum ≡ Counts.total (reference s) (points trials)
  pub front : (read w).front ≡ Front.front (points trials)
  pub contribution : (t : Trial) → Memᴰ t trials
      → (row_of t.number (read w).rows).kept ≡ Counts.contribution (reference s) (points trials) (point t)
  pub equal_trials : (t u : Trial) → Memᴰ t trials → Memᴰ u trials → (t.number ≡ u.number → ⊥) → point t ≡ point u
      → (row_of t.number (read w).rows).kept ≡ 0
  pub joint : (t u : Trial) → Memᴰ t trials → Memᴰ u trials → (t.number ≡ u.number → ⊥)
      → Lent.joint w t.number u.number
      ≡ record { refusal = 0; value = Counts.joint (reference s) (points trials) (point t) (point u) }
  pub gain : (p : Trial) → coordinates_allowed p ≡ true
      → Lent.gain_answer w p ≡ record { refusal = 0; value = Counts.gain (reference s) (points trials) (point p) }
  pub audit : Lent.audit w ≡ record { refusal = 0; value = 1 }
