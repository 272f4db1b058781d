-- What the drops of a reduction are (document 01, "Calls"; document 00, term 3), as a relation between the archive
-- before, the notes and the archive after. That a reduction is such drops stands in proofs/Drops.
use Rattle.std.specs.Prelude.{ℕ, ◌+◌, ◌≤◌, ◌≡◌}
use mathlib.Core.List.{List, ◌∷◌, Memᴰ, []}
use Rattle.words.specs.Archive.{Row, Archive}
use Rattle.calls.specs.Calls.{removed}
use Rattle.calls.specs.Counted.{IsCounted}

-- r is "a least contributor among the trials then held": contributions are counted at that moment, r is held, none
-- contributes less, and among equals it has "the lowest trial number" by rule 0 and "the highest" by rule 1 (document 02,
-- W-206).
pub record LeastHeld (rule : ℕ) (a : Archive) (r : Row) : Type 0 where
  pub counted : IsCounted a
  pub member : Memᴰ r a.rows
  pub least : (s : Row) → Memᴰ s a.rows → r.kept ≤ s.kept
  pub lowest : rule ≡ 0 → (s : Row) → Memᴰ s a.rows → s.kept ≡ r.kept → r.trial.number ≤ s.trial.number
  pub highest : rule ≡ 1 → (s : Row) → Memᴰ s a.rows → s.kept ≡ r.kept → s.trial.number ≤ r.trial.number

-- Drops that lead from one archive to another, with what is noted: each takes a least contributor of that moment.
pub data Drops (rule : ℕ) : Archive → List ℕ → Archive → Type 0 where
  none : {a : Archive} → Drops rule a [] a
  drop : {a b : Archive} {notes : List ℕ} (r : Row) → LeastHeld rule a r → Drops rule (removed a r.trial.number) notes b → Drops rule a (r.trial.number ∷ r.kept ∷ notes) b

-- The sum of the contributions noted: every second word.
unfoldable pub noted_sum : List ℕ → ℕ
noted_sum [] = 0
noted_sum (number ∷ []) = 0
noted_sum (number ∷ contribution ∷ notes) = contribution + noted_sum notes
