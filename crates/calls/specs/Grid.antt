-- A whole grid of passes in one call (document 02, W-203): "its outcome equals inserting them one by one and stopping at the first that
-- rows 5 to 8 or 13 turn down; earlier ones stay".
use Rattle.std.specs.Prelude.{ℕ, zero, suc, ◌/◌, ◌%◌, ◌≡◌, not, List, ◌∷◌, ◌++◌, [], eqb, length, drop}
use Rattle.words.specs.Archive.{Trial, Archive}
use Rattle.words.specs.Layout.{layout, read, word, behind}
use Rattle.words.specs.Format.{guard, archive_rows}
use Rattle.calls.specs.declared.GridAnswer.{GridAnswer}
use Rattle.calls.specs.Calls.{inserted, insert_rows}
use Rattle.calls.specs.Lent.{trial_of, insert}

-- "A lent slice of words, four to a trial: number, x, y, z."
unfoldable pub grid_trial : List ℕ → Trial
grid_trial grid = trial_of (word grid 0) (word grid 1) (word grid 2) (word grid 3)

-- The first n trials of these words.
unfoldable pub trials_from : ℕ → List ℕ → List Trial
trials_from zero grid = []
trials_from (suc n) grid = grid_trial grid ∷ trials_from n (drop 4 grid)

unfoldable pub grid_trials : List ℕ → List Trial
grid_trials grid = trials_from (length grid / 4) grid

-- What a grid makes of an archive: the archive then, "how many went in and the refusal number that stopped it, or 0".
pub record Filling : Type 0 where
  pub archive : Archive
  pub inserted : ℕ
  pub stop : ℕ

-- The trial next due goes in, ahead of the rest; or a row turns it down, which stops the grid.
unfoldable pub unless_stopped : (row : ℕ) → Archive → Filling → Filling
unless_stopped zero a rest = record { archive = rest.archive; inserted = suc rest.inserted; stop = rest.stop }
unless_stopped (suc row) a rest = record { archive = a; inserted = 0; stop = suc row }

unfoldable pub filled : Archive → List Trial → Filling
filled a [] = record { archive = a; inserted = 0; stop = 0 }
filled a (t ∷ ts) = unless_stopped (insert_rows a t) a (filled (inserted a t) ts)

-- "(17: slice length not a multiple of four; checked first, then rows 1 to 3, also for an empty grid.)"
unfoldable pub grid_rows : (w grid : List ℕ) → ℕ
grid_rows w grid = guard (not (eqb (length grid % 4) 0)) 17 (archive_rows w 0)

-- What the call answers, and what the archive slice then holds. "Such a stop is a finished call, unlike a refusal of the whole grid,
-- which inserts nothing."
pub record GridOutcome : Type 0 where
  pub answer : GridAnswer
  pub words : List ℕ

unfoldable pub grid_outcome : (row : ℕ) → List ℕ → Filling → GridOutcome
grid_outcome zero w f =
    record {
      answer = record { refusal = 0; inserted = f.inserted; stop = f.stop };
      words = layout f.archive ++ behind w;
    }
grid_outcome (suc row) w f = record { answer = record { refusal = suc row; inserted = 0; stop = 0 }; words = w }

-- Insert-grid (grid).
unfoldable pub insert_grid : (w grid : List ℕ) → GridOutcome
insert_grid w grid = grid_outcome (grid_rows w grid) w (filled (read w) (grid_trials grid))

-- The same trials inserted by calls, each on the words that the last one left, up to the first that is refused.
unfoldable pub unless_refused : (row : ℕ) → List ℕ → GridOutcome → GridOutcome
unless_refused zero w rest =
    record {
      answer = record { refusal = 0; inserted = suc rest.answer.inserted; stop = rest.answer.stop };
      words = rest.words;
    }
unless_refused (suc row) w rest = record { answer = record { refusal = 0; inserted = 0; stop = suc row }; words = w }

unfoldable pub one_by_one : List ℕ → List Trial → GridOutcome
one_by_one w [] = record { answer = record { refusal = 0; inserted = 0; stop = 0 }; words = w }
one_by_one w (t ∷ ts) = unless_refused (insert w t).refusal w (one_by_one (insert w t).words ts)

-- The rows that can stop a grid: "rows 5 to 8 or 13".
pub data Stops : ℕ → Type 0 where
  row_5 : Stops 5
  row_6 : Stops 6
  row_7 : Stops 7
  row_8 : Stops 8
  row_13 : Stops 13

pub record GridLaws : Type 0 where
  -- Row 17 comes first, whatever the words are; else the refusal is that of rows 1 to 3, "also for an empty grid".
  pub row_17 : (w grid : List ℕ) → (length grid % 4 ≡ 0 → ⊥) → (insert_grid w grid).answer.refusal ≡ 17
  pub rows_1_to_3 : (w grid : List ℕ) → length grid % 4 ≡ 0 → (insert_grid w grid).answer.refusal ≡ archive_rows w 0
  -- "Its outcome equals inserting them one by one", where the call is not refused.
  pub insertions : (w grid : List ℕ) → grid_rows w grid ≡ 0 → insert_grid w grid ≡ one_by_one w (grid_trials grid)
  -- Nothing stops it but rows 5 to 8 and 13, and unless one does every trial goes in.
  pub stops : (w grid : List ℕ) → ((insert_grid w grid).answer.stop ≡ 0 → ⊥) → Stops (insert_grid w grid).answer.stop
  pub all_in : (w grid : List ℕ) → grid_rows w grid ≡ 0 → (insert_grid w grid).answer.stop ≡ 0 → (insert_grid w grid).answer.inserted ≡ length (grid_trials grid)
  -- A grid of which none goes in leaves every word.
  pub none_in : (w grid : List ℕ) → (insert_grid w grid).answer.inserted ≡ 0 → (insert_grid w grid).words ≡ w
