-- An archive in columns, as a reduction works on it: the numbers, the points and the kept contributions of its records,
-- each in a slice of its own that may be longer. Used by the contracts of the inner functions; no exported contract
-- cites it.
use Rattle.std.specs.Prelude.{ℕ, suc, ◌-◌, ◌≤◌, true, ◌≡◌, List, ◌∷◌, ◌++◌, [], length, get_or, take, drop}
use Rattle.slices.specs.Put.{put}
use Rattle.slices.specs.Amounts.{Each}
use Rattle.hypervolume.specs.Cells.{box}
use Rattle.hypervolume.specs.Sorted.{Small, Sorted}
use Rattle.words.specs.Archive.{Row, Archive, trials, points}
use Rattle.words.specs.Layout.{read_row, word, read}
use Rattle.words.specs.Format.{shape_allowed, sound_rows, archive_rows}
use Rattle.calls.specs.Calls.{reference_of, least_row}
use Rattle.calls.specs.Counted.{IsCounted}
use Rattle.records.specs.Columns.{column}

-- The list without what stands at place k.
unfoldable pub closed : {A : Type 0} → ℕ → List A → List A
closed k l = take k l ++ drop (suc k) l

-- The least contributor, by a tie rule, of the records of which these are the numbers and the contributions stands at place k.
abbrev pub LeastAt : (rule : ℕ) → List ℕ → List ℕ → ℕ → Type 0
LeastAt rule numbers kept k =
    (rows : List Row) → column 0 rows ≡ numbers → column 4 rows ≡ kept → get_or rows k (read_row []) ≡ least_row rule rows

-- It is noted at this place of the log.
pub record LeastNoted (rule : ℕ) (numbers kept : List ℕ) (k : ℕ) (log : List ℕ) (at : ℕ) (after : List ℕ) : Type 0 where
  pub least : LeastAt rule numbers kept k
  pub noted : after ≡ put log at (get_or numbers k 0 ∷ get_or kept k 0 ∷ [])

-- These records stand in the first n places of the columns.
pub record RowsInColumns (rows : List Row) (n : ℕ) (numbers : List ℕ) (coordinates : List (List ℕ)) (kept : List ℕ) : Type 0 where
  pub many : length rows ≡ n
  pub numbered : take n numbers ≡ column 0 rows
  pub placed : take n coordinates ≡ points (trials rows)
  pub contributed : take n kept ≡ column 4 rows

-- The archive's records stand there, and its reference and its total are these.
pub record InColumns (a : Archive) (reference : List ℕ) (n total : ℕ) (numbers : List ℕ) (coordinates : List (List ℕ)) (kept : List ℕ) : Type 0 where
  pub referred : reference_of a ≡ reference
  pub totalled : a.sum ≡ total
  pub held : RowsInColumns a.rows n numbers coordinates kept

-- The first n places of the columns, with the gap at place k closed.
pub record GapClosed (n k : ℕ) (numbers : List ℕ) (coordinates : List (List ℕ)) (kept numbers' : List ℕ) (coordinates' : List (List ℕ)) (kept' : List ℕ) : Type 0 where
  pub numbered : take (n - 1) numbers' ≡ closed k (take n numbers)
  pub placed : take (n - 1) coordinates' ≡ closed k (take n coordinates)
  pub contributed : take (n - 1) kept' ≡ closed k (take n kept)

-- What a drop asks of the archive: rows 2 and 3 let it pass, and its total and contributions are counts.
pub record Droppable (a : Archive) : Type 0 where
  pub shaped : shape_allowed a.shape ≡ true
  pub held_within : length a.rows ≤ a.shape.capacity
  pub sound : sound_rows a.shape a.rows ≡ true
  pub counted : IsCounted a

-- Columns from which drops can be made: they are those of some archive.
pub record DropReady (reference : List ℕ) (n total : ℕ) (numbers : List ℕ) (coordinates : List (List ℕ)) (kept : List ℕ) : Type 0 where
  pub archive : Archive
  pub inside : InColumns archive reference n total numbers coordinates kept
  pub droppable : Droppable archive

-- What recounting asks of the first m points and contributions: those of a sound archive, and room for the numbers.
pub record Recounting (coordinates : List (List ℕ)) (kept : List ℕ) (m : ℕ) (u reference : List ℕ) : Type 0 where
  pub points_room : m ≤ length coordinates
  pub kept_room : m ≤ length kept
  pub sorted : Sorted (take m coordinates)
  pub small : Small u
  pub reference_small : Small reference
  pub boxed : box reference ≤ 1152921504606846976
  pub fits : Each (take m kept) 1152921504606846976

-- What writing m of n records back asks of the words and the columns.
pub record Storing (w : List ℕ) (n m : ℕ) (numbers : List ℕ) (coordinates : List (List ℕ)) (kept : List ℕ) : Type 0 where
  pub passes : archive_rows w 0 ≡ 0
  pub counted : n ≡ word w 0
  pub fewer : m ≤ n
  pub numbers_room : m ≤ length numbers
  pub points_room : m ≤ length coordinates
  pub kept_room : m ≤ length kept

-- These columns are those of an archive of the same shape, and this is its front.
pub record Stores (w : List ℕ) (a : Archive) (m total front : ℕ) (numbers : List ℕ) (coordinates : List (List ℕ)) (kept : List ℕ) : Type 0 where
  pub shaped : a.shape ≡ (read w).shape
  pub totalled : a.sum ≡ total
  pub front_is : a.front ≡ front
  pub held : RowsInColumns a.rows m numbers coordinates kept
