-- A part of a slice written.
use Rattle.std.specs.Prelude.{ℕ, ◌+◌, List, ◌++◌, length, take, drop}

-- The list with these words from place `at` on, and every other word as before.
unfoldable pub put : List ℕ → ℕ → List ℕ → List ℕ
put l at new = take at l ++ (new ++ drop (at + length new) l)
