-- The record at a place, among the records read.
use Prim.Native.Nat.{ℕ, ◌*◌, ◌<◌}
use mathlib.Core.Path.{◌≡◌, ap, ◌∙◌}
use mathlib.Core.List.{List, []}
use lib.ListN.{get_or, drop}
use lib.Seq.{drop-drop}
use Rattle.words.specs.Archive.{Row}
use Rattle.words.specs.Layout.{read_row}
use Rattle.words.specs.Places.{row_at, rows_before}
use Rattle.words.proofs.Reading.{read_rows_at}

-- A record for places where there is none.
abbrev pub blank : Row
blank = read_row []

pub row_there : (w : List ℕ) (n i : ℕ) → i < n → get_or (rows_before w n) i blank ≡ row_at w i
unfolding row_at
row_there w n i l = read_rows_at n i (drop 8 w) blank l ∙ ap read_row (drop-drop (5 * i) 8 w)
