-- What load leaves: one column of the records.
use Prim.Native.Nat.{ℕ, ◌+◌, ◌<◌}
use mathlib.Core.Path.{◌≡◌, ap, ◌∙◌}
use mathlib.Core.List.{List}
use native.Mathlib.Nat.{le_refl}
use native.Mathlib.Omega.{arith}
use lib.ListN.{drop}
use lib.Seq.{take_all}
use Rattle.slices.specs.Put.{put}
use Rattle.words.specs.Layout.{read_rows}
use Rattle.words.proofs.Reading.{length_read_rows}
use Rattle.records.specs.Columns.{fifths, column}
use Rattle.records.proofs.Columns.{column_front}

pub column_loaded : (k n : ℕ) (w to to₁ : List ℕ) → k < 5 → to₁ ≡ put to 0 (fifths n (drop (8 + k) w)) → to₁ ≡ put to 0 (column k (read_rows n (drop 8 w)))
column_loaded k n w to to₁ l e =
    e
    ∙ ap (put to 0)
    (column_front k n n w l (le_refl n) ∙ ap (column k) (take_all n (read_rows n (drop 8 w)) (omega (arith, length_read_rows n (drop 8 w)))))
