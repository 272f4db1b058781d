-- `record_at` meets its contract: each coordinate is at most the reference's, so it fits.
use Prim.Native.Nat.{ℕ, ◌≤◌, ◌<◌}
use mathlib.Core.Path.{◌≡◌, sym, subst}
use mathlib.Core.List.{List}
use native.Mathlib.Omega.{arith}
use lib.ListN.{get_or}
use Rattle.words.specs.Archive.{Row, point}
use Rattle.words.specs.Format.{archive_rows}
use Rattle.words.specs.Layout.{word}
use Rattle.words.specs.Places.{row_at}
use Rattle.words.proofs.Passed.{passed}
use Rattle.words.proofs.Places.{held_small}
use Rattle.words.proofs.rows.record_at.Goals as goal

small_axis : (w : List ℕ) (i : ℕ) (r : Row) → archive_rows w 0 ≡ 0 → i < word w 0 → r ≡ row_at w i → (axis : ℕ) → get_or (point r.trial) axis 0 ≤ 1048576
small_axis w i r p l e axis = subst (λ (s : Row). get_or (point s.trial) axis 0 ≤ 1048576) (sym e) (held_small w i p l axis)

pub row_at-row-requires : goal.row_at-row-requires
row_at-row-requires c = omega (arith, passed _ c.requires.0)

pub new-requires : goal.new-requires
new-requires c =
    let small = small_axis _ _ _ c.requires.0 c.requires.1 c.row_at-row.ensures in
    (omega (arith, small 0), omega (arith, small 1), omega (arith, small 2))
