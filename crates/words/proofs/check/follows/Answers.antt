-- `follows` meets its contract: the first record, or one behind another.
use Prim.Native.Nat.{ℕ, zero, suc, ◌-◌}
use mathlib.Core.Path.{◌≡◌, refl, ◌∙◌}
use mathlib.Core.Bool.{Bool}
use mathlib.Core.List.{List}
use native.Mathlib.Omega.{arith}
use Rattle.words.specs.Archive.{Row, before}
use Rattle.words.specs.Places.{as_row, row_at, follows}
use Rattle.words.proofs.SoundRows.{before_keys}
use Rattle.words.proofs.check.follows.Goals as goal

-- A record that is not the first stands in order where the one before it stands before it.
follows_behind : (w : List ℕ) (i : ℕ) (t u : Row) (r : Bool) → (i ≡ 0 → ⊥) → t ≡ row_at w (i - 1) → u ≡ row_at w i
    → r ≡ before t.trial u.trial → r ≡ follows w i
unfolding follows
follows_behind w zero t u r n e f b = absurd (n refl)
follows_behind w (suc i) t u r n e f b =
    let back : suc i - 1 ≡ i = omega arith in
    b ∙ rw (e, f, back)

pub returns-then-i-eq0 : goal.returns-then-i-eq0
unfolding follows
returns-then-i-eq0 c = rw c.if-i-eq0.true

pub returns : goal.returns
returns c = follows_behind _ _ (as_row c.row_at.result) (as_row c.row_at-2.result) _ c.if-i-eq0.false c.row_at.ensures c.row_at-2.ensures (before_keys _ _ c.key.ensures c.key-2.ensures c.ascends.ensures)
