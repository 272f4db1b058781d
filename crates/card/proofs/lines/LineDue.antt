-- The line due, as `line_due` finds it.
use Prim.Native.Nat.{ℕ, zero, suc, ◌+◌, ◌-◌, ◌*◌, ◌/◌, ◌≤◌, ◌<◌}
use mathlib.Core.Path.{◌≡◌, refl}
use mathlib.Core.List.{List}
use mathlib.Core.Option.{Option, none, some}
use native.Mathlib.Omega.{arith}
use lib.Dec.{ltb}
use lib.ListN.{length}
use borrow.Author.Tests.{lt-ltb, le-ltb}
use Rattle.slices.specs.Choices.{pick}
use Rattle.text.specs.Lines.{Numbers, line_from}
use Rattle.card.specs.Card.{line_count, due}

due_at : (card : List ℕ) (line : ℕ) → (line ≡ 0 → ⊥)
    → due card line ≡ pick (ltb (line - 1) (line_count card)) (some (line_from (33 * (line - 1)) card)) none
unfolding due
due_at card zero some-line = absurd (some-line refl)
due_at card (suc i) some-line =
    let one : suc i - 1 ≡ i = omega arith in
    rw one

pub due_before : (card : List ℕ) {line : ℕ} → line ≡ 0 → none ≡ due card line
unfolding due
due_before card e = rw e

module _ (card : List ℕ) {line i : ℕ} (first : 1 ≤ line) (is : i ≡ line - 1) where
  pub due_next : {l : Option Numbers} → i < (length card + 32) / 33 → l ≡ line_from (33 * i) card → some l ≡ due card line
  unfolding pick line_count
  due_next inside e = rw (e, is, due_at card line (omega arith), lt-ltb (line - 1) ((length card + 32) / 33) (omega arith))

  pub due_behind : (length card + 32) / 33 ≤ i → none ≡ due card line
  unfolding pick line_count
  due_behind behind = rw (due_at card line (omega arith), le-ltb (line - 1) ((length card + 32) / 33) (omega arith))
