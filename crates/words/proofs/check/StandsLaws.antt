-- Row 3 at a place, as the code takes it: the record and its order first, its number last.
use Prim.Native.Nat.{ℕ, ◌<◌}
use mathlib.Core.Path.{◌≡◌, refl, sym, ap, ◌∙◌}
use mathlib.Core.Bool.{Bool, true, false, not}
use mathlib.Core.List.{List}
use borrow.Author.Tests.{not-true, not-false}
use Rattle.std.specs.Prelude.{Option, is_some, unwrap_or, IfSome}
use Rattle.slices.specs.Choices.{both}
use Rattle.slices.proofs.Choices.{both_assoc}
use Rattle.words.specs.Archive.{Row, Shape}
use Rattle.words.specs.Format.{row_allowed}
use Rattle.words.specs.Layout.{read_shape}
use Rattle.words.specs.Places.{row_at, follows, repeated, stands, Found}
use Rattle.words.proofs.Places.{found_some}

-- The first of two tests decides, or leaves it to the second.
pub first_failed : (b q s : Bool) → both b q ≡ s → not b ≡ true → false ≡ s
unfolding both
first_failed b q s e n = rw (not-true b n) at e

pub first_passed : (b q s : Bool) → both b q ≡ s → not b ≡ false → q ≡ s
unfolding both
first_passed b q s e n = rw (not-false b n) at e

pub stands_test : (w : List ℕ) (i : ℕ) (s : Shape) (r : Row) (a f b : Bool) → s ≡ read_shape w → r ≡ row_at w i
    → a ≡ row_allowed s r → f ≡ follows w i → b ≡ both a f
    → both b (not (repeated w i)) ≡ stands w i
unfolding stands
stands_test w i s r a f b shape row allowed order test =
    rw (test, allowed, order, shape, row)
    (both_assoc (row_allowed (read_shape w) (row_at w i)) (follows w i) (not (repeated w i)))

pub stands_unmet : (b h s : Bool) → both b (not h) ≡ s → not b ≡ false → h ≡ false → true ≡ s
stands_unmet b h s e n clear = ap not (sym clear) ∙ first_passed b (not h) s e n

pub stands_searched : (w : List ℕ) (i : ℕ) (o : Option ℕ) (r : Row) (b t s : Bool) → both b (not (repeated w i)) ≡ s
    → not b ≡ false → r ≡ row_at w i → Found w i r.trial.number (unwrap_or o i) → IfSome o (λ place. place < i) → is_some o ≡ not t → t ≡ s
stands_searched w i o r b t s e n row f l none =
    let searched : repeated w i ≡ is_some o = rw row at f.holds ∙ sym (found_some i o l) in
    turned t ∙ ap not (sym (searched ∙ none)) ∙ first_passed _ _ s e n
  where
    turned : (t : Bool) → t ≡ not (not t)
    turned true = refl
    turned false = refl
