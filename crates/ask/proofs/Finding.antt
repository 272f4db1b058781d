-- What the place that `find` answers, or none, tells of the trial of that number.
use Prim.Native.Nat.{ℕ, ◌<◌}
use mathlib.Core.Path.{◌≡◌, ◌∙◌}
use mathlib.Core.Bool.{true, false}
use mathlib.Core.List.{List}
use native.Mathlib.Nat.{le_refl}
use borrow.Author.Tests.{lt-ltb, le-ltb}
use Rattle.std.specs.Prelude.{Option, None, Some, Result, Err, unwrap_or, IfSome, ok_or}
use Rattle.refusals.specs.declared.Refusal.{Refusal}
use Rattle.words.specs.Archive.{trials}
use Rattle.words.specs.Layout.{read, word}
use Rattle.words.specs.Format.{held}
use Rattle.words.specs.Places.{row_at, Found}
use Rattle.words.proofs.Places.{find_held}

-- The trial that stands at a place.
pub record HeldAt (w : List ℕ) (number i : ℕ) : Type 0 where
  pub inside : i < word w 0
  pub known : held number (trials (read w).rows) ≡ true
  pub there : (row_at w i).trial.number ≡ number

module _ (w : List ℕ) (number : ℕ) where
  pub found_at : (o : Option ℕ) (i : ℕ) → Found w (word w 0) number (unwrap_or o (word w 0)) → IfSome o (λ place. place < word w 0) → o ≡ Some i → HeldAt w number i
  found_at o i f l e =
      let inside : i < word w 0 = rw e at l in
      let here : Found w (word w 0) number i = rw e at f in
      record {
        inside = inside;
        known = find_held w number i here ∙ lt-ltb i (word w 0) inside;
        there = here.there inside;
      }

  pub found_nowhere : (o : Option ℕ) → Found w (word w 0) number (unwrap_or o (word w 0)) → o ≡ None → held number (trials (read w).rows) ≡ false
  found_nowhere o f e = find_held w number (word w 0) (rw e at f) ∙ le-ltb (word w 0) (word w 0) (le_refl (word w 0))

-- The refusal that stands for none.
pub none_refused : (o : Option ℕ) (r d : Refusal) → ◌≡◌ {A = Result ℕ Refusal} (Err d) (ok_or o r) → o ≡ None → d ≡ r
none_refused o r d e n = let f : ◌≡◌ {A = Result ℕ Refusal} (Err d) (Err r) = rw n at e in cc
