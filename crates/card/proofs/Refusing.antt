-- What is known where a line of a card is refused, and where it is not.
use Prim.Native.Nat.{ℕ}
use mathlib.Core.Path.{◌≡◌, refl}
use Rattle.std.specs.Prelude.{Option, None, Result, Ok, Err}
use Rattle.std.specs.Option.{ok_or}
use Rattle.refusals.specs.declared.Refusal.{Refusal}
use Rattle.refusals.specs.Table.{number_of, outcome}
use Rattle.card.specs.declared.CardError.{CardError}
use Rattle.card.specs.Outcomes.{at_line}

-- The error that stands for none.
pub none_as : {A E : Type 0} (o : Option A) (e d : E) → ◌≡◌ {A = Result A E} (Err d) (ok_or o e) → o ≡ None → d ≡ e
none_as {A} {E} o e d value n = let f : ◌≡◌ {A = Result A E} (Err d) (Err e) = rw n at value in cc

-- A refusal of a line is one of the card, at that line.
pub refused_at : {T : Type 0} (r : Result T Refusal) (line : ℕ) (e : CardError) → ◌≡◌ {A = Result T CardError} (Err e) (at_line r line)
    → (number_of e.refusal ≡ outcome r) × (e.line ≡ line)
refused_at (Ok x) line e f = absurd (cc)
refused_at {T} (Err refusal) line e f =
    let same : e ≡ record { refusal = refusal; line = line } = cc in
    (rw same, rw same)

pub passed_at : {T : Type 0} (r : Result T Refusal) (line : ℕ) (x : T) → ◌≡◌ {A = Result T CardError} (Ok x) (at_line r line) → outcome r ≡ 0
passed_at (Ok y) line x f = refl
passed_at (Err refusal) line x f = absurd (cc)
