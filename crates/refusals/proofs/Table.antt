-- No refusal has the number 0, which says that a call is done.
use Prim.Native.Nat.{ℕ}
use mathlib.Core.Path.{◌≡◌, sym, ◌∙◌}
use native.Mathlib.Omega.{arith}
use Rattle.refusals.specs.declared.Refusal.{Refusal}
use Rattle.refusals.specs.declared.Refusal.TheVariants.{SliceShort, BadHeader, BadRecords, BadStart, BadNumber, BadCoordinate, NumberHeld, Full, NotHeld, SameNumber, AboveCount, LogShort, Miscount, NoneHeld, CardForm, OutputShort, BadLength, BadRule, BadDouble, TooManyPoints, BadOrder, BadRuns}
use Rattle.refusals.specs.Table.{number_of}

pub number_positive : (r : Refusal) → number_of r ≡ 0 → ⊥
number_positive SliceShort e = omega arith
number_positive BadHeader e = omega arith
number_positive BadRecords e = omega arith
number_positive BadStart e = omega arith
number_positive BadNumber e = omega arith
number_positive BadCoordinate e = omega arith
number_positive NumberHeld e = omega arith
number_positive Full e = omega arith
number_positive NotHeld e = omega arith
number_positive SameNumber e = omega arith
number_positive AboveCount e = omega arith
number_positive LogShort e = omega arith
number_positive Miscount e = omega arith
number_positive NoneHeld e = omega arith
number_positive CardForm e = omega arith
number_positive OutputShort e = omega arith
number_positive BadLength e = omega arith
number_positive BadRule e = omega arith
number_positive BadDouble e = omega arith
number_positive TooManyPoints e = omega arith
number_positive BadOrder e = omega arith
number_positive BadRuns e = omega arith

-- The number of a refusal is another one than 0, by whatever it equals.
pub refused : (r : Refusal) (n : ℕ) → number_of r ≡ n → n ≡ 0 → ⊥
refused r n e z = number_positive r (e ∙ z)
