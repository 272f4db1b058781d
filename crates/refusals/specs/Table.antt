-- The numbers of the table of refusals.
use Rattle.std.specs.Prelude.{ℕ, Result, Ok, Err}
use Rattle.refusals.specs.declared.Refusal.{Refusal}
use Rattle.refusals.specs.declared.Refusal.TheVariants.{SliceShort, BadHeader, BadRecords, BadStart, BadNumber, BadCoordinate, NumberHeld, Full, NotHeld, SameNumber, AboveCount, LogShort, Miscount, NoneHeld, CardForm, OutputShort, BadLength, BadRule, BadDouble, TooManyPoints, BadOrder, BadRuns}

-- The number of a row.
abbrev pub number_of : Refusal → ℕ
number_of SliceShort = 1
number_of BadHeader = 2
number_of BadRecords = 3
number_of BadStart = 4
number_of BadNumber = 5
number_of BadCoordinate = 6
number_of NumberHeld = 7
number_of Full = 8
number_of NotHeld = 9
number_of SameNumber = 10
number_of AboveCount = 11
number_of LogShort = 12
number_of Miscount = 13
number_of NoneHeld = 14
number_of CardForm = 15
number_of OutputShort = 16
number_of BadLength = 17
number_of BadRule = 18
number_of BadDouble = 19
number_of TooManyPoints = 20
number_of BadOrder = 22
number_of BadRuns = 23

-- An outcome as a number: 0 where there is no refusal.
abbrev pub outcome : {T : Type 0} → Result T Refusal → ℕ
outcome (Ok done) = 0
outcome (Err refusal) = number_of refusal
