-- What a loading and a check of a card come to, as C has it.
use Rattle.std.specs.Prelude.{ℕ, Result, Ok, Err}
use Rattle.refusals.specs.declared.Refusal.{Refusal}
use Rattle.refusals.specs.Table.{number_of}
use Rattle.card.specs.declared.CardError.{CardError}
use Rattle.card.specs.declared.Loaded.{Loaded}

-- The count of trials, or a refusal and its line.
abbrev pub loaded_of : Result ℕ CardError → Loaded
loaded_of (Ok count) = record { refusal = 0; line = 0; count = count }
loaded_of (Err error) = record { refusal = number_of error.refusal; line = error.line; count = 0 }

-- What a line comes to, in its card.
abbrev pub at_line : {T : Type 0} → Result T Refusal → ℕ → Result T CardError
at_line (Ok done) line = Ok done
at_line (Err refusal) line = Err (record { refusal = refusal; line = line })
