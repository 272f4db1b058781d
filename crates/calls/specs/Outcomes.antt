-- How the answers for C say what a call came to: the refusal's number and zeros, or 0 and the values.
use Rattle.std.specs.Prelude.{ℕ, ℤ, pos, Bool, true, false, Option, None, Some, Result, Ok, Err}
use Rattle.refusals.specs.declared.Refusal.{Refusal}
use Rattle.refusals.specs.Table.{number_of}
use Rattle.calls.specs.declared.Answer.{Answer}
use Rattle.calls.specs.declared.Least.{Least}
use Rattle.calls.specs.declared.LeastAnswer.{LeastAnswer}
use Rattle.calls.specs.declared.Filled.{Filled}
use Rattle.calls.specs.declared.GridAnswer.{GridAnswer}
use Rattle.calls.specs.declared.Change.{Change}

-- One number.
abbrev pub answer_of : Result ℕ Refusal → Answer
answer_of (Ok value) = record { refusal = 0; value = value }
answer_of (Err refusal) = record { refusal = number_of refusal; value = 0 }

-- Yes or no: 1 for yes.
abbrev pub verdict_of : Result Bool Refusal → Answer
verdict_of (Ok true) = record { refusal = 0; value = 1 }
verdict_of (Ok false) = record { refusal = 0; value = 0 }
verdict_of (Err refusal) = record { refusal = number_of refusal; value = 0 }

-- The least contributor.
abbrev pub least_answer_of : Result Least Refusal → LeastAnswer
least_answer_of (Ok least) = record { refusal = 0; number = least.number; contribution = least.contribution }
least_answer_of (Err refusal) = record { refusal = number_of refusal; number = 0; contribution = 0 }

-- The number of a refusal, or 0 where there is none.
abbrev pub number_or : Option Refusal → ℕ
number_or None = 0
number_or (Some refusal) = number_of refusal

-- A grid of trials.
abbrev pub grid_answer_of : Result Filled Refusal → GridAnswer
grid_answer_of (Ok filled) = record { refusal = 0; inserted = filled.inserted; stop = number_or filled.stop }
grid_answer_of (Err refusal) = record { refusal = number_of refusal; inserted = 0; stop = 0 }

-- The effect of a replacement: a difference.
abbrev pub effect_answer_of : Result ℤ Refusal → Change
effect_answer_of (Ok difference) = record { refusal = 0; difference = difference }
effect_answer_of (Err refusal) = record { refusal = number_of refusal; difference = pos 0 }
