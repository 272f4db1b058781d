-- What reading a card answers.
use Rattle.std.specs.Prelude.{ℕ, ◌≤◌, ◌≡◌, List, length, take, Option, Result, Ok, Err, IfSome}

-- The bytes read are within an input of this length.
abbrev pub Fits : {E : Type 0} → Result ℕ E → ℕ → Type 0
Fits (Ok n) long = n ≤ long
Fits (Err error) long = Unit {0}

-- Where the bytes of a card are known, those read stand at the input's front: all that it has room for. Of standard input
-- no bytes are known.
abbrev pub ReadsFront : {E : Type 0} → Option (List ℕ) → Result ℕ E → List ℕ → Type 0
ReadsFront known (Ok n) input = IfSome known (λ card. take (length input) card ≡ take n input)
ReadsFront known (Err error) input = Unit {0}
