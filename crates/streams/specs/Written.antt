-- What a program that reads a card and writes a text of it leaves.
use Rattle.std.specs.Prelude.{ℕ, List, take, Option, Result, Ok, Err, IfSome}
use Rattle.std.specs.Io.KnownBytes.{Appends, Keeps}
use Rattle.streams.specs.declared.Failure.{Failure}
use Rattle.streams.specs.declared.Failure.TheVariants.{Reading, Writing}

-- Where it is known what is written, a part of the text from its front on came behind what was there.
abbrev pub AppendsPart : Option (List ℕ) → Option (List ℕ) → List ℕ → Type 0
AppendsPart old new text = (n : ℕ) × Appends old new (take n text)

-- The text of the card, where its bytes are known, comes behind what was there: all of it; nothing, where the card could not be
-- read; a part of it from its front on, where it could not be written.
abbrev pub Shows : Option (List ℕ) → (List ℕ → List ℕ) → {T : Type 0} → Result T Failure → Option (List ℕ) → Option (List ℕ) → Type 0
Shows card text (Ok done) old new = IfSome card (λ bytes. Appends old new (text bytes))
Shows card text (Err (Reading error)) old new = Keeps old new
Shows card text (Err (Writing error)) old new = IfSome card (λ bytes. AppendsPart old new (text bytes))
