-- The card check (document 01, "Calls").
use Rattle.std.specs.Prelude.{ℕ, ◌+◌, ◌*◌, List, replicate}
use Rattle.words.specs.Layout.{extent}
use Rattle.card.specs.declared.Loaded.{Loaded}
use Rattle.card.specs.Card.{load}

-- "0 for an accepted card, else refusal number × 65,536 + card line."
unfoldable pub packed : Loaded → ℕ
packed a = a.refusal * 65536 + a.line

-- "No archive slice takes part, so row 1 is not given": the card is judged as by a reader whose slice is long enough
-- for every capacity, 1 to 512.
unfoldable pub check : List ℕ → ℕ
check card = packed (load (replicate (extent 512) 0) card).answer
