-- What reading a further line into words comes to before the front is counted. For the contract of an inner function; no exported
-- contract cites it.
use Rattle.std.specs.Prelude.{ℕ, ◌≡◌, List}
use Rattle.std.proofs.Math.Option.{Option, none, some}
use Rattle.text.specs.Lines.{Numbers}
use Rattle.insertion.specs.Inserting.{Enters}
use Rattle.card.specs.Card.{trial_on}

-- Row 15, or the line's trial entered.
pub data EntersLine (w : List ℕ) : Option Numbers → ℕ → List ℕ → Type 0 where
  row_15 : {r : ℕ} {left : List ℕ} → r ≡ 15 → left ≡ w → EntersLine w none r left
  of_the_form : {v : Numbers} {r : ℕ} {left : List ℕ} → Enters w (trial_on v) r left → EntersLine w (some v) r left
