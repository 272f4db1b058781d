-- What a card's further lines are judged by, without an archive: their trial numbers, and the rows that turn one down.
use Rattle.std.specs.Prelude.{ℕ, zero, suc, ◌+◌, Bool, false, not, List, eqb}
use Rattle.std.proofs.Math.Option.{Option, none, some}
use Rattle.slices.specs.Choices.{either}
use Rattle.text.specs.Lines.{Numbers}
use Rattle.words.specs.Format.{guard, number_allowed, coordinates_allowed}
use Rattle.card.specs.Card.{trial_on, due}

-- The trial number on what is due. 0 stands for none.
unfoldable pub number_due : Option (Option Numbers) → ℕ
number_due none = 0
number_due (some none) = 0
number_due (some (some v)) = v.first

-- Whether one of the first n further lines has the number m. They are the lines from 2 on.
unfoldable pub taken : List ℕ → ℕ → ℕ → Bool
taken card zero m = false
taken card (suc n) m = either (eqb (number_due (due card (n + 2))) m) (taken card n m)

-- The row that turns a further line down, behind so many trials; `held` says whether one of them has its number.
unfoldable pub further_rows : (capacity count : ℕ) → Bool → Option Numbers → ℕ
further_rows capacity count held none = 15
further_rows capacity count held (some v) =
    guard (not (number_allowed v.first)) 5
    (guard (not (coordinates_allowed (trial_on v))) 6 (guard held 7 (guard (eqb count capacity) 8 0)))
