-- What is proved of cards besides the contracts. The proofs are in proofs/Theorems.
use Rattle.std.specs.Prelude.{ℕ, ◌*◌, ◌≤◌, ◌≡◌, List, length, take, drop}
use Rattle.words.specs.Layout.{extent, read, behind}
use Rattle.words.specs.Format.{archive_rows}
use Rattle.calls.specs.Counted.{IsCounted}
use Rattle.card.specs.Card.{lines, Loading, load}
use Rattle.card.specs.Check.{packed, check}
use Rattle.card.specs.Verdict.{judge, carried_out}

-- The rows that can turn a card down, and at which lines: no other row, so not 13, and no line above 514, since an
-- archive holds at most 512 trials.
pub data TurnedDown : ℕ → ℕ → Type 0 where
  form : {line : ℕ} → 1 ≤ line → line ≤ 514 → TurnedDown 15 line
  shape : TurnedDown 4 1
  slice : TurnedDown 1 1
  number : {line : ℕ} → 2 ≤ line → line ≤ 514 → TurnedDown 5 line
  coordinate : {line : ℕ} → 2 ≤ line → line ≤ 514 → TurnedDown 6 line
  held : {line : ℕ} → 2 ≤ line → line ≤ 514 → TurnedDown 7 line
  full : {line : ℕ} → 2 ≤ line → line ≤ 514 → TurnedDown 8 line

-- What an accepted card leaves: words that pass rows 1 to 3, of an archive whose audit says yes and that holds as many
-- trials as were answered; the words behind it as before.
pub record Accepted (before : List ℕ) (after : Loading) : Type 0 where
  pub passes : archive_rows after.words 0 ≡ 0
  pub counted : IsCounted (read after.words)
  pub count : length (read after.words).rows ≡ after.answer.count
  pub behind : behind after.words ≡ drop (extent (read after.words).shape.capacity) before

-- Loading any card into any slice.
pub record Loads (w card : List ℕ) : Type 0 where
  pub in_turn : load w card ≡ carried_out w (judge (length w) (lines card))
  pub refused : ((load w card).answer.refusal ≡ 0 → ⊥) → TurnedDown (load w card).answer.refusal (load w card).answer.line
  pub accepted : (load w card).answer.refusal ≡ 0 → Accepted w (load w card)

-- The check "judges as a reader with a slice that is long enough": the two differ at most by row 1.
pub record Checks (w card : List ℕ) : Type 0 where
  pub long_enough : extent 512 ≤ length w → check card ≡ packed (load w card).answer
  pub unless_row_1 : ((load w card).answer.refusal ≡ 1 → ⊥) → check card ≡ packed (load w card).answer

-- All of it.
pub record Cards : Type 0 where
  pub loads : (w card : List ℕ) → Loads w card
  pub checks : (w card : List ℕ) → Checks w card
  -- of a card only the first 514 lines matter: a program may cut it behind them
  pub enough_read : (w card : List ℕ) (k : ℕ) → 33 * 514 ≤ k → load w (take k card) ≡ load w card
