-- `card::verdict::further_row` meets its contract, row by row.
use borrow.Author.Tests.{eq-eqb, ne_eqb}
use Rattle.words.specs.Format.{guard}
use Rattle.card.specs.Card.{trial_on}
use Rattle.card.specs.Further.{further_rows}
use Rattle.card.proofs.verdict.FurtherLines.{positive}
use Rattle.card.proofs.verdict.further_row.Goals as goal

pub returns-then-not-number_allowed : goal.returns-then-not-number_allowed
unfolding guard further_rows
returns-then-not-number_allowed c = rw (← c.if-not-number_allowed.ensures)

pub returns-then-not-coordinates_allowed : goal.returns-then-not-coordinates_allowed
unfolding guard further_rows trial_on
returns-then-not-coordinates_allowed c = rw (← c.if-not-number_allowed.ensures, ← c.if-not-coordinates_allowed.ensures)

pub held-known-requires : goal.held-known-requires
held-known-requires c = (c.requires.0, positive _ c.if-not-number_allowed.ensures, c.requires.1)

pub returns-then-known : goal.returns-then-known
unfolding guard further_rows trial_on
returns-then-known c = rw (← c.if-not-number_allowed.ensures, ← c.if-not-coordinates_allowed.ensures, ← c.if-known.ensures)

pub returns-then-count-capacity : goal.returns-then-count-capacity
unfolding guard further_rows trial_on
returns-then-count-capacity c =
    rw (← c.if-not-number_allowed.ensures, ← c.if-not-coordinates_allowed.ensures, ← c.if-known.ensures, eq-eqb _ _ c.if-count-capacity.true)

pub returns : goal.returns
unfolding guard further_rows trial_on
returns c =
    rw (← c.if-not-number_allowed.ensures, ← c.if-not-coordinates_allowed.ensures, ← c.if-known.ensures, ne_eqb _ _ c.if-count-capacity.false)
