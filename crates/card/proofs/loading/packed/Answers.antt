-- `card::loading::packed` meets its contract.
use Rattle.card.specs.Check.{packed}
use Rattle.card.proofs.loading.packed.Goals as goal

pub returns-in-Ok : goal.returns-in-Ok
unfolding packed
returns-in-Ok c = rw c.in-Ok.is

pub returns-in-Err : goal.returns-in-Err
unfolding packed
returns-in-Err c = rw (c.in-Err.is, c.number.ensures)
