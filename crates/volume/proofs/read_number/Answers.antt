-- `read_number` meets its contract: what is no number was none from 0 on, and the least is asked for here.
use Rattle.words.proofs.Passed.{bounds_within}
use Rattle.volume.proofs.Reading.{none_within, under_within}
use Rattle.volume.proofs.read_number.Goals as goal

pub returns-in_err-n : goal.returns-in_err-n
returns-in_err-n c = rw (c.from_residual.ensures, ← c.in_err-n.ensures.read) (none_within c.args.low)

pub returns-then-n-low : goal.returns-then-n-low
returns-then-n-low c = rw (← c.in_ok-n.ensures.read) (under_within _ _ c.if-n-low.true)

pub returns : goal.returns
returns c = (c.in_ok-n.ensures.read, bounds_within _ _ _ c.if-n-low.false c.in_ok-n.ensures.small)
