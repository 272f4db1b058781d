-- `Point::join` meets its contract. The invariant: the axes passed are those of the upper corner.
use borrow.Author.Rules.{rules}
use Rattle.hypervolume.proofs.Points.{joined_none, joined_end}
use Rattle.hypervolume.proofs.Point.join.Goals as goal

pub loop-axis-init : goal.loop-axis-init
loop-axis-init c = joined_none 3 _ _ (search rules) (search rules)

pub returns : goal.returns
returns c = joined_end c.loop-axis.invariant c.loop-axis-test.false
