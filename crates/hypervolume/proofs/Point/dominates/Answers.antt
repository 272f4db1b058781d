-- `Point::dominates` meets its contract: a point dominates where it is within on all its axes.
use borrow.Author.Rules.{rules}
use Rattle.hypervolume.proofs.Points.{axes_all}
use Rattle.hypervolume.proofs.Point.dominates.Goals as goal

pub returns : goal.returns
returns c = axes_all _ _ (search rules) (search rules) c.axes_within.ensures
