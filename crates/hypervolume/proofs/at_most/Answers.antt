-- `at_most` meets its contract.
use Rattle.hypervolume.proofs.Points.{at_most_bit}
use Rattle.hypervolume.proofs.at_most.Goals as goal

pub returns : goal.returns
returns c = at_most_bit _ _ c.ranges.x.fits c.ranges.y.fits
