-- `read_point` meets its contract.
use Rattle.volume.specs.Volume.{corner}
use Rattle.volume.proofs.Reading.{points_at, read_as}
use Rattle.volume.proofs.read_point.Goals as goal

pub returns : goal.returns
unfolding corner
returns c = read_as 0 _ _ _ (points_at c.args.ds.now c.args.i _ c.requires) c.read_three.ensures
