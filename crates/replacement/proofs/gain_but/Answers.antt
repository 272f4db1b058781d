-- `gain_but` meets its contract: the gain of the count over the other records.
use Rattle.replacement.specs.Others.{gain_but}
use Rattle.replacement.proofs.gain_but.Goals as goal

pub returns : goal.returns
unfolding gain_but
returns c = c.count_joints-counted.ensures.whole
