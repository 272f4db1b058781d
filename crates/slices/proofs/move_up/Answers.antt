-- `move_up` meets its contract: the last words are moved first, so none is lost.
use Rattle.slices.proofs.Moves.{raising_none, raising_more, raising_end}
use Rattle.slices.proofs.move_up.Goals as goal

pub loop-i-init : goal.loop-i-init
loop-i-init c = raising_none _ _ _ _ c.requires

pub loop-i-preserved : goal.loop-i-preserved
loop-i-preserved c = raising_more c.loop-i.invariant c.loop-i-test.true

pub returns : goal.returns
returns c = raising_end c.loop-i.invariant c.loop-i-test.false
