-- `move_down` meets its contract: a word is read before another is written over it.
use Rattle.slices.proofs.Moves.{lowering_none, lowering_more, lowering_end}
use Rattle.slices.proofs.move_down.Goals as goal

pub loop-i-init : goal.loop-i-init
loop-i-init c = lowering_none _ _ _ _ c.requires

pub loop-i-preserved : goal.loop-i-preserved
loop-i-preserved c = lowering_more c.loop-i.invariant c.loop-i-test.true

pub returns : goal.returns
returns c = lowering_end c.loop-i.invariant c.loop-i-test.false
