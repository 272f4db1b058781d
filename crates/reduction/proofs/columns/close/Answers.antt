-- `close` meets its contract: an element is read before another is written over it.
use Rattle.reduction.proofs.columns.Closing.{closed_none, closed_next, closed_end}
use Rattle.reduction.proofs.columns.close.Goals as goal

pub loop-i-init : goal.loop-i-init
loop-i-init g c = closed_none c.args.l.now _ _ c.requires.0 c.requires.1

pub loop-i-preserved : goal.loop-i-preserved
loop-i-preserved g c = closed_next c.loop-i.invariant c.loop-i-test.true _ c.index-l-i.is

pub returns : goal.returns
returns g c = closed_end c.loop-i.invariant c.loop-i-test.false
