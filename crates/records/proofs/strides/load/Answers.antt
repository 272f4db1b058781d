-- `load` meets its contract: so many words are copied, and they are the column.
use Rattle.records.proofs.strides.Gathered.{gathered_none, gathered_more, gathered_end}
use Rattle.records.proofs.strides.Loading.{column_loaded}
use Rattle.records.proofs.strides.load.Goals as goal

pub loop-i-init : goal.loop-i-init
loop-i-init c = gathered_none _ _ _ _ c.requires.2

pub loop-i-preserved : goal.loop-i-preserved
loop-i-preserved c = gathered_more c.loop-i.invariant c.loop-i-test.true

pub returns : goal.returns
returns c = column_loaded _ _ _ _ _ c.requires.1 (gathered_end c.loop-i.invariant c.loop-i-test.false)
