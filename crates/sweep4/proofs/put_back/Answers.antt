-- `put_back` meets its contract: the total and the first i numbers are at their places.
use Rattle.sweep4.proofs.Finishing.{putting_none, putting_more}
use Rattle.sweep4.proofs.put_back.Goals as goal

pub loop-i-init : goal.loop-i-init
loop-i-init c = putting_none _ c.requires

pub loop-i-preserved : goal.loop-i-preserved
loop-i-preserved c = putting_more c.loop-i.invariant c.loop-i-test.true
