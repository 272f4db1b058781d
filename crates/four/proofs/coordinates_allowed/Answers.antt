-- `coordinates_allowed` meets its contract. The invariant: the coordinates passed are allowed.
use Rattle.four.proofs.Rows.{judged_none, judged_found, judged_more, judged_end}
use Rattle.four.proofs.coordinates_allowed.Goals as goal

pub loop-n-init : goal.loop-n-init
loop-n-init c = judged_none _

pub returns-then-n-gt32768 : goal.returns-then-n-gt32768
returns-then-n-gt32768 c = judged_found c.loop-n.invariant c.loop-n-test.true c.if-n-gt32768.true

pub loop-n-preserved : goal.loop-n-preserved
loop-n-preserved c = judged_more c.loop-n.invariant c.loop-n-test.true c.if-n-gt32768.false

pub returns : goal.returns
returns c = judged_end c.loop-n.invariant c.loop-n-test.false
