-- `ascends` meets its contract. The invariant: the numbers passed are equal, so those left decide.
use Rattle.words.proofs.check.AscendsLaws.{level_less, level_more, level_same, level_end}
use Rattle.words.proofs.check.ascends.Goals as goal

pub returns-then-a-i : goal.returns-then-a-i
returns-then-a-i c = level_less c.loop-i.invariant c.loop-i-test.true c.if-a-i.true

pub returns-then-b-i : goal.returns-then-b-i
returns-then-b-i c = level_more c.loop-i.invariant c.loop-i-test.true c.if-b-i.true

pub loop-i-preserved : goal.loop-i-preserved
loop-i-preserved c = level_same c.loop-i.invariant c.loop-i-test.true c.if-a-i.false c.if-b-i.false

pub returns : goal.returns
returns c = level_end c.loop-i.invariant c.loop-i-test.false
