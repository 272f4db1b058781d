-- `put_records` meets its contract: i records are written.
use native.Mathlib.Omega.{arith}
use Rattle.axes.proofs.Keys.{named_at}
use Rattle.axes.proofs.rearranging.Storing.{records_none, records_more, records_end}
use Rattle.axes.proofs.rearranging.put_records.Goals as goal

pub loop-i-init : goal.loop-i-init
loop-i-init c = records_none _ _ _ _

pub put_row-requires : goal.put_row-requires
put_row-requires c =
    (c.requires.0, c.requires.1, named_at c.requires.2 c.loop-i-test.true, omega (arith, c.loop-i-test.true, c.requires.2.many), omega (arith, c.loop-i.invariant.long, c.requires.3))

pub loop-i-preserved : goal.loop-i-preserved
loop-i-preserved c =
    records_more _ c.loop-i.invariant c.loop-i-test.true (omega (arith, c.requires.2.many, c.requires.3)) c.put_row.ensures c.put_row.auto.second

pub returns : goal.returns
returns c = records_end c.loop-i.invariant c.loop-i-test.false
