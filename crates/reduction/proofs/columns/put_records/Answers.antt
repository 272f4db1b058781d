-- `put_records` meets its contract: i records are written.
use Rattle.reduction.proofs.columns.Records.{records_none, records_more, records_end}
use Rattle.reduction.proofs.columns.put_records.Goals as goal

pub loop-i-init : goal.loop-i-init
loop-i-init c = records_none _ _ _ _ _

pub loop-i-preserved : goal.loop-i-preserved
loop-i-preserved c = records_more _ _ c.loop-i.invariant c.loop-i-test.true c.requires.0 c.point_at.ensures c.put_record.ensures c.put_record.auto.w

pub returns : goal.returns
returns c = records_end c.loop-i.invariant c.loop-i-test.false
