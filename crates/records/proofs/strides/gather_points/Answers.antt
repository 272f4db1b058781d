-- `gather_points` meets its contract: after i turns the first i points are copied.
use mathlib.Core.Path.{◌≡◌}
use borrow.Author.Rules.{rules}
use lib.ListN.{length}
use Rattle.records.proofs.strides.LoadedPoints.{copied_none, copied_more, copied_end}
use Rattle.records.proofs.strides.gather_points.Goals as goal

pub loop-i-init : goal.loop-i-init
loop-i-init c = copied_none _ _ _ _ _ c.requires.0 c.requires.1 c.requires.2

pub loop-i-preserved : goal.loop-i-preserved
loop-i-preserved c =
    let three : length c.record_at-record.result.point.at ≡ 3 = search rules in
    copied_more c.loop-i.invariant _ _ c.record_at-record.ensures (three) c.loop-i-test.true c.put_point.ensures

pub returns : goal.returns
returns c = copied_end c.loop-i.invariant c.loop-i-test.false
