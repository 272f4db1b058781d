-- `collect` meets its contract. The invariant: of the first i points, the corners within the limit.
use borrow.Author.Rules.{rules}
use Rattle.corners.proofs.limits.CollectLaws.{gathering_none, gathering_skip, gathering_more, gathering_stop}
use Rattle.corners.proofs.limits.collect.Goals.{then-dominates, else-dominates}
use Rattle.corners.proofs.limits.collect.Goals as goal

pub loop-i-init : goal.loop-i-init
loop-i-init c = gathering_none c.requires

pub returns-then-limit-t : goal.returns-then-limit-t
returns-then-limit-t c =
    gathering_stop c.loop-i.invariant c.loop-i-test.true (search rules) c.point_at-t.ensures c.if-limit-t.true

pub loop-i-preserved : goal.loop-i-preserved
loop-i-preserved c =
    elim c.if-dominates.branch [
      | then-dominates w ↦ rw (w.corners-is, w.places-is, w.m-is) (gathering_more c.loop-i.invariant c.loop-i-test.true c.point_at-t.ensures c.dominates.ensures w.if-dominates.true w.join.ensures w.put_point.ensures)
      | else-dominates w ↦ rw (w.corners-is, w.places-is, w.m-is) (gathering_skip c.loop-i.invariant c.loop-i-test.true c.point_at-t.ensures c.dominates.ensures w.if-dominates.false)
    ]
