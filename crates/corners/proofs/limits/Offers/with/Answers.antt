-- `Offers::with` meets its contract. The invariant: the axes passed have the two least of the offers.
use Rattle.corners.proofs.limits.LimitsLaws.{offering_more}
use Rattle.corners.proofs.limits.Offers.with.Goals as goal

pub loop-axis-preserved : goal.loop-axis-preserved
loop-axis-preserved c =
    offering_more c.loop-axis.invariant c.loop-axis-test.true c.offer-n.ensures c.min.ensures c.max.ensures c.min-in-loop-axis.ensures
