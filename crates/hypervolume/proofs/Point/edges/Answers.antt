-- `Point::edges` meets its contract. The invariant: the product so far times the edge product on the axes left is
-- the edge product.
use Rattle.hypervolume.proofs.Points.{multiplied_more, multiplied_fits, multiplied_end}
use Rattle.hypervolume.proofs.Point.edges.Goals as goal

pub overflow_mul-product : goal.overflow_mul-product
overflow_mul-product c =
    let l = c.loop-axis in
    record {
      fits = multiplied_fits l.invariant c.loop-axis-test.true c.edge-product.ensures (c.requires l.axis);
    }

pub loop-axis-preserved : goal.loop-axis-preserved
loop-axis-preserved c =
    let l = c.loop-axis in
    multiplied_more l.invariant c.loop-axis-test.true c.edge-product.ensures (c.requires l.axis)

pub returns : goal.returns
returns c = multiplied_end c.loop-axis.invariant c.loop-axis-test.false
