-- `sixfold::put_six` meets its contract: the loop's invariant is Reporting.
use native.Mathlib.Omega.{arith}
use Rattle.sixfold.proofs.Reports.{reporting_none, short_again, reporting_more, reporting_end}
use Rattle.sixfold.proofs.put_six.Goals as goal

pub loop-order-init : goal.loop-order-init
loop-order-init c = reporting_none _ _ _ c.requires

pub overflow_add-at : goal.overflow_add-at
overflow_add-at c =
    let inv = c.loop-order.invariant in
    omega (arith, short_again inv (omega arith) c.put_report-at.ensures.1)

pub loop-order-preserved : goal.loop-order-preserved
loop-order-preserved c =
    let inv = c.loop-order.invariant in
    reporting_more inv (omega arith) (omega arith) (omega arith) c.put_report-at.ensures

pub returns : goal.returns
returns c = reporting_end c.loop-order.invariant (omega arith)
