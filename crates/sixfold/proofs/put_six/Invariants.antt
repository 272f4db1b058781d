-- `sixfold::put_six` meets its contract: the loop's invariant is Reporting.
use Rattle.sixfold.proofs.Reports.{Reporting}
use Rattle.sixfold.proofs.put_six.Given as goal

abbrev pub invariant-loop-order : goal.invariant-loop-order
invariant-loop-order l = Reporting l.w l.initial.second l.initial.out l.at l.order l.second l.out
