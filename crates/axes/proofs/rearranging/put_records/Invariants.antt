-- `put_records` meets its contract: i records are written.
use Rattle.axes.proofs.rearranging.Storing.{RecordsPut}
use Rattle.axes.proofs.rearranging.put_records.Given as goal

abbrev pub invariant-loop-i : goal.invariant-loop-i
invariant-loop-i l = RecordsPut l.w l.order l.keys l.initial.second l.i l.second
