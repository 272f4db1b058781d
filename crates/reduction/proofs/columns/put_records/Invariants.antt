-- `put_records` meets its contract: i records are written.
use Rattle.reduction.proofs.columns.Records.{RecordsPut}
use Rattle.reduction.proofs.columns.put_records.Given as goal

abbrev pub invariant-loop-i : goal.invariant-loop-i
invariant-loop-i l = RecordsPut l.initial.w l.n l.numbers l.points l.kept l.i l.w
