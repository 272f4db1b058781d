-- `printing::put_records` meets its contract. The loop's invariant: the lines of the first i records are written.
use Rattle.printing.proofs.Texts.{Listing}
use Rattle.printing.proofs.put_records.Given as goal

abbrev pub invariant-loop-i : goal.invariant-loop-i
invariant-loop-i l = Listing l.wide l.w l.initial.out l.n l.i l.out
