-- `text::put_number` meets its contract: each turn writes the byte in front (proofs/PutNumber, Writing).
use Rattle.text.proofs.PutNumber.{Writing}
use Rattle.text.proofs.put_number.Given as goal

abbrev pub invariant-loop-left : goal.invariant-loop-left
invariant-loop-left l = Writing l.at l.initial.out l.initial.left l.initial.rest l.out l.left l.rest
