-- `printing::put_refusal` meets its contract, column by column.
use native.Mathlib.Omega.{arith}
use lib.ListN.{length-set}
use Rattle.printing.proofs.Printouts.{put_refusal}
use Rattle.printing.proofs.put_refusal.Goals as goal

pub shape_of-out : goal.shape_of-out
shape_of-out c = simp length-set (omega arith)

pub returns : goal.returns
returns c = put_refusal c.args.out.now _ _ c.requires (omega arith) (rw (← c.number.ensures) c.put_number.ensures) c.put_number-2.ensures
