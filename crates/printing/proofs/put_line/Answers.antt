-- `printing::put_line` meets its contract, column by column.
use native.Mathlib.Omega.{arith}
use lib.ListN.{length-set}
use Rattle.printing.proofs.Texts.{put_line}
use Rattle.printing.proofs.put_line.Goals as goal

pub shape_of-out : goal.shape_of-out
shape_of-out c = simp length-set (omega arith)

pub returns : goal.returns
returns c =
    put_line c.args.wide c.args.out.now c.args.at _ c.requires.1 (omega arith) c.put_number.ensures c.put_number-2.ensures c.put_number-3.ensures c.put_number-4.ensures c.put_last.ensures
