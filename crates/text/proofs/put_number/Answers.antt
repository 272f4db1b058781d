-- `text::put_number` meets its contract: each turn writes the byte in front (proofs/PutNumber, Writing).
use mathlib.Core.Path.{◌∙◌}
use native.Mathlib.Omega.{arith}
use lib.ListN.{length-set}
use Rattle.text.proofs.PutNumber.{writing_none, writing_few, writing_more, writing_end}
use Rattle.text.proofs.put_number.Goals as goal

pub loop-left-init : goal.loop-left-init
loop-left-init c = writing_none _ _ _ _ (simp length-set (omega arith))

pub overflow_add-out-in-loop-left : goal.overflow_add-out-in-loop-left
overflow_add-out-in-loop-left c = omega (arith, writing_few c.loop-left.invariant)

pub loop-left-preserved : goal.loop-left-preserved
loop-left-preserved c = writing_more c.loop-left.invariant (omega arith) c.digit_or_space.ensures

pub shape_of-out : goal.shape_of-out
shape_of-out c = c.loop-left.invariant.filled.long ∙ simp length-set

pub returns : goal.returns
returns c =
    writing_end _ c.requires c.last_digit.ensures c.loop-left.invariant
    c.loop-left-test.false
