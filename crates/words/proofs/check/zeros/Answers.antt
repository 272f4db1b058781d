-- `zeros` meets its contract. The loop's invariant: what is gathered and the words left decide.
use Rattle.words.proofs.check.ZerosLaws.{blended_none, blended_more, blended_end}
use Rattle.words.proofs.check.zeros.Goals as goal

pub loop-word-init : goal.loop-word-init
loop-word-init c = blended_none _

pub loop-word-preserved : goal.loop-word-preserved
loop-word-preserved c = blended_more _ _ _ c.loop-word.invariant c.loop-word-test.true

pub returns : goal.returns
returns c = blended_end _ _ _ c.loop-word.invariant c.loop-word-test.false
