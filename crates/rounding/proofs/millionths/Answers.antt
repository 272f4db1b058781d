-- `millionths` meets its contract: after i turns the quotient has i digits more, and the rest behind the sixth rounds it.
use mathlib.Core.Path.{◌∙◌}
use Rattle.rounding.proofs.Digits.{dividing_more, dividing_end}
use Rattle.rounding.proofs.millionths.Goals as goal

pub loop-preserved : goal.loop-preserved
loop-preserved c =
    dividing_more c.loop.invariant c.loop-test.true c.requires.0 c.requires.1

pub returns : goal.returns
returns c = c.rounded.ensures ∙ dividing_end c.loop.invariant c.loop-test.false
