-- `lower` meets its contract: after k turns k of the eight places are done.
use mathlib.Core.Path.{refl}
use native.Mathlib.Omega.{arith}
use Rattle.front.proofs.Levels.{lowering_none, lowering_more, lowering_end}
use Rattle.front.proofs.lower.Goals as goal

pub loop-k-init : goal.loop-k-init
loop-k-init c = lowering_none _ _ _

pub loop-k-preserved : goal.loop-k-preserved
loop-k-preserved c =
    lowering_more _ _ c.requires.2 c.requires.4 c.loop-k.invariant c.loop-k-test.true refl
    (omega (arith, c.requires.0, c.requires.1, c.loop-k-test.true)) c.min.ensures

pub returns : goal.returns
returns c = lowering_end c.loop-k.invariant c.loop-k-test.false
