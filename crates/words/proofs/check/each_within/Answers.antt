-- `each_within` meets its contract. The loop's invariant: the numbers left decide, once those before are judged.
use mathlib.Core.Path.{ap, ◌∙◌}
use Rattle.slices.specs.Choices.{both}
use Rattle.words.proofs.check.EachLaws.{judged_none, judged_more, judged_end}
use Rattle.words.proofs.check.each_within.Goals as goal

pub loop-n-init : goal.loop-n-init
loop-n-init c = judged_none _ _

pub loop-n-preserved : goal.loop-n-preserved
loop-n-preserved c = judged_more _ _ _ _ _ c.loop-n.invariant c.loop-n-test.true (c.both-all.ensures ∙ ap (both c.loop-n.all) c.within.ensures)

pub returns : goal.returns
returns c = judged_end _ _ _ _ c.loop-n.invariant c.loop-n-test.false
