-- C's answer is made of what the call came to.
use Rattle.hypervolume.specs.Cells.{holds}
use Rattle.figures.proofs.answer.FiguresAnswerFromResultFiguresRefusal.from.Goals as goal

pub returns-then-figures : goal.returns-then-figures
unfolding holds
returns-then-figures c = rw (c.in-Ok.is, c.if-figures.true)

pub returns-else-figures : goal.returns-else-figures
unfolding holds
returns-else-figures c = rw (c.in-Ok.is, c.if-figures.false)
