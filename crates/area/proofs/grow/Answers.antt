-- `grow` meets its contract: the point is covered, or takes the place of those that it covers.
use Rattle.area.proofs.Growing.{left_out, grew}
use Rattle.area.proofs.grow.Goals as goal

pub returns-then-top-y : goal.returns-then-top-y
returns-then-top-y c passed l =
    left_out c.requires c.rank-at.ensures c.top-top.ensures c.if-top-y.true l

pub returns : goal.returns
returns c passed l =
    grew c.requires c.rank-at.ensures c.top-top.ensures c.if-top-y.false c.cross-gained.ensures c.entry.ensures c.replace-held.ensures.0 c.replace-held.ensures.1 l
