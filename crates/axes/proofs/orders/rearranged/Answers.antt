-- `rearranged` meets its contract: a coordinate for each letter.
use borrow.Author.Rules.{rules}
use Rattle.axes.proofs.orders.Entries.{coordinates_by}
use Rattle.axes.proofs.orders.rearranged.Goals as goal

pub returns : goal.returns
returns c =
    coordinates_by c.args.order c.args.p.at _ _ _ (search rules) c.axis.ensures.0 c.axis-2.ensures.0 c.axis-3.ensures.0
