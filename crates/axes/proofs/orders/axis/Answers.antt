-- `axis` meets its contract: the entry of the table is the place of the letter.
use mathlib.Core.Path.{sym, subst}
use Prim.Native.Nat.{◌<◌}
use Rattle.axes.proofs.orders.Entries.{entry_is, place_low}
use Rattle.axes.proofs.orders.axis.Goals as goal

pub returns : goal.returns
returns c =
    (entry_is c.args.order c.args.place, subst (λ n. n < 3) (sym (entry_is c.args.order c.args.place)) (place_low _))
