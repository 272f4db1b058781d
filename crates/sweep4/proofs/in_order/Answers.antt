-- `in_order` meets its contract: the keys loaded and put in order, then the points in turn.
use mathlib.Core.Path.{sym, ◌∙◌}
use Rattle.order.proofs.Keys.{keyed_orderable}
use Rattle.sweep4.proofs.Reading.{points_few}
use Rattle.sweep4.proofs.Sweeping.{taking, sweeping_counted}
use Rattle.sweep4.proofs.in_order.Goals as goal

pub order-requires : goal.order-requires
order-requires c =
    let pre = c.requires in
    (keyed_orderable (points_few pre.0) c.load_keys.ensures, pre.2 ∙ sym (c.load_keys.auto.keys ∙ pre.1))

pub pass_all-requires : goal.pass_all-requires
pass_all-requires c =
    let pre = c.requires in
    (taking pre.0 c.load_keys.ensures c.order.ensures pre.3, pre.4, pre.5)

pub returns : goal.returns
returns c =
    let pre = c.requires in
    sweeping_counted c.args.reference.at c.args.rw (taking pre.0 c.load_keys.ensures c.order.ensures pre.3) c.pass_all.ensures
