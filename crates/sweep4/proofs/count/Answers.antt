-- `count` meets its contract: the points in turn, then their counts at their places.
use Prim.Native.Nat.{◌/◌, ◌≤◌}
use mathlib.Core.Path.{◌∙◌}
use native.Mathlib.Omega.{arith}
use lib.ListN.{length}
use Rattle.sweep4.proofs.Finishing.{count_placeable, count_put}
use Rattle.sweep4.proofs.count.Goals.{After-in_order-total}
use Rattle.sweep4.proofs.count.Goals as goal

-- The contributions and their places have room for every point.
own_room : (c : After-in_order-total) → length c.args.coords.now / 4 ≤ length c.in_order-total.new.own
own_room c = omega (arith, c.requires.0.few, c.in_order-total.auto.own)

whose_room : (c : After-in_order-total) → length c.args.coords.now / 4 ≤ length c.in_order-total.new.whose
whose_room c = omega (arith, c.requires.0.few, c.in_order-total.auto.whose)

pub put_back-requires : goal.put_back-requires
put_back-requires c =
    let k : After-in_order-total = (goal.at.put_back-requires c).After-in_order-total in
    count_placeable _ c.in_order-total.ensures (own_room k) (whose_room k) _ c.requires.2

pub returns : goal.returns
returns c =
    let k : After-in_order-total = (goal.at.returns c).After-in_order-total in
    c.put_back.ensures ∙ count_put _ c.in_order-total.ensures (own_room k) (whose_room k) _ c.requires.2
