-- `by_keys` meets its contract: the keys put in order, then counted.
use mathlib.Core.Path.{sym, ◌∙◌}
use native.Mathlib.Omega.{arith}
use lib.Seq.{length-take-le}
use Rattle.front.proofs.Levels.{empty_level, emptied, empty_over, extra_table}
use Rattle.front.proofs.Sieving.{sieved_orderable, ordered_placed}
use Rattle.front.proofs.Counting.{front_alone}
use Rattle.front.proofs.by_keys.Goals as goal

pub order-requires : goal.order-requires
order-requires c = (sieved_orderable _ c.requires.0 _ c.requires.3, c.requires.4 ∙ sym (length-take-le _ _ (omega (arith, c.requires.1, c.requires.2))))

pub count-requires : goal.count-requires
count-requires c =
    (c.requires.0, ordered_placed _ c.requires.0 _ _ c.requires.3 c.order.ensures, empty_level 8, empty_level 64, empty_over _ _ c.order.new.keys _ c.requires.1 c.requires.2 c.order.auto.keys (emptied _ _ (c.fill.ensures.after (λ y e. e))), extra_table)

pub returns : goal.returns
returns c = c.count.ensures ∙ front_alone _ c.requires.0 _ c.requires.3 _ c.order.ensures
