-- `count` meets its contract: after i turns i keys are entered.
use Prim.Native.Nat.{◌%◌}
use mathlib.Core.Path.{refl, ap, ◌∙◌}
use native.Mathlib.Omega.{arith}
use lib.ListN.{get_or}
use borrow.Author.Rules.{rules}
use Rattle.front.proofs.Levels.{level_bounded, counted, counting_none, counting_more, entered_one}
use Rattle.front.proofs.count.Goals as goal

pub loop-key-init : goal.loop-key-init
loop-key-init c = counting_none _ _ _ _ _ c.requires.2 c.requires.3 c.requires.4

pub enter-alone-requires : goal.enter-alone-requires
enter-alone-requires c =
    (c.loop-key.invariant.high_long, c.loop-key.invariant.middle_long, c.loop-key.invariant.low_long, search rules, level_bounded c.loop-key.invariant.in_high, level_bounded c.loop-key.invariant.in_middle, level_bounded c.loop-key.invariant.in_low, omega (arith, ap (λ p. get_or p 1 0) c.point_at.ensures, c.requires.0.small (get_or c.args.keys.now c.loop-key.key-index 0 % 512) 1), c.requires.5)

pub overflow_add-unbeaten : goal.overflow_add-unbeaten
overflow_add-unbeaten c =
    omega (arith, c.loop-key.invariant.few, c.loop-key.invariant.part, c.requires.1.few, entered_one c.enter-alone.ensures, c.from-unbeaten.ensures ∙ counted c.enter-alone.result)

pub loop-key-preserved : goal.loop-key-preserved
loop-key-preserved c =
    rw (c.from-unbeaten.ensures ∙ counted c.enter-alone.result)
    (counting_more _ _ c.requires.0 c.loop-key.invariant c.loop-key-test.true refl (ap (λ p. get_or p 1 0) c.point_at.ensures) c.enter-alone.ensures)
