-- `narrow` meets its contract. The invariant: the place lies among the `size` entries from `low` on, or right behind them.
use Prim.Native.Nat.{◌+◌, ◌-◌, ◌*◌, ◌/◌, ◌≤◌}
use mathlib.Core.Path.{refl}
use native.Mathlib.Omega.{arith}
use Rattle.hypervolume.proofs.Tests.{holds_small}
use Rattle.line.specs.Line.{Between}
use Rattle.line.proofs.RankLaws.{between_more, between_fits}
use Rattle.line.proofs.narrow.Goals.{After-reaches-third}
use Rattle.line.proofs.narrow.Goals as goal

-- each of the three answers is 0 or 1
small : (c : After-reaches-third) → (c.reaches-first.result ≤ 1) × (c.reaches-second.result ≤ 1) × (c.reaches-third.result ≤ 1)
small c = (holds_small _ c.reaches-first.ensures, holds_small _ c.reaches-second.ensures, holds_small _ c.reaches-third.ensures)

-- what they leave of the search
left : (c : After-reaches-third) → Between c.args.line.now c.args.x (c.loop-size.low + (c.loop-size.size + 1) / 4 * (c.reaches-first.result + c.reaches-second.result + c.reaches-third.result)) (c.loop-size.size - 3 * ((c.loop-size.size + 1) / 4))
left c = between_more c.loop-size.invariant c.loop-size-test.true refl c.reaches-first.ensures c.reaches-second.ensures c.reaches-third.ensures

pub overflow_add-low-in-loop-size-3 : goal.overflow_add-low-in-loop-size-3
overflow_add-low-in-loop-size-3 c = record { fits = omega (arith, small (goal.at.overflow_add-low-in-loop-size-3 c).After-reaches-third) }

pub overflow_add-low-in-loop-size-4 : goal.overflow_add-low-in-loop-size-4
overflow_add-low-in-loop-size-4 c = record { fits = omega (arith, small (goal.at.overflow_add-low-in-loop-size-4 c).After-reaches-third) }

pub overflow_mul-low : goal.overflow_mul-low
overflow_mul-low c =
    record { fits = omega (arith, between_fits c.loop-size.invariant c.loop-size-test.true refl c.reaches-first.ensures c.reaches-second.ensures c.reaches-third.ensures) }

pub overflow_add-low-in-loop-size-5 : goal.overflow_add-low-in-loop-size-5
overflow_add-low-in-loop-size-5 c = record { fits = omega (arith, (left (goal.at.overflow_add-low-in-loop-size-5 c).After-reaches-third).within) }

pub loop-size-preserved : goal.loop-size-preserved
loop-size-preserved c = left (goal.at.loop-size-preserved c).After-reaches-third
