-- `raise_values` meets its contract: after k turns the values at the first k places are raised.
use mathlib.Core.Path.{refl}
use native.Mathlib.Omega.{arith}
use lib.ListN.{get_or}
use Rattle.slices.proofs.PlacedLoops.{placing_none, placing_here, placing_more, placing_end}
use Rattle.records.proofs.amounts.raise_values.Goals as goal

pub loop-k-init : goal.loop-k-init
loop-k-init c = placing_none refl c.requires.placed (λ v. omega arith)

pub overflow_add-values : goal.overflow_add-values
overflow_add-values c =
    omega (
      arith,
      placing_here c.loop-k.invariant c.loop-k-test.true,
      c.requires.each.0 (get_or c.args.places.now c.loop-k.k 0),
      c.requires.each.1 c.loop-k.k,
    )

pub loop-k-preserved : goal.loop-k-preserved
loop-k-preserved c = placing_more c.loop-k.invariant _ refl c.loop-k-test.true

pub returns : goal.returns
returns c = placing_end c.loop-k.invariant c.loop-k-test.false
