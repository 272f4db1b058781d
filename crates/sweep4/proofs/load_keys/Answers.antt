-- `load_keys` meets its contract: the first i points have their keys.
use Prim.Native.Nat.{◌+◌, ◌*◌, ◌/◌, ◌<◌}
use native.Mathlib.Omega.{arith}
use lib.ListN.{length}
use Rattle.sweep4.proofs.Reading.{coordinate_small, keying_end}
use Rattle.sweep4.proofs.load_keys.Goals.{In-loop-i}
use Rattle.sweep4.proofs.load_keys.Goals as goal

-- Each place is a point's.
inside : (c : In-loop-i) → c.loop-i.i < length c.args.coords.now / 4
inside c = omega (arith, c.requires.1)

pub overflow_cast-keys : goal.overflow_cast-keys
overflow_cast-keys c = omega (arith, coordinate_small c.requires.0 (4 * c.loop-i.i + 3))

pub overflow_mul-keys-in-loop-i : goal.overflow_mul-keys-in-loop-i
overflow_mul-keys-in-loop-i c = omega (arith, coordinate_small c.requires.0 (4 * c.loop-i.i + 3))

pub overflow_add-keys-in-loop-i : goal.overflow_add-keys-in-loop-i
overflow_add-keys-in-loop-i c =
    omega (arith, inside (goal.at.overflow_add-keys-in-loop-i c).In-loop-i, c.requires.0.few, coordinate_small c.requires.0 (4 * c.loop-i.i + 3))

pub returns : goal.returns
returns c = keying_end c.loop-i.invariant c.requires.1 (omega arith)
