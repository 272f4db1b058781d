-- `read` meets its contract. The invariant: the first i points are read, judged and have their keys.
use Prim.Native.Nat.{◌<◌}
use mathlib.Core.Path.{◌≡◌, refl, sym}
use mathlib.Core.Bool.{true}
use native.Mathlib.Omega.{arith}
use Rattle.hypervolume.specs.Sorted.{Small}
use Rattle.words.specs.Format.{within, each}
use Rattle.volume.proofs.Reading.{reading_room, reading_refused, reading_small, reading_judged, reading_end}
use Rattle.volume.proofs.read.Goals.{In-Some}
use Rattle.volume.proofs.read.Goals as goal

-- The point read is allowed, and there is room for it.
judged : (c : In-Some) → each (within 0 1048576) c.in-Some.p.at ≡ true
judged c = rw c.in-Some.ensures.0 c.in-Some.ensures.1

small : (c : In-Some) → Small c.in-Some.p.at
small c = reading_small c.requires.0 c.loop-i.invariant c.loop-i-test.true c.in-Some.ensures.0 (judged c)

room : (c : In-Some) → c.loop-i.i < 512
room c = reading_room c.requires.0 c.loop-i.invariant c.loop-i-test.true

pub returns-in_default : goal.returns-in_default
returns-in_default c = (refl, sym (reading_refused c.requires.0 c.loop-i.invariant c.loop-i-test.true refl c.in_default.ensures))

pub overflow_mul-keys : goal.overflow_mul-keys
overflow_mul-keys c = omega (arith, small (goal.at.overflow_mul-keys c).In-Some 2)

pub overflow_add-keys : goal.overflow_add-keys
overflow_add-keys c =
    let k : In-Some = (goal.at.overflow_add-keys c).In-Some in omega (arith, small k 2, room k)

pub returns : goal.returns
returns c =
    (sym (reading_judged c.requires.0 c.loop-i.invariant c.loop-i-test.false), reading_end c.requires.0 c.loop-i.invariant c.loop-i-test.false)
