-- `cross` meets its contract. The invariant: the columns before `from` are counted.
use Prim.Native.Nat.{◌+◌, ◌-◌, ◌*◌, ◌^◌, ◌<◌, min}
use mathlib.Core.Path.{◌≡◌, refl, ap, ◌∙◌}
use native.Mathlib.Omega.{arith}
use lib.ListN.{get_or}
use Rattle.line.specs.Line.{x_of}
use Rattle.area.proofs.Crossing.{walking_none, strip_fits, walking_end, next_on, next_most, next_clear, walking_stop, walking_more}
use Rattle.area.proofs.cross.Goals.{After-min-next, After-loop-k}
use Rattle.area.proofs.cross.Goals as goal

-- the strip up to the entry at k: where it ends, and that the area so far fits
reach : (c : After-min-next) → c.min-next.result ≡ min (x_of (get_or c.args.line.now c.loop-k.k 0)) c.args.rx
reach c = c.min-next.ensures ∙ ap (λ v. min v c.args.rx) c.x_of.ensures

fits : (c : After-min-next) → c.loop-k.gain + (c.min-next.result - c.loop-k.from) * (c.loop-k.column - c.args.y) < 2 ^ 64
fits c =
    let here = c.loop-k.invariant in
    let inside = c.loop-k-test.true in
    strip_fits here c.min-next.result (next_on here inside (reach c)) (next_most here inside (reach c)) (next_clear here inside (reach c))

-- the last strip
last_fits : (c : After-loop-k) → c.loop-k.gain + (c.args.rx - c.loop-k.from) * (c.loop-k.column - c.args.y) < 2 ^ 64
last_fits c =
    strip_fits c.loop-k.invariant c.args.rx c.loop-k.invariant.bound (omega arith) (λ a m n. absurd (let no' : ⊥ = omega (arith, c.loop-k-test.false) in no'))

pub loop-k-init : goal.loop-k-init
loop-k-init c = walking_none c.requires c.min-from.ensures

pub overflow_add-gain : goal.overflow_add-gain
overflow_add-gain c = omega (arith, fits (goal.at.overflow_add-gain c).After-min-next)

pub returns-then-y_of-y : goal.returns-then-y_of-y
returns-then-y_of-y c =
    walking_stop c.loop-k.invariant c.loop-k-test.true (reach (goal.at.returns-then-y_of-y c).After-min-next) refl
    (rw (← c.y_of.ensures) c.if-y_of-y.true)

pub loop-k-preserved : goal.loop-k-preserved
loop-k-preserved c =
    walking_more c.loop-k.invariant c.loop-k-test.true (reach (goal.at.loop-k-preserved c).After-min-next) refl
    (c.min-column.ensures ∙ ap (λ v. min v c.args.ry) c.y_of-in-loop-k.ensures)
    (rw (← c.y_of.ensures) c.if-y_of-y.false)

pub overflow_add-result : goal.overflow_add-result
overflow_add-result c = omega (arith, last_fits (goal.at.overflow_add-result c).After-loop-k)

pub returns : goal.returns
returns c = walking_end c.loop-k.invariant c.loop-k-test.false refl
