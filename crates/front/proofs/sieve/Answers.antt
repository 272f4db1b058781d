-- `sieve` meets its contract: after i turns the keys of i points are there, but for those left out.
use Prim.Native.Nat.{ℕ, ◌+◌, ◌*◌, ◌≤◌, ◌<◌}
use mathlib.Core.Path.{◌≡◌, sym, ap, subst, ◌∙◌}
use native.Mathlib.Omega.{arith}
use lib.ListN.{get_or}
use Rattle.hypervolume.specs.Sorted.{Small}
use Rattle.front.specs.Keys.{x_at, y_at, standing}
use Rattle.front.proofs.Sieving.{sieving_none, first_fits, leave_at, keep_at}
use Rattle.front.proofs.sieve.Goals.{After-begin-first}
use Rattle.front.proofs.sieve.Goals as goal

-- The numbers of a point, as they were read.
x_is : (c : After-begin-first) → get_or c.point_at-p.result.at 0 0 ≡ x_at c.args.points.now c.loop-i.i
x_is c = ap (λ p. get_or p 0 0) c.point_at-p.ensures

y_is : (c : After-begin-first) → get_or c.point_at-p.result.at 1 0 ≡ y_at c.args.points.now c.loop-i.i
y_is c = ap (λ p. get_or p 1 0) c.point_at-p.ensures

stands : (c : After-begin-first) → c.standing-now.result ≡ standing c.args.points.now c.loop-i.i
stands c = c.standing-now.ensures ∙ ap (λ p. (get_or p 2 0 * 2097152 + get_or p 1 0) * 2097152 + get_or p 0 0) c.point_at-p.ensures

small : (c : After-begin-first) (axis : ℕ) → get_or c.point_at-p.result.at axis 0 ≤ 1048576
small c axis = subst Small (sym c.point_at-p.ensures) (c.requires.0.small c.loop-i.i) axis

fits : (c : After-begin-first) → c.begin-first.result < 512
fits c = first_fits c.loop-i.invariant c.requires.0 c.loop-i-test.true _ _ _ _ (x_is c) (y_is c) (stands c) c.begin-first.ensures

pub loop-i-init : goal.loop-i-init
loop-i-init c = sieving_none _ _ c.requires.1

pub loop-i-preserved-then-beats : goal.loop-i-preserved-then-beats
loop-i-preserved-then-beats c =
    let k : After-begin-first = (goal.at.loop-i-preserved-then-beats c).After-begin-first in
    leave_at c.loop-i.invariant c.requires.0 c.loop-i-test.true _ _ _ _ (x_is k) (y_is k) (stands k) c.begin-first.ensures (sym c.beats.ensures ∙ c.if-beats.true)

pub overflow_cast-keys : goal.overflow_cast-keys
overflow_cast-keys c = omega (arith, fits (goal.at.overflow_cast-keys c).After-begin-first)

pub overflow_add-keys : goal.overflow_add-keys
overflow_add-keys c =
    let k : After-begin-first = (goal.at.overflow_add-keys c).After-begin-first in omega (arith, small k 0, fits k)

pub loop-i-preserved : goal.loop-i-preserved
loop-i-preserved c =
    let k : After-begin-first = (goal.at.loop-i-preserved c).After-begin-first in
    rw c.better-best.ensures
    (keep_at c.loop-i.invariant c.requires.0 c.loop-i-test.true _ _ _ _ (x_is k) (y_is k) (stands k) c.begin-first.ensures)
