-- `pass_all` meets its contract. The invariant: after i points, their total and their contributions.
use Prim.Native.Nat.{◌<◌}
use mathlib.Core.Path.{◌≡◌, refl}
use native.Mathlib.Omega.{arith}
use lib.ListN.{length}
use borrow.Author.Rules.{rules}
use Rattle.sweep4.proofs.Sweeping.{sweeping_none, sweeping_few, sweeping_place, sweeping_recounting, sweeping_scratch, sweeping_fits, sweeping_more}
use Rattle.sweep4.proofs.pass_all.Goals.{In-loop-i}
use Rattle.sweep4.proofs.pass_all.Goals as goal

-- The reference has three axes, and there is room for the point.
three : (c : In-loop-i) → length c.args.reference.at ≡ 3
three c = search rules

few : (c : In-loop-i) → c.loop-i.i < 512
few c = sweeping_few c.requires.0 (three c) c.loop-i.invariant c.loop-i-test.true

pub loop-i-init : goal.loop-i-init
loop-i-init c =
    let pre = c.requires in
    sweeping_none _ _ _ _ _ _ _ _ _ _ _ refl pre.1 pre.2 refl refl refl refl

pub read_point-p-requires : goal.read_point-p-requires
read_point-p-requires c =
    let k : In-loop-i = (goal.at.read_point-p-requires c).In-loop-i in
    let pre = c.requires in
    (pre.0.readable, sweeping_place pre.0 (three k) c.loop-i.invariant c.loop-i-test.true)

pub pass-gained-requires : goal.pass-gained-requires
pass-gained-requires c =
    let k : In-loop-i = (goal.at.pass-gained-requires c).In-loop-i in
    let inv = c.loop-i.invariant in
    let pre = c.requires in
    (sweeping_recounting pre.0 (three k) inv c.loop-i-test.true c.read_point-p.ensures c.height_of-height.ensures, sweeping_scratch pre.0 (three k) inv c.loop-i-test.true, few k, omega (arith, few k, inv.points_long), omega (arith, few k, inv.own_long), omega (arith, few k, inv.whose_long))

pub overflow_add-total : goal.overflow_add-total
overflow_add-total c =
    let k : In-loop-i = (goal.at.overflow_add-total c).In-loop-i in
    record { fits = sweeping_fits c.requires.0 (three k) c.loop-i.invariant c.loop-i-test.true c.read_point-p.ensures c.height_of-height.ensures c.pass-gained.ensures }

pub loop-i-preserved : goal.loop-i-preserved
loop-i-preserved c =
    let k : In-loop-i = (goal.at.loop-i-preserved c).In-loop-i in
    sweeping_more c.requires.0 (three k) c.loop-i.invariant c.loop-i-test.true c.read_point-p.ensures c.height_of-height.ensures c.pass-gained.ensures
    c.pass-gained.auto.points
    c.pass-gained.auto.own
    c.pass-gained.auto.held
    c.pass-gained.auto.corners
    c.pass-gained.auto.places
    c.pass-gained.auto.line
    c.pass-gained.auto.counts
