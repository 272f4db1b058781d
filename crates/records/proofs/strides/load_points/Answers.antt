-- `load_points` meets its contract: the points of the records before the one left out, then of those behind it.
use mathlib.Core.Path.{refl}
use native.Mathlib.Omega.{arith}
use Rattle.calls.proofs.Known.{known}
use Rattle.records.proofs.strides.LoadedPoints.{loaded_but, loaded_all}
use Rattle.records.proofs.strides.load_points.Goals as goal

pub bounds-w-0 : goal.bounds-w-0
bounds-w-0 c =
    omega (arith, (known c.args.w.now c.requires.0).records_long)

pub gather_points-requires : goal.gather_points-requires
gather_points-requires c =
    let few = (known c.args.w.now c.requires.0).few in
    (c.requires.0, omega arith, omega (arith, few))

pub gather_points-requires-then-skip-n : goal.gather_points-requires-then-skip-n
gather_points-requires-then-skip-n c =
    let few = (known c.args.w.now c.requires.0).few in
    (c.requires.0, omega arith, omega (arith, few, c.gather_points.ensures.long))

pub returns-then-skip-n : goal.returns-then-skip-n
returns-then-skip-n c =
    loaded_but c.args.w.now _ _ _ _ _ c.requires.0 refl c.if-skip-n.true
    c.gather_points.ensures c.gather_points-then-skip-n.ensures

pub returns : goal.returns
returns c =
    loaded_all c.args.w.now _ _ _ _ c.requires.0 refl c.if-skip-n.false c.requires.1 c.gather_points.ensures
