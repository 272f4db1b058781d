-- `sum_layers` meets its contract. The invariant: after i points, the area that they cover and the layers that are left.
use Prim.Native.Nat.{◌+◌, ◌^◌, ◌≤◌}
use mathlib.Core.Path.{◌∙◌}
use native.Mathlib.Omega.{arith}
use lib.Ieee.{of_bits}
use Rattle.volume.proofs.Levels.{layering_none, layering_index, layering_place, layering_growing, layering_fits, next_most, layering_more, layering_end, figure_is}
use borrow.Author.Rules.{rules}
use Rattle.volume.proofs.sum_layers.Goals.{After-grow-grown}
use Rattle.volume.proofs.sum_layers.Goals as goal

-- The area stays below what a double holds exactly.
fits : (c : After-grow-grown) → c.loop-z.area + c.grow-grown.result.gain ≤ 2 ^ 53
fits c =
    let pre = c.requires in
    layering_fits pre.0 _ _ _ c.loop-z.invariant c.loop-z-test.true c.point_at-p.ensures (pre.1 0) (pre.1 1) (c.grow-grown.ensures _ c.loop-z.invariant.lined)

pub loop-z-init : goal.loop-z-init
unfolding of_bits
loop-z-init c =
    let pre = c.requires in
    layering_none pre.0 _ _ _ _ _ pre.2 c.level_at-z.ensures

pub bounds-keys-i : goal.bounds-keys-i
bounds-keys-i c =
    layering_index c.requires.0 _ _ _ c.loop-z.invariant c.loop-z-test.true

pub point_at-p-requires : goal.point_at-p-requires
point_at-p-requires c =
    layering_place c.requires.0 _ _ _ c.loop-z.invariant c.loop-z-test.true

pub grow-grown-requires : goal.grow-grown-requires
grow-grown-requires c =
    let pre = c.requires in
    layering_growing pre.0 _ _ _ c.loop-z.invariant c.loop-z-test.true c.point_at-p.ensures (pre.1 0) (pre.1 1)

pub overflow_add-area : goal.overflow_add-area
overflow_add-area c =
    omega (arith, fits (goal.at.overflow_add-area c).After-grow-grown)

pub add_level-sum-requires : goal.add_level-sum-requires
add_level-sum-requires c =
    let pre = c.requires in
    (fits (goal.at.add_level-sum-requires c).After-grow-grown, omega (arith, pre.1 2, next_most pre.0 _ _ _ c.loop-z.invariant c.loop-z-test.true c.point_at-p.ensures (pre.1 0) (pre.1 1) (c.grow-grown.ensures _ c.loop-z.invariant.lined) c.level_at-next.ensures))

pub loop-z-smaller : goal.loop-z-smaller
loop-z-smaller c =
    omega (arith, layering_index c.requires.0 _ _ _ c.loop-z.invariant c.loop-z-test.true)

pub loop-z-preserved : goal.loop-z-preserved
loop-z-preserved c =
    let pre = c.requires in
    layering_more pre.0 _ _ _ c.loop-z.invariant c.loop-z-test.true c.point_at-p.ensures (pre.1 0) (pre.1 1) (c.grow-grown.ensures _ c.loop-z.invariant.lined) c.level_at-next.ensures c.grow-grown.auto.line c.add_level-sum.ensures

pub returns : goal.returns
returns c =
    layering_end c.requires.0 _ _ _ c.loop-z.invariant c.loop-z-test.false ∙ figure_is _ _ (search rules)
