-- The first points of sorted ones are sorted.
use Rattle.std.proofs.Common.{◌≤◌, ◌%◌, arith, length, take}
use Rattle.hypervolume.specs.Sorted.{Sorted}
use Rattle.sweep_test.proofs.Lists.{sorted_part}
use Rattle.sweep_test.proofs.agrees.Goals.{After-fill}
use Rattle.sweep_test.proofs.agrees.Goals as goal

part : (c : After-fill) → Sorted (take (c.args.set % 13) c.fill.new.points) × (length (take (c.args.set % 13) c.fill.new.points) ≤ 12)
part c = sorted_part (c.args.set % 13) c.fill.new.points (omega arith) c.fill.ensures

pub sweep_agrees-requires : goal.sweep_agrees-requires
sweep_agrees-requires c =
    let (sorted, few) = part (goal.at.sweep_agrees-requires c).After-fill in
    (sorted, few, c.point-reference.ensures)

pub update_agrees-requires : goal.update_agrees-requires
update_agrees-requires c =
    let (sorted, few) = part (goal.at.update_agrees-requires c).After-fill in
    (sorted, few, c.point-reference.ensures, c.point.ensures)
