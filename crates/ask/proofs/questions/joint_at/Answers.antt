-- `joint_at` meets its contract: the counts with the first trial, read at the place of the second among the others.
use mathlib.Core.Path.{◌≡◌, sym, subst}
use Prim.Native.Nat.{◌≤◌}
use native.Mathlib.Omega.{arith}
use lib.ListN.{length, take}
use lib.Seq.{length-take-le}
use borrow.Author.Rules.{rules}
use Rattle.slices.specs.Amounts.{Placed}
use Rattle.hypervolume.specs.Sorted.{Small}
use Rattle.words.specs.Archive.{point}
use Rattle.words.specs.Layout.{read}
use Rattle.words.specs.Places.{row_at}
use Rattle.records.specs.Columns.{leave_out}
use Rattle.words.proofs.Places.{held_small, point_at}
use Rattle.ask.proofs.CountedAmounts.{counted_few, counted_placed}
use Rattle.ask.proofs.questions.Joints.{joint_counted}
use Rattle.ask.proofs.questions.joint_at.Goals.{After-record_at, After-count_joints-counted}
use Rattle.ask.proofs.questions.joint_at.Goals as goal

read_point : (c : After-record_at) → c.record_at.result.point.at ≡ point (row_at c.args.w.now c.args.i).trial
read_point c = point_at c.args.w.now c.args.i c.record_at.result (search rules) c.record_at.ensures

few : (c : After-count_joints-counted) → c.count_joints-counted.result.moved ≤ 512
few c = counted_few c.requires.0 c.count_joints-counted.ensures

placed : (c : After-count_joints-counted) → Placed (length (leave_out c.args.i (read c.args.w.now).rows)) (take c.count_joints-counted.result.moved c.count_joints-counted.new.places) (take c.count_joints-counted.result.moved c.count_joints-counted.new.counts)
placed c = counted_placed c.requires.0 c.count_joints-counted.ensures (search rules) (search rules)

pub count_joints-counted-requires : goal.count_joints-counted-requires
count_joints-counted-requires c =
    (c.requires.0, omega (arith, c.requires.1), search rules, search rules, subst (λ q. Small q) (sym (read_point (goal.at.count_joints-counted-requires c).After-record_at)) (held_small c.args.w.now _ c.requires.0 c.requires.1))

pub slice_bounds-places-end : goal.slice_bounds-places-end
slice_bounds-places-end c = omega (arith, few (goal.at.slice_bounds-places-end c).After-count_joints-counted, c.count_joints-counted.auto)

pub slice_bounds-amount_at-end : goal.slice_bounds-amount_at-end
slice_bounds-amount_at-end c = sym (length-take-le _ _ (omega (arith, few (goal.at.slice_bounds-amount_at-end c).After-count_joints-counted, c.count_joints-counted.auto)))

pub slice_bounds-counts-end : goal.slice_bounds-counts-end
slice_bounds-counts-end c = omega (arith, few (goal.at.slice_bounds-counts-end c).After-count_joints-counted, c.count_joints-counted.auto)

pub slice_bounds-amount_at-end-2 : goal.slice_bounds-amount_at-end-2
slice_bounds-amount_at-end-2 c = sym (length-take-le _ _ (omega (arith, few (goal.at.slice_bounds-amount_at-end-2 c).After-count_joints-counted, c.count_joints-counted.auto)))

pub returns : goal.returns
returns c =
    let at = goal.at.returns c in
    joint_counted c.args.w.now _ _ c.requires.0 c.requires.1 c.requires.2 _ _ (read_point at.After-record_at) c.count_joints-counted.ensures c.requires.3 c.place_among.ensures
    (c.amount_at.ensures _ (placed at.After-count_joints-counted))
