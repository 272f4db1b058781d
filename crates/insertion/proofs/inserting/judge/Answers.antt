-- `judge` meets its contract: row 13 by the total, or by a contribution, or neither.
use Prim.Native.Nat.{ℕ, ◌≤◌}
use mathlib.Core.Path.{◌≡◌, refl, sym, ap, ◌∙◌}
use native.Mathlib.Omega.{arith}
use lib.ListN.{length}
use lib.Seq.{length-take-le}
use Rattle.hypervolume.specs.Cells.{box}
use Rattle.words.specs.Archive.{point}
use Rattle.words.specs.Layout.{read}
use Rattle.words.specs.Places.{as_trial}
use Rattle.words.proofs.Passed.{reference_small}
use Rattle.words.proofs.Places.{point_of_trial}
use Rattle.calls.specs.Calls.{box_of}
use Rattle.calls.proofs.Known.{known}
use Rattle.ask.proofs.CountedAmounts.{all_gain, counted_few}
use Rattle.insertion.proofs.inserting.Lowering.{counted_shares, judged_over, judged_below, judged_fit, gain_fits}
use borrow.Author.Rules.{rules}
use Rattle.insertion.proofs.inserting.judge.Goals.{Start, After-count_joints_in-counted, After-box_of}
use Rattle.insertion.proofs.inserting.judge.Goals as goal

own_point : (c : Start) (number : ℕ) → c.args.p.at ≡ point (as_trial number c.args.p.at)
own_point c number = sym (point_of_trial number c.args.p.at (search rules))

-- The places counted at are few, and both lists are as long.
module _ (c : After-count_joints_in-counted) where
  places_long : 512 ≤ length c.count_joints_in-counted.new.places
  places_long = omega (arith, c.requires.2.places_long, c.count_joints_in-counted.auto)

  counts_long : 512 ≤ length c.count_joints_in-counted.new.counts
  counts_long = omega (arith, c.requires.2.counts_long, c.count_joints_in-counted.auto)

  in_places : c.count_joints_in-counted.result.moved ≤ length c.count_joints_in-counted.new.places
  in_places = omega (arith, places_long, counted_few c.requires.0 c.count_joints_in-counted.ensures)

  in_counts : c.count_joints_in-counted.result.moved ≤ length c.count_joints_in-counted.new.counts
  in_counts = omega (arith, counts_long, counted_few c.requires.0 c.count_joints_in-counted.ensures)

boxed : (c : After-box_of) → c.box_of.result ≡ box_of (read c.args.w.now)
unfolding read
boxed c = c.box_of.ensures ∙ ap box c.reference_of.ensures

pub bounds-w-0 : goal.bounds-w-0
bounds-w-0 c = omega (arith, known c.args.w.now c.requires.0)

pub box_of-requires : goal.box_of-requires
box_of-requires c = reference_small _ _ (known c.args.w.now c.requires.0).shaped c.reference_of.ensures

pub bounds-w-5 : goal.bounds-w-5
bounds-w-5 c = omega (arith, known c.args.w.now c.requires.0)

pub overflow_add-w : goal.overflow_add-w
overflow_add-w c =
    omega (arith, gain_fits c.args.w.now _ _ c.requires.0 (all_gain (as_trial 0 c.args.p.at) (own_point (goal.at.overflow_add-w c).Start 0) c.count_joints_in-counted.ensures))

pub returns-then-box_of-w : goal.returns-then-box_of-w
returns-then-box_of-w c number =
    let at = goal.at.returns-then-box_of-w c in
    let counted = at.After-count_joints_in-counted in
    judged_over _ c.requires.0 (own_point at.Start number) c.count_joints_in-counted.ensures (places_long counted) (counts_long counted) _ (boxed at.After-box_of) c.if-box_of-w.true

pub slice_bounds-enough-end : goal.slice_bounds-enough-end
slice_bounds-enough-end c = in_places (goal.at.slice_bounds-enough-end c).After-count_joints_in-counted

pub slice_bounds-enough-end-2 : goal.slice_bounds-enough-end-2
slice_bounds-enough-end-2 c = sym (length-take-le _ _ (in_places (goal.at.slice_bounds-enough-end-2 c).After-count_joints_in-counted))

pub slice_bounds-enough-end-3 : goal.slice_bounds-enough-end-3
slice_bounds-enough-end-3 c = in_counts (goal.at.slice_bounds-enough-end-3 c).After-count_joints_in-counted

pub slice_bounds-enough-end-4 : goal.slice_bounds-enough-end-4
slice_bounds-enough-end-4 c = sym (length-take-le _ _ (in_counts (goal.at.slice_bounds-enough-end-4 c).After-count_joints_in-counted))

pub enough-requires : goal.enough-requires
enough-requires c =
    let at = goal.at.enough-requires c in
    let counted = at.After-count_joints_in-counted in
    (omega (arith, known c.args.w.now c.requires.0), (counted_shares (as_trial 0 c.args.p.at) c.requires.0 (own_point at.Start 0) c.count_joints_in-counted.ensures (places_long counted) (counts_long counted)).placed)

pub returns-then-not-enough : goal.returns-then-not-enough
returns-then-not-enough c number =
    let at = goal.at.returns-then-not-enough c in
    let counted = at.After-count_joints_in-counted in
    judged_below _ c.requires.0 (own_point at.Start number) c.count_joints_in-counted.ensures (places_long counted) (counts_long counted) _ (boxed at.After-box_of) _ c.if-box_of-w.false c.enough.ensures c.if-not-enough.true

pub returns : goal.returns
returns c number =
    let at = goal.at.returns c in
    let counted = at.After-count_joints_in-counted in
    judged_fit _ c.requires.0 (own_point at.Start number) c.count_joints_in-counted.ensures (places_long counted) (counts_long counted) _ (boxed at.After-box_of) _ c.if-box_of-w.false c.enough.ensures c.if-not-enough.false _ refl refl
