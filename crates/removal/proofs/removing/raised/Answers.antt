-- `raised` meets its contract: row 13 by the total, or by a contribution, or the joint counts by their places.
use Prim.Native.Nat.{◌-◌, ◌≤◌}
use mathlib.Core.Path.{◌≡◌, refl, sym, ap, subst, ◌∙◌}
use native.Mathlib.Nat.{le_of_lt}
use native.Mathlib.Omega.{arith}
use lib.ListN.{length, take}
use lib.Seq.{length-take-le}
use Rattle.hypervolume.specs.Cells.{box}
use Rattle.hypervolume.specs.Sorted.{Small}
use Rattle.slices.specs.Spread.{Sparse}
use Rattle.slices.specs.Amounts.{Placed}
use Rattle.slices.proofs.Placed.{sparse_placed}
use Rattle.words.specs.Archive.{point}
use Rattle.words.specs.Layout.{read, word}
use Rattle.words.specs.Places.{row_at}
use Rattle.words.proofs.Passed.{reference_small}
use Rattle.words.proofs.Places.{held_small, point_at}
use Rattle.calls.specs.Calls.{box_of, removal_loss}
use Rattle.calls.proofs.Known.{known}
use Rattle.ask.proofs.CountedAmounts.{counted_few}
use Rattle.removal.specs.Removing.{number_at, removal_shares}
use Rattle.removal.proofs.removing.Raising.{loss_counted, shares_counted, low_asked, limit_fits, raised_over, raised_above, raised_fit}
use borrow.Author.Rules.{rules}
use Rattle.removal.proofs.removing.raised.Goals.{After-record_at, After-count_joints-counted, After-box_of}
use Rattle.removal.proofs.removing.raised.Goals as goal

read_point : (c : After-record_at) → c.record_at.result.point.at ≡ point (row_at c.args.w.now c.args.k).trial
read_point c = point_at c.args.w.now c.args.k c.record_at.result (search rules) c.record_at.ensures

-- The amounts counted, and the lists that they stand in.
module _ (c : After-count_joints-counted) (here : c.record_at.result.point.at ≡ point (row_at c.args.w.now c.args.k).trial) where
  lost : c.count_joints-counted.result.gain ≡ removal_loss (read c.args.w.now) (number_at c.args.w.now c.args.k)
  lost = loss_counted c.requires.0 c.requires.1 here c.count_joints-counted.ensures

  each : Sparse (word c.args.w.now 0 - 1) (removal_shares c.args.w.now c.args.k) c.count_joints-counted.new.places c.count_joints-counted.new.counts c.count_joints-counted.result.moved
  each = shares_counted c.requires.0 c.requires.1 here c.count_joints-counted.ensures

module _ (c : After-count_joints-counted) where
  in_places : c.count_joints-counted.result.moved ≤ length c.count_joints-counted.new.places
  in_places = omega (arith, counted_few c.requires.0 c.count_joints-counted.ensures, c.count_joints-counted.auto, c.requires.2)

  in_counts : c.count_joints-counted.result.moved ≤ length c.count_joints-counted.new.counts
  in_counts = omega (arith, counted_few c.requires.0 c.count_joints-counted.ensures, c.count_joints-counted.auto, c.requires.3)

boxed : (c : After-box_of) → c.box_of.result ≡ box_of (read c.args.w.now)
unfolding read
boxed c = c.box_of.ensures ∙ ap box c.reference_of.ensures

pub count_joints-counted-requires : goal.count_joints-counted-requires
count_joints-counted-requires c =
    let here = read_point (goal.at.count_joints-counted-requires c).After-record_at in
    (c.requires.0, le_of_lt c.requires.1, c.requires.2, c.requires.3, subst (λ q. Small q) (sym here) (held_small c.args.w.now _ c.requires.0 c.requires.1))

pub bounds-w-5 : goal.bounds-w-5
bounds-w-5 c = omega (arith, known c.args.w.now c.requires.0)

pub returns-then-w-counted : goal.returns-then-w-counted
returns-then-w-counted c =
    let at = goal.at.returns-then-w-counted c in
    let counted = at.After-count_joints-counted in
    let here = read_point at.After-record_at in
    raised_over c.args.w.now _ c.requires.0 c.requires.1 (lost counted here) (each counted here) c.if-w-counted.true

pub slice_bounds-within-end : goal.slice_bounds-within-end
slice_bounds-within-end c = in_places (goal.at.slice_bounds-within-end c).After-count_joints-counted

pub slice_bounds-within-end-2 : goal.slice_bounds-within-end-2
slice_bounds-within-end-2 c = sym (length-take-le _ _ (in_places (goal.at.slice_bounds-within-end-2 c).After-count_joints-counted))

pub slice_bounds-within-end-3 : goal.slice_bounds-within-end-3
slice_bounds-within-end-3 c = in_counts (goal.at.slice_bounds-within-end-3 c).After-count_joints-counted

pub slice_bounds-within-end-4 : goal.slice_bounds-within-end-4
slice_bounds-within-end-4 c = sym (length-take-le _ _ (in_counts (goal.at.slice_bounds-within-end-4 c).After-count_joints-counted))

pub box_of-requires : goal.box_of-requires
box_of-requires c = reference_small _ _ (known c.args.w.now c.requires.0).shaped c.reference_of.ensures

pub within-requires : goal.within-requires
within-requires c =
    let at = goal.at.within-requires c in
    let counted = at.After-count_joints-counted in
    let shares = each counted (read_point at.After-record_at) in
    let placed : Placed (word c.args.w.now 0 - 1) (take c.count_joints-counted.result.moved c.count_joints-counted.new.places) (take c.count_joints-counted.result.moved c.count_joints-counted.new.counts) = sparse_placed shares (in_places counted) (in_counts counted) in
    record {
      n_in_bounds = ((known c.args.w.now c.requires.0).records_long, c.requires.1, placed, limit_fits c.args.w.now _ c.requires.0 (boxed at.After-box_of));
      each = low_asked c.args.w.now _ _ c.requires.0 (boxed at.After-box_of) placed (sym shares.is_spread);
    }

pub returns-then-not-within : goal.returns-then-not-within
returns-then-not-within c =
    let at = goal.at.returns-then-not-within c in
    let counted = at.After-count_joints-counted in
    let here = read_point at.After-record_at in
    raised_above c.args.w.now _ c.requires.0 c.requires.1 (lost counted here) (each counted here) _ c.if-w-counted.false (boxed at.After-box_of) c.within.ensures c.if-not-within.true

pub returns : goal.returns
returns c =
    let at = goal.at.returns c in
    let counted = at.After-count_joints-counted in
    let here = read_point at.After-record_at in
    raised_fit c.args.w.now _ c.requires.0 c.requires.1 (lost counted here) (each counted here) _ c.if-w-counted.false (boxed at.After-box_of) c.within.ensures c.if-not-within.false _ refl refl
