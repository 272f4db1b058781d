-- `fleet::all_audited` meets its contract: the loop's invariant is Testing.
use Prim.Native.Nat.{◌+◌, ◌≤◌}
use lib.ListN.{length, get_or}
use borrow.Author.Rules.{rules}
use Rattle.calls.specs.Calls.{audited}
use Rattle.fleet.proofs.Loops.{start_passes, start_finds, start_room, testing_none, testing_stop, testing_more, testing_end}
use Rattle.fleet.proofs.all_audited.Goals.{In-loop-start}
use Rattle.fleet.proofs.all_audited.Goals as goal

-- The archive begins inside the slice.
room : (c : In-loop-start) → get_or c.args.starts.now c.loop-start.start-index 0 + 8 ≤ length c.args.w.now
room c = start_room c.requires _ c.loop-start-test.true

pub loop-start-init : goal.loop-start-init
loop-start-init c = testing_none audited _ _

pub offset_bounds-w-start : goal.offset_bounds-w-start
offset_bounds-w-start c =
    let h : _ = room (goal.at.offset_bounds-w-start c).In-loop-start in search rules

pub slice_bounds-audited-count : goal.slice_bounds-audited-count
slice_bounds-audited-count c =
    let h : _ = room (goal.at.slice_bounds-audited-count c).In-loop-start in search rules

pub slice_bounds-audited-start : goal.slice_bounds-audited-start
slice_bounds-audited-start c =
    let h : _ = room (goal.at.slice_bounds-audited-start c).In-loop-start in search rules

pub audited-requires : goal.audited-requires
audited-requires c = start_passes c.requires _ c.loop-start-test.true

pub returns-then-not-audited : goal.returns-then-not-audited
returns-then-not-audited c =
    let inside = c.loop-start-test.true in
    testing_stop c.loop-start.invariant inside
    (start_finds c.requires _ inside audited c.audited.ensures c.if-not-audited.true)

pub loop-start-preserved : goal.loop-start-preserved
loop-start-preserved c =
    let inside = c.loop-start-test.true in
    testing_more c.loop-start.invariant inside
    (start_finds c.requires _ inside audited c.audited.ensures c.if-not-audited.false)

pub returns : goal.returns
returns c = testing_end c.loop-start.invariant c.loop-start-test.false
