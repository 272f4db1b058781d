-- `of_one_reference` meets its contract: the loop's invariant is Testing.
use native.Mathlib.Omega.{arith}
use borrow.Author.Rules.{rules}
use Rattle.fleet.proofs.Loops.{start_finds, start_room, start_long, testing_stop, testing_more, testing_end}
use Rattle.figures.specs.Figures.{same_reference}
use Rattle.figures.proofs.Loading.{comparing_none}
use Rattle.figures.proofs.runs.of_one_reference.Goals as goal

pub loop-i-init : goal.loop-i-init
loop-i-init c = comparing_none _ _

pub offset_bounds-w-starts : goal.offset_bounds-w-starts
offset_bounds-w-starts c =
    let room : _ = start_room c.requires _ c.loop-i-test.true in
    search rules

pub slice_bounds-same_reference-count : goal.slice_bounds-same_reference-count
slice_bounds-same_reference-count c =
    let room : _ = start_room c.requires _ c.loop-i-test.true in
    search rules

pub slice_bounds-same_reference-start : goal.slice_bounds-same_reference-start
slice_bounds-same_reference-start c =
    let room : _ = start_room c.requires _ c.loop-i-test.true in
    search rules

pub same_reference-requires : goal.same_reference-requires
same_reference-requires c =
    let begun = c.requires in
    let inside = c.loop-i-test.true in
    (omega (arith, start_room begun _ inside), start_long begun _ inside)

pub returns-then-not-same_reference : goal.returns-then-not-same_reference
returns-then-not-same_reference c =
    let inside = c.loop-i-test.true in
    testing_stop c.loop-i.invariant inside
    (start_finds c.requires _ inside (same_reference _) c.same_reference.ensures (c.if-not-same_reference.true))

pub loop-i-preserved : goal.loop-i-preserved
loop-i-preserved c =
    let inside = c.loop-i-test.true in
    testing_more c.loop-i.invariant inside
    (start_finds c.requires _ inside (same_reference _) c.same_reference.ensures (c.if-not-same_reference.false))

pub returns : goal.returns
returns c = testing_end c.loop-i.invariant c.loop-i-test.false
