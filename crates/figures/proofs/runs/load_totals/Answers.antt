-- `load_totals` meets its contract: the loop's invariant is Loading.
use borrow.Author.Rules.{rules}
use Rattle.fleet.proofs.Loops.{start_room}
use Rattle.figures.proofs.Loading.{loading_more, loading_end}
use Rattle.figures.proofs.runs.load_totals.Goals as goal

pub overflow_add-out : goal.overflow_add-out
overflow_add-out c =
    let room : _ = start_room c.requires.0 _ c.loop-i-test.true in
    search rules

pub offset_bounds-w-starts : goal.offset_bounds-w-starts
offset_bounds-w-starts c =
    let room : _ = start_room c.requires.0 _ c.loop-i-test.true in
    search rules

pub bounds-w-starts : goal.bounds-w-starts
bounds-w-starts c =
    let room : _ = start_room c.requires.0 _ c.loop-i-test.true in
    search rules

pub loop-i-preserved : goal.loop-i-preserved
loop-i-preserved c = loading_more c.loop-i.invariant c.requires.0 c.loop-i-test.true

pub returns : goal.returns
returns c = loading_end c.loop-i.invariant c.loop-i-test.false
