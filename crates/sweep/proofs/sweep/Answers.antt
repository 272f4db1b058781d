-- `sweep` meets its contract. The invariant: after i points, their total and their contributions.
use mathlib.Core.Path.{refl}
use Rattle.sweep.proofs.SweepLaws.{progress_none, progress_flags, progress_crossing, progress_own, progress_fits, progress_more, progress_end}
use borrow.Author.Rules.{rules}
use Rattle.sweep.proofs.sweep.Goals as goal

pub loop-i-init : goal.loop-i-init
loop-i-init c = progress_none c.requires (search rules)

pub look_back-column-requires : goal.look_back-column-requires
look_back-column-requires c =
    progress_flags c.loop-i.invariant c.loop-i-test.true c.point_at-p.ensures c.rank-at.ensures

pub strips-requires : goal.strips-requires
strips-requires c =
    progress_crossing c.loop-i.invariant c.loop-i-test.true c.point_at-p.ensures c.edge-height.ensures c.rank-at.ensures c.look_back-column.ensures

pub overflow_mul-own : goal.overflow_mul-own
overflow_mul-own c =
    record { fits = progress_own c.loop-i.invariant c.loop-i-test.true c.point_at-p.ensures c.edge-height.ensures c.strips.ensures }

pub overflow_add-volume : goal.overflow_add-volume
overflow_add-volume c =
    record { fits = progress_fits c.loop-i.invariant c.loop-i-test.true c.point_at-p.ensures c.edge-height.ensures c.strips.ensures }

pub loop-i-preserved : goal.loop-i-preserved
loop-i-preserved c =
    progress_more c.loop-i.invariant c.loop-i-test.true c.point_at-p.ensures c.edge-height.ensures c.strips.ensures refl
    c.strips.auto.out
    c.entry.ensures
    (c.enter-m.ensures _ c.look_back-column.ensures.state)
    c.enter-m.auto.line

pub returns : goal.returns
returns c =
    let end = progress_end _ (search rules) c.loop-i.invariant c.loop-i-test.false in
    record { total = end.0; contributions = end.1 }
