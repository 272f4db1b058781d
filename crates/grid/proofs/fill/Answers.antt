-- `fill` meets its contract. The loop's invariant: so many trials went in, and what is left of the grid comes to what the whole
-- does (Entered).
use mathlib.Core.Path.{refl}
use Rattle.refusals.proofs.Table.{number_positive}
use Rattle.ask.proofs.Arrays.{arrays_kept}
use Rattle.grid.proofs.Filling.{none_entered, entered_more, entered_stop, entered_all}
use Rattle.grid.proofs.fill.Goals as goal

pub loop-i-init : goal.loop-i-init
loop-i-init c = (none_entered _ _ c.requires, record { points_long = refl; corners_long = refl; places_long = refl; line_long = refl; counts_long = refl })

pub returns-in-Err : goal.returns-in-Err
returns-in-Err c = entered_stop c.loop-i.invariant.0 c.loop-i-test.true c.trial_at.ensures c.in-Err.ensures (number_positive _)

pub loop-i-preserved : goal.loop-i-preserved
loop-i-preserved c = (
  entered_more c.loop-i.invariant.0 c.loop-i-test.true c.trial_at.ensures c.in_default.ensures refl c.enter-entered.auto.w,
  arrays_kept c.loop-i.invariant.1 c.enter-entered.auto.points c.enter-entered.auto.corners c.enter-entered.auto.places c.enter-entered.auto.line c.enter-entered.auto.counts,
)

pub returns : goal.returns
returns c = entered_all c.loop-i.invariant.0 c.loop-i-test.false
