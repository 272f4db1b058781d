-- `thin` meets its contract. The invariant: the walk so far.
use Rattle.line.proofs.ThinLaws.{walking_none, walking_kept, walking_flagged, walking_less, walking_stop, walking_end}
use Rattle.line.proofs.thin.Goals as goal

pub loop-from-init : goal.loop-from-init
loop-from-init c = walking_none _ _ _ _ c.requires

pub returns-then-flag_of-eq0 : goal.returns-then-flag_of-eq0
returns-then-flag_of-eq0 c =
    walking_stop c.loop-from.invariant c.loop-from-test.true c.y_of-y.ensures c.y_of.ensures c.if-y_of-y.true c.flag_of.ensures c.if-flag_of-eq0.true

pub loop-from-preserved-then-y_of-y : goal.loop-from-preserved-then-y_of-y
loop-from-preserved-then-y_of-y c =
    walking_kept c.loop-from.invariant c.loop-from-test.true c.flag_of.ensures c.if-flag_of-eq0.false

pub loop-from-preserved-then-flag_of-eq0-2 : goal.loop-from-preserved-then-flag_of-eq0-2
loop-from-preserved-then-flag_of-eq0-2 c =
    walking_flagged c.loop-from.invariant c.loop-from-test.true c.y_of-y.ensures c.y_of.ensures c.if-y_of-y.false c.set_flag.ensures

pub loop-from-preserved : goal.loop-from-preserved
loop-from-preserved c =
    walking_less c.loop-from.invariant c.loop-from-test.true c.y_of-y.ensures c.y_of.ensures c.if-y_of-y.false c.flag_of-else-y_of-y.ensures c.if-flag_of-eq0-2.false

pub returns : goal.returns
returns c = walking_end c.loop-from.invariant c.loop-from-test.false
