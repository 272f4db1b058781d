-- `drop_all` meets its contract: after i turns i drops are made and noted.
use mathlib.Core.Path.{refl}
use Rattle.reduction.proofs.reducing.Dropping.{drops_none, drops_next, drops_end}
use Rattle.reduction.proofs.reducing.drop_all.Goals as goal

pub loop-i-init : goal.loop-i-init
loop-i-init c = drops_none _ _ _ _ _ _ _ _ _ _ _ _ _ (record { corners_long = refl; places_long = refl; line_long = refl; counts_long = refl })

pub loop-i-preserved : goal.loop-i-preserved
loop-i-preserved c = drops_next c.loop-i.invariant _ _ _ _ _ _ _ _ _ c.loop-i-test.true c.requires.2 c.requires.3 c.drop_least-left.ensures c.drop_least-left.auto.numbers c.drop_least-left.auto.points c.drop_least-left.auto.kept c.drop_least-left.auto.log c.drop_least-left.auto.corners c.drop_least-left.auto.places c.drop_least-left.auto.line c.drop_least-left.auto.counts

pub returns : goal.returns
returns c = drops_end c.loop-i.invariant c.loop-i-test.false
