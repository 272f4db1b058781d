-- `measure` meets its contract: rows 17, 20 and 19, then the figure.
use mathlib.Core.Path.{refl}
use Rattle.volume.proofs.Outcomes.{row_17, row_20, row_19, readable, measured, corner_small}
use Rattle.volume.proofs.measure.Goals as goal

pub returns-then-points-ne0 : goal.returns-then-points-ne0
returns-then-points-ne0 c = row_17 _ _ c.if-points-ne0.true

pub returns-then-points-gt512 : goal.returns-then-points-gt512
returns-then-points-gt512 c = row_20 _ _ c.if-points-ne0.false c.if-points-gt512.true

pub returns-in_default : goal.returns-in_default
returns-in_default c = row_19 _ _ c.if-points-ne0.false c.if-points-gt512.false refl c.in_default.ensures

pub figure-requires : goal.figure-requires
figure-requires c =
    (readable c.args.reference _ c.if-points-ne0.false c.if-points-gt512.false, corner_small _ (rw c.in-Some.ensures.0 c.in-Some.ensures.1))

pub returns : goal.returns
returns c =
    measured _ _ c.if-points-ne0.false c.if-points-gt512.false c.in-Some.ensures.0 (rw c.in-Some.ensures.0 c.in-Some.ensures.1) c.figure.ensures
