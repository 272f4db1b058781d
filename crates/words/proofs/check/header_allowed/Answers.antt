-- `header_allowed` meets its contract: the ranges decide, or leave it to the other tests, once the box is known to fit.
use mathlib.Core.Path.{◌∙◌, sym}
use Rattle.slices.specs.Choices.{both}
use Rattle.words.specs.Format.{header_allowed}
use Rattle.words.proofs.Passed.{reference_small}
use Rattle.words.proofs.check.header_allowed.Goals as goal

pub returns-then-not-shape_allowed : goal.returns-then-not-shape_allowed
unfolding header_allowed both
returns-then-not-shape_allowed c = rw (← c.shape_of-s.ensures, sym c.shape_allowed.ensures ∙ c.if-not-shape_allowed.true)

pub box_of-cells-requires : goal.box_of-cells-requires
box_of-cells-requires c = reference_small _ _ (sym c.shape_allowed.ensures ∙ c.if-not-shape_allowed.false) c.reference_point.ensures

pub returns : goal.returns
unfolding header_allowed both
returns c =
    rw (← c.shape_of-s.ensures, sym c.shape_allowed.ensures ∙ c.if-not-shape_allowed.false, ← c.reference_point.ensures, ← c.box_of-cells.ensures)
    cc
