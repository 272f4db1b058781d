-- `rows_allowed` meets its contract. The loop's invariant: the records before place i stand, and the table has their
-- numbers. The measure is the number of records left.
use mathlib.Core.Path.{◌∙◌, ap, refl}
use native.Mathlib.Omega.{arith}
use Rattle.hypervolume.specs.Cells.{box}
use Rattle.words.specs.Archive.{reference}
use Rattle.words.specs.Format.{shape_allowed}
use Rattle.words.proofs.Passed.{header_facts, reference_small}
use Rattle.words.proofs.check.RowsAllowed.{checked_none, checked_more, checked_place, checked_stop, checked_end}
use mathlib.Core.Bool.{not}
use Rattle.words.proofs.check.rows_allowed.Goals as goal

pub shape_of-requires : goal.shape_of-requires
shape_of-requires c = let facts = header_facts _ c.requires in omega arith

pub reference_point-requires : goal.reference_point-requires
reference_point-requires c = ap shape_allowed c.shape_of.ensures ∙ (header_facts _ c.requires).shaped

pub box_of-cells-requires : goal.box_of-cells-requires
box_of-cells-requires c = reference_small _ _ (header_facts _ c.requires).shaped (c.reference_point.ensures ∙ ap reference c.shape_of.ensures)

pub bounds-w-0 : goal.bounds-w-0
bounds-w-0 c = let facts = header_facts _ c.requires in omega arith

pub loop-i-init : goal.loop-i-init
loop-i-init c = checked_none _ _ _ c.requires (c.box_of-cells.ensures ∙ ap box (c.reference_point.ensures ∙ ap reference c.shape_of.ensures)) refl

pub stands-requires : goal.stands-requires
stands-requires c = checked_place _ _ _ _ _ c.loop-i.invariant c.loop-i-test.true c.mark-met.ensures.value

pub returns-then-not-stands : goal.returns-then-not-stands
returns-then-not-stands c = checked_stop _ _ _ _ _ c.loop-i.invariant c.loop-i-test.true c.stands.ensures (ap not c.if-not-stands.true)

pub loop-i-preserved : goal.loop-i-preserved
loop-i-preserved c = checked_more _ _ _ _ _ _ c.loop-i.invariant c.loop-i-test.true c.stands.ensures (ap not c.if-not-stands.false) c.mark-met.ensures.marking c.mark-met.auto.table

pub returns : goal.returns
returns c = checked_end _ _ _ _ c.loop-i.invariant c.loop-i-test.false
