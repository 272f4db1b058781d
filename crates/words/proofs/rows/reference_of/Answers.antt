-- `reference_of` meets its contract: the reference of the shape that the header holds.
use mathlib.Core.Path.{ap, ◌∙◌}
use native.Mathlib.Omega.{arith}
use Rattle.words.specs.Format.{shape_allowed}
use Rattle.words.proofs.Passed.{unrefused, header_facts}
use Rattle.words.proofs.rows.reference_of.Goals as goal

pub shape_of-requires : goal.shape_of-requires
shape_of-requires c = let facts = header_facts _ (unrefused _ _ c.requires).headed in omega arith

pub reference_point-requires : goal.reference_point-requires
reference_point-requires c = ap shape_allowed c.shape_of.ensures ∙ (header_facts _ (unrefused _ _ c.requires).headed).shaped
