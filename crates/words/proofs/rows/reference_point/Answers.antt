-- `reference_point` meets its contract: an allowed reference fits, by the axis.
use native.Mathlib.Omega.{arith}
use Rattle.words.proofs.Passed.{shape_bounds}
use Rattle.words.proofs.rows.reference_point.Goals as goal

pub new-requires : goal.new-requires
new-requires c = let high = (shape_bounds _ c.requires).reference_high in (omega (arith, high 0), omega (arith, high 1), omega (arith, high 2))
