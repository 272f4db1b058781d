-- `edge` meets its contract.
use Rattle.hypervolume.proofs.Points.{edge_length, halves_fit}
use borrow.Author.Rules.{rules}
use Rattle.hypervolume.proofs.edge.Goals as goal

pub overflow_mul-result : goal.overflow_mul-result
overflow_mul-result c = record { fits = halves_fit (search rules) (search rules) }

pub returns : goal.returns
returns c = edge_length _ _ c.ranges.reference.fits c.ranges.x.fits
