-- `same_reference` meets its contract: words 2, 3 and 4.
use Rattle.figures.proofs.Loading.{same_by_parts}
use Rattle.figures.proofs.runs.same_reference.Goals as goal

pub returns : goal.returns
returns c = same_by_parts _ _ c.requires.0 c.requires.1 c.eq.ensures
