-- `row_allowed` meets its contract.
use Rattle.words.specs.Format.{row_allowed}
use Rattle.words.proofs.check.row_allowed.Goals as goal

pub returns : goal.returns
unfolding row_allowed
returns c = cc
