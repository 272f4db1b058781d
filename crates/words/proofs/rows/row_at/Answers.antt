-- `row_at` meets its contract.
use Rattle.words.proofs.Places.{row_at_words}
use Rattle.words.proofs.rows.row_at.Goals as goal

pub returns : goal.returns
returns c = row_at_words _ _
