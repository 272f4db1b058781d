-- `shape_of` meets its contract.
use mathlib.Core.Path.{refl}
use Rattle.words.specs.Layout.{read_shape}
use Rattle.words.proofs.rows.shape_of.Goals as goal

pub returns : goal.returns
unfolding read_shape
returns c = refl
