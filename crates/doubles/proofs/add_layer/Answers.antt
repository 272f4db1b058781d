-- `doubles::add_layer` meets its contract: the code's two steps are the definition's.
use Rattle.std.proofs.Common.{refl}
use Rattle.doubles.specs.Doubles.{with_layer, double}
use Rattle.doubles.proofs.add_layer.Goals as goal

pub returns : goal.returns
unfolding with_layer double
returns c = refl
