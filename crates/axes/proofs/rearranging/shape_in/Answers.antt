-- `shape_in` meets its contract: the reference rearranged, the capacity as it was.
use mathlib.Core.Path.{ap, ◌∙◌}
use native.Mathlib.Omega.{arith}
use Rattle.words.specs.Layout.{read, read_shape}
use Rattle.calls.proofs.Known.{known}
use Rattle.axes.specs.Orders.{rearranged}
use Rattle.axes.proofs.rearranging.Storing.{shape_rearranged}
use Rattle.axes.proofs.rearranging.shape_in.Goals as goal

pub bounds-w-1 : goal.bounds-w-1
bounds-w-1 c = omega (arith, known _ c.requires.0)

pub returns : goal.returns
unfolding read read_shape
returns c = shape_rearranged _ _ _ (c.rearranged.ensures ∙ ap (rearranged _) c.reference_of.ensures)
