-- `add_level` meets its contract.
use mathlib.Core.Path.{sym, ◌∙◌}
use Rattle.volume.proofs.Levels.{layer_yes, layer_no}
use Rattle.volume.proofs.add_level.Goals as goal

pub returns-then-z-next : goal.returns-then-z-next
returns-then-z-next c = c.add_layer.ensures ∙ sym (layer_yes _ _ _ _ c.if-z-next.true)

pub returns : goal.returns
returns c = sym (layer_no _ _ _ _ c.if-z-next.false)
