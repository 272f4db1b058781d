-- `place` meets its contract: the entry is one word more before those that have moved up.
use mathlib.Core.Path.{ap, ◌∙◌}
use lib.ListN.{set}
use Rattle.line.proofs.PlaceLaws.{placed}
use Rattle.line.proofs.place.Goals as goal

pub returns : goal.returns
returns c =
    ap (λ l. set l c.args.at c.args.entry) c.move_up.ensures
    ∙ placed c.args.line.now c.args.m c.args.at c.args.entry c.requires.0 c.requires.1
