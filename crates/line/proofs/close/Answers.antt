-- `close` meets its contract.
use Rattle.line.proofs.PlaceLaws.{closed_some}
use Rattle.line.proofs.close.Goals as goal

pub returns : goal.returns
returns c =
    closed_some c.args.line.now _ _ _ c.requires.0 c.requires.1 c.requires.2 c.move_down.ensures
