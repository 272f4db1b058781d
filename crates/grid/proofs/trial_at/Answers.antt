-- `trial_at` meets its contract: four words from the place on.
use Prim.Native.Nat.{◌*◌}
use Rattle.grid.proofs.Filling.{trial_words}
use Rattle.grid.proofs.trial_at.Goals as goal

pub returns : goal.returns
returns c = trial_words c.args.grid.now (4 * c.args.i)
