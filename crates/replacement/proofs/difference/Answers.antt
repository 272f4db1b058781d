-- `difference` meets its contract: both counts fit, and so does their difference.
use Rattle.replacement.proofs.Differences.{differs}
use Rattle.replacement.proofs.difference.Goals as goal

pub returns : goal.returns
returns c = differs c.args.a c.requires.0 c.args.b c.requires.1
