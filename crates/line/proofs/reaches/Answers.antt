-- `reaches` meets its contract.
use Rattle.line.proofs.RankLaws.{reaches_bit}
use Rattle.line.proofs.reaches.Goals as goal

pub returns : goal.returns
returns c = reaches_bit _ _ c.requires c.ranges.entry.fits
