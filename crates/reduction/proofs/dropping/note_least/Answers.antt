-- `note_least` meets its contract: the record at the least place is noted.
use Rattle.reduction.proofs.dropping.Noting.{least_noted}
use Rattle.reduction.proofs.dropping.note_least.Goals as goal

pub returns : goal.returns
returns c =
    let noted = least_noted c.args.numbers.now c.args.kept.now _ c.requires.1 _ _ _ c.args.log.now _ c.least-k.ensures c.copy.ensures in
    record { place = noted.0; least = noted.1 }
