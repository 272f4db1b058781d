-- `recount` meets its contract: the counts of the update raise the contributions at their places.
use Rattle.reduction.proofs.dropping.Recounts.{long_enough, recount_raises, raised_front}
use Rattle.reduction.proofs.dropping.recount.Goals as goal

pub raise_values-requires : goal.raise_values-requires
raise_values-requires c =
    let able =
    recount_raises c.requires.0 c.update-change.new.places c.update-change.new.counts _
    (long_enough c.requires.0 c.args.places.now c.update-change.new.places c.requires.1.places_room c.update-change.auto.places)
    (long_enough c.requires.0 c.args.counts.now c.update-change.new.counts c.requires.1.counts_room c.update-change.auto.counts)
    c.update-change.ensures.joints in
    record { placed = able.0; each = able.1 }

pub returns : goal.returns
returns c =
    record { gained = c.update-change.ensures.gain; raised = raised_front c.requires.0 c.update-change.new.places c.update-change.new.counts _ _ _ c.raise_values.auto.values c.update-change.ensures.joints c.raise_values.ensures }
