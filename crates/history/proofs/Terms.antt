-- Terms 2 and 3 of document 00, proved.
use Rattle.history.specs.Terms.{Term2, Term3}
use Rattle.history.proofs.Histories.{started, whole_history, history}
use Rattle.history.proofs.Moves.{insertion_lowers, removal_raises, reduction_drops}
use Rattle.history.proofs.Kept.{holds_just, keeps_counts}

pub term_2 : Term2
term_2 =
    record {
      holds = λ before s calls e. holds_just s _ _ _ (whole_history before _ s _ (started before s e) calls).holds;
      counts = λ before s calls e. keeps_counts s _ _ _ (whole_history before _ s _ (started before s e) calls).holds;
    }

pub term_3 : Term3
term_3 =
    record {
      histories = λ before s calls e. history before _ s _ (started before s e) calls;
      insertions = insertion_lowers;
      removals = removal_raises;
      reductions = reduction_drops;
    }
