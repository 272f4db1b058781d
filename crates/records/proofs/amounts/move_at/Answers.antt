-- `move_at` meets its contract: the contributions at the first k places are moved, whatever operation the step is, and the next is
-- one that the step takes.
use Prim.Native.Nat.{◌+◌}
use Rattle.records.proofs.amounts.KeptWords.{storing_none, storing_here, storing_step, storing_end}
use Rattle.records.proofs.amounts.move_at.Goals as goal

pub loop-k-init : goal.loop-k-init
loop-k-init g c = record {
  stored = λ op s. storing_none c.requires.n_in_bounds.0 c.requires.n_in_bounds.1 s.still;
  next = λ l. rw (storing_here (storing_none {op = c.requires.moves.0} c.requires.n_in_bounds.0 c.requires.n_in_bounds.1 c.requires.moves.1.still) l) (c.requires.asked 0 l);
}

pub loop-k-preserved : goal.loop-k-preserved
loop-k-preserved g c = record {
  stored = λ op s. storing_step (c.loop-k.invariant.stored op s) s c.loop-k-test.true _ c.step.ensures;
  next = λ l. rw (storing_here (storing_step (c.loop-k.invariant.stored c.requires.moves.0 c.requires.moves.1) c.requires.moves.1 c.loop-k-test.true _ c.step.ensures) l) (c.requires.asked (c.loop-k.k + 1) l);
}

pub returns : goal.returns
returns g c op s = storing_end (c.loop-k.invariant.stored op s) c.loop-k-test.false
