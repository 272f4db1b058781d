-- `update` meets its contract: the sweep of the corners within the limits counts the joint contributions, the others have
-- none, and what it does not cover of the edge product is the gain. Where two points cover u, it changes no count.
use Rattle.corners.proofs.UpdateLaws.{Prepared, prepared_ready, prepared_enough, prepared_gain, prepared_joints}
use Rattle.corners.proofs.Covered.{covered_gain, covered_joints}
use borrow.Author.Rules.{rules}
use Rattle.corners.proofs.update.Goals.{After-collect-moved}
use Rattle.corners.proofs.update.Goals as goal

-- the corners are collected
prepared : (c : After-collect-moved) → Prepared c.args.points.now c.args.u.at c.args.reference.at c.args.corners.now c.args.places.now c.args.line.now c.args.counts.now c.limits-limit.result.at c.collect-moved.new.corners c.collect-moved.new.places c.collect-moved.result
prepared c =
    record {
      asked = c.requires;
      axes = search rules;
      limits = c.limits-limit.ensures;
      corners_long = search rules;
      places_long = search rules;
      collected = c.collect-moved.ensures;
    }

pub returns-then-covered : goal.returns-then-covered
returns-then-covered c =
    let own = c.covered.ensures c.if-covered.true in
    record {
      gain = covered_gain c.requires.ready.sorted (search rules) (search rules) c.limits-limit.ensures own.0 own.1 _;
      joints = covered_joints c.requires.ready.sorted (search rules) (search rules) c.limits-limit.ensures own.0 own.1 _ _ _;
    }

pub sweep-covered-requires : goal.sweep-covered-requires
sweep-covered-requires c = prepared_ready (prepared (goal.at.sweep-covered-requires c).After-collect-moved)

pub overflow_sub-result : goal.overflow_sub-result
overflow_sub-result c =
    prepared_enough (prepared (goal.at.overflow_sub-result c).After-collect-moved) c.sweep-covered.ensures.total c.edges.ensures

pub returns : goal.returns
returns c =
    let here = prepared (goal.at.returns c).After-collect-moved in
    record {
      gain = prepared_gain here c.sweep-covered.ensures.total c.edges.ensures;
      joints = prepared_joints here c.sweep-covered.ensures.contributions;
    }
