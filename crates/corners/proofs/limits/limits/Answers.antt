-- `limits` meets its contract. The invariant: on each axis the two least offers of the first i points, and their limits.
use Prim.Native.Nat.{ℕ, ◌+◌, ◌≤◌, ◌<◌}
use mathlib.Core.Path.{◌≡◌}
use native.Mathlib.Omega.{arith}
use lib.ListN.{length}
use borrow.Author.Rules.{rules}
use Rattle.corners.proofs.limits.LimitsLaws.{Bounding, bounding_none, bounding_more, bounding_past, bounding_end}
use Rattle.corners.proofs.limits.limits.Goals as goal

inside : {i n : ℕ} → i ≤ n → (i ≡ n → ⊥) → i < n
inside l d = omega arith

pub loop-i-init : goal.loop-i-init
loop-i-init c = bounding_none (search rules) c.join-limit.ensures

pub returns-then-next-points : goal.returns-then-next-points
returns-then-next-points c = bounding_end c.loop-i.invariant

pub point_at-requires : goal.point_at-requires
point_at-requires c = inside c.seek-next.ensures.1 c.if-next-points.false

pub returns-then-covered : goal.returns-then-covered
returns-then-covered c =
    let three : length c.with-offers.result.second ≡ 3 = search rules in
    let offered : Bounding c.args.points.now c.args.u.at c.with-offers.result.least c.with-offers.result.second c.join-limit-in-loop-i.result.at (c.seek-next.result + 1) = bounding_more (bounding_past _ _ c.loop-i.invariant c.seek-next.ensures.0 c.seek-next.ensures.1) (inside c.seek-next.ensures.1 c.if-next-points.false)
    c.point_at.ensures c.with-offers.ensures (three) c.join-limit-in-loop-i.ensures in
    bounding_end (offered)

pub overflow_add-i : goal.overflow_add-i
overflow_add-i c = omega (arith, inside c.seek-next.ensures.1 c.if-next-points.false)

pub loop-i-smaller : goal.loop-i-smaller
loop-i-smaller c = omega (arith, c.seek-next.ensures.0, inside c.seek-next.ensures.1 c.if-next-points.false)

pub loop-i-preserved : goal.loop-i-preserved
loop-i-preserved c =
    let three : length c.with-offers.result.second ≡ 3 = search rules in
    let offered : Bounding c.args.points.now c.args.u.at c.with-offers.result.least c.with-offers.result.second c.join-limit-in-loop-i.result.at (c.seek-next.result + 1) = bounding_more (bounding_past _ _ c.loop-i.invariant c.seek-next.ensures.0 c.seek-next.ensures.1) (inside c.seek-next.ensures.1 c.if-next-points.false)
    c.point_at.ensures c.with-offers.ensures (three) c.join-limit-in-loop-i.ensures in
    offered

pub returns : goal.returns
returns c = bounding_end c.loop-i.invariant
