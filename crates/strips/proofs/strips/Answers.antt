-- `strips` meets its contract. The invariant: the columns passed are settled, and the state is that of the entries
-- passed.
use Prim.Native.Nat.{max, min}
use mathlib.Core.Path.{◌≡◌}
use native.Mathlib.Omega.{arith}
use lib.ListN.{get_or}
use Rattle.line.specs.Line.{x_of}
use Rattle.strips.proofs.StripsLaws.{swept_none, swept_more, swept_fits, swept_stop, turn_settling, turn_settled, end_settling, end_settled, end_crossed}
use Rattle.strips.proofs.strips.Goals.{After-min-next}
use Rattle.strips.proofs.strips.Goals as goal

-- where the strip ends
next_is : (c : After-min-next) → c.min-next.result ≡ min (x_of (get_or c.args.line.now c.loop-k.k 0)) c.args.rx
next_is c = omega (arith, c.min-next.ensures, c.x_of.ensures)

pub loop-k-init : goal.loop-k-init
loop-k-init c = swept_none c.requires (let at_is : c.min-at.result ≡ min c.args.px c.args.rx = omega (arith, c.min-at.ensures) in at_is)

pub returns-then-column-py : goal.returns-then-column-py
returns-then-column-py c = swept_stop c.loop-k.invariant c.if-column-py.true

pub settle-area-requires : goal.settle-area-requires
settle-area-requires c =
    turn_settling c.requires c.loop-k.invariant (next_is (goal.at.settle-area-requires c).After-min-next)

pub overflow_add-area : goal.overflow_add-area
overflow_add-area c =
    record {
      fits = swept_fits c.requires (turn_settled c.requires c.loop-k.invariant (next_is (goal.at.overflow_add-area c).After-min-next) c.settle-area.ensures);
    }

pub loop-k-preserved : goal.loop-k-preserved
loop-k-preserved c =
    swept_more c.requires c.loop-k.invariant (next_is (goal.at.loop-k-preserved c).After-min-next) c.settle-area.ensures
    (let at_is : c.max-at.result ≡ max c.loop-k.at c.min-next.result = omega (arith, c.max-at.ensures) in at_is)
    c.y_of.ensures
    c.index_of.ensures
    c.with-column.ensures
    c.loop-k-test.true

pub settle-requires : goal.settle-requires
settle-requires c = end_settling c.requires c.loop-k.invariant c.loop-k-test.false

pub overflow_add-result : goal.overflow_add-result
overflow_add-result c =
    record { fits = swept_fits c.requires (end_settled c.requires c.loop-k.invariant c.loop-k-test.false c.settle.ensures) }

pub returns : goal.returns
returns c = end_crossed c.requires c.loop-k.invariant c.loop-k-test.false c.settle.ensures
