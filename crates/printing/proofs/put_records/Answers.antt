-- `printing::put_records` meets its contract. The loop's invariant: the lines of the first i records are written.
use native.Mathlib.Omega.{arith}
use borrow.Author.Rules.{rules}
use Rattle.calls.proofs.Known.{known}
use Rattle.printing.proofs.Texts.{listing_none, next_line, listing_more, listing_end}
use Rattle.printing.proofs.put_records.Goals as goal

pub bounds-w-0 : goal.bounds-w-0
bounds-w-0 c = omega (arith, known _ c.requires.passes)

pub loop-i-init : goal.loop-i-init
loop-i-init c = listing_none _ _ _ c.requires

pub overflow_add-wide : goal.overflow_add-wide
overflow_add-wide c = omega (arith, c.loop-i.invariant.asked.column.narrow)

pub overflow_mul-wide : goal.overflow_mul-wide
overflow_mul-wide c = omega (arith, (next_line _ c.loop-i.invariant c.loop-i-test.true).within)

pub record_at-requires : goal.record_at-requires
record_at-requires c = (c.loop-i.invariant.asked.passes, search rules)

pub put_line-requires : goal.put_line-requires
put_line-requires c = (c.loop-i.invariant.asked.column, omega (arith, (next_line _ c.loop-i.invariant c.loop-i-test.true).within))

pub loop-i-preserved : goal.loop-i-preserved
loop-i-preserved c =
    listing_more _ c.loop-i.invariant c.loop-i-test.true c.record_at.ensures c.put_line.auto.out c.put_line.ensures

pub returns : goal.returns
returns c = listing_end _ c.loop-i.invariant c.loop-i-test.false
