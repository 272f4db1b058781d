-- `some_differs` meets its contract: the pairs passed do not decide, so what is left does.
use mathlib.Core.Path.{sym}
use native.Mathlib.Omega.{arith}
use Rattle.slices.proofs.PairLoops.{seeking_none, seeking_end, differing_found, differing_more}
use Rattle.records.proofs.amounts.KeptWords.{kept_none, contribution_at}
use Rattle.records.proofs.amounts.some_differs.Goals as goal

pub loop-i-init : goal.loop-i-init
loop-i-init c = seeking_none (sym (kept_none c.args.w.now _ c.requires).many)

pub returns-then-w-i : goal.returns-then-w-i
returns-then-w-i c = differing_found c.loop-i.invariant c.loop-i-test.true (contribution_at c.args.w.now _ _ c.requires c.loop-i-test.true) c.if-w-i.true

pub loop-i-preserved : goal.loop-i-preserved
loop-i-preserved c = differing_more c.loop-i.invariant c.loop-i-test.true (contribution_at c.args.w.now _ _ c.requires c.loop-i-test.true) c.if-w-i.false

pub returns : goal.returns
returns c = seeking_end c.loop-i.invariant (omega (arith, c.loop-i.invariant.pairs))
