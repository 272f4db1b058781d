-- `place_but` meets its contract.
use native.Mathlib.Omega.{arith}
use borrow.Author.Tests.{lt-ltb, le-ltb}
use Rattle.slices.specs.Choices.{pick}
use Rattle.records.specs.Columns.{place_but}
use Rattle.records.proofs.amounts.place_but.Goals as goal

pub returns-then-p-skip : goal.returns-then-p-skip
unfolding place_but pick
returns-then-p-skip c = (rw (lt-ltb _ _ c.if-p-skip.true), omega arith)

pub returns-else-p-skip : goal.returns-else-p-skip
unfolding place_but pick
returns-else-p-skip c = (rw (le-ltb _ _ c.if-p-skip.false), omega arith)
