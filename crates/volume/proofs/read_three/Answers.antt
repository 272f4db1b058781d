-- `read_three` meets its contract.
use native.Mathlib.Omega.{arith}
use Rattle.words.proofs.Passed.{within_bounds}
use Rattle.volume.specs.Volume.{corner}
use Rattle.volume.proofs.Reading.{each_fails, three_allowed}
use Rattle.volume.proofs.read_three.Goals as goal

pub returns-in_err-x : goal.returns-in_err-x
unfolding corner
returns-in_err-x c = rw c.from_residual.ensures (each_fails _ _ 0 (omega arith) c.in_err-x.ensures)

pub returns-in_err-y : goal.returns-in_err-y
unfolding corner
returns-in_err-y c = rw c.from_residual-in_err-y.ensures (each_fails _ _ 1 (omega arith) c.in_err-y.ensures)

pub returns-in_err-z : goal.returns-in_err-z
unfolding corner
returns-in_err-z c = rw c.from_residual-in_err-z.ensures (each_fails _ _ 2 (omega arith) c.in_err-z.ensures)

pub new-requires : goal.new-requires
new-requires c =
    (omega (arith, within_bounds _ _ _ c.in_ok-x.ensures.1), omega (arith, within_bounds _ _ _ c.in_ok-y.ensures.1), omega (arith, within_bounds _ _ _ c.in_ok-z.ensures.1))

pub returns : goal.returns
unfolding corner
returns c = rw (← c.in_ok-x.ensures.0, ← c.in_ok-y.ensures.0, ← c.in_ok-z.ensures.0) (c.new.ensures, three_allowed _ _ _ _ c.in_ok-x.ensures.1 c.in_ok-y.ensures.1 c.in_ok-z.ensures.1)
