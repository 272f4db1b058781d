-- `covered` meets its contract.
use mathlib.Core.Path.{sym}
use mathlib.Core.Bool.{true≢false}
use Rattle.corners.proofs.limits.covered.Goals as goal

pub returns : goal.returns
returns c e = absurd (true≢false (sym e))
