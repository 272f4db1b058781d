-- `printing::put_last` meets its contract: a column, or none.
use native.Mathlib.Omega.{arith}
use Rattle.printing.proofs.Texts.{no_column, twenty, some_column}
use Rattle.printing.proofs.put_last.Goals as goal

pub returns-then-wide-eq0 : goal.returns-then-wide-eq0
returns-then-wide-eq0 c = no_column _ _ _ _ c.if-wide-eq0.true

pub put_number-requires : goal.put_number-requires
put_number-requires c = omega (arith, twenty c.requires.0 c.if-wide-eq0.false)

pub returns : goal.returns
returns c = some_column _ _ _ c.requires.0 c.if-wide-eq0.false c.put_number.ensures
