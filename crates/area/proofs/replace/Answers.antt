-- `replace` meets its contract.
use native.Mathlib.Omega.{arith}
use Rattle.area.proofs.Replacing.{replaced_none, replaced_some}
use Rattle.area.proofs.replace.Goals as goal

pub returns-then-at-end : goal.returns-then-at-end
returns-then-at-end c =
    (omega arith, replaced_none c.args.line.now c.args.m c.args.at c.args.end c.args.entry c.requires.0 c.requires.1 c.requires.2 c.if-at-end.true c.place.ensures)

pub returns : goal.returns
returns c =
    replaced_some c.args.line.now c.args.m c.args.at c.args.end c.args.entry c.requires.0 c.requires.1 c.requires.2 c.if-at-end.false c.close.ensures
