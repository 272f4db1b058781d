-- `top` meets its contract: the last entry is the lowest.
use Prim.Native.Nat.{suc, ◌-◌, min}
use mathlib.Core.Path.{◌≡◌, ap, ◌∙◌}
use native.Mathlib.Omega.{arith}
use lib.ListN.{length, get_or}
use Rattle.line.specs.Line.{y_of}
use Rattle.area.proofs.Crossing.{topped_none, topped_last}
use Rattle.area.proofs.top.Goals as goal

pub returns-in-Some : goal.returns-in-Some
returns-in-Some c =
    let item = c.in-Some.ensures.item in
    let last : c.in-Some.field-0.now ≡ get_or c.args.line.now (length c.args.line.now - 1) 0 = item.4 (omega arith) 0 in
    topped_last c.args.ry c.args.line.now _ _ c.requires
    (let whole : suc (length c.args.line.now - 1) ≡ length c.args.line.now = omega (arith, item.3.0) in whole)
    (c.min.ensures ∙ ap (λ v. min v c.args.ry) (c.y_of.ensures ∙ ap y_of last))

pub returns-in-None : goal.returns-in-None
returns-in-None c = topped_none _ _ (omega (arith, c.in-None.ensures.item.3))
