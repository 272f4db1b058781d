-- `read_point` meets its contract.
use Prim.Native.Nat.{◌+◌, ◌*◌}
use mathlib.Core.Path.{◌∙◌}
use native.Mathlib.Omega.{arith}
use Rattle.sweep4.proofs.Reading.{coordinate_small, seen_at}
use Rattle.sweep4.proofs.read_point.Goals as goal

pub new-requires : goal.new-requires
new-requires c =
    let at = c.args.place in
    let small = coordinate_small c.requires.0 in
    (omega (arith, small (4 * at)), omega (arith, small (4 * at + 1)), omega (arith, small (4 * at + 2)))

pub returns : goal.returns
returns c =
    c.new.ensures ∙ seen_at c.requires.0 _ c.requires.1
