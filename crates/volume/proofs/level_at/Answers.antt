-- `level_at` meets its contract.
use Prim.Native.Nat.{◌/◌, min}
use mathlib.Core.Path.{sym, ap, ◌∙◌}
use borrow.Author.Tests.{ltb-false}
use Rattle.volume.proofs.Levels.{level_in, level_out}
use Rattle.volume.proofs.level_at.Goals as goal

pub returns-in-Some : goal.returns-in-Some
returns-in-Some c =
    let found = c.in-Some.ensures.lookup.3 in
    c.min.ensures ∙ ap (λ k. min (k / 512) c.args.rz) (found.1 0) ∙ sym (level_in _ _ _ found.0)

pub returns-in-None : goal.returns-in-None
returns-in-None c = sym (level_out _ _ _ (ltb-false _ _ (sym c.in-None.ensures.lookup.0)))
