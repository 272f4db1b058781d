-- `store` meets its contract: the record struck out, contributions and the header, in that order.
use mathlib.Core.Path.{refl}
use native.Mathlib.Omega.{arith}
use lib.ListN.{length-set}
use Rattle.calls.proofs.Known.{known}
use Rattle.removal.proofs.removing.Storing.{raising_asked, removal_stored}
use Rattle.removal.proofs.removing.store.Goals as goal

pub bounds-w-5 : goal.bounds-w-5
bounds-w-5 c = omega (arith, known c.args.w.now c.requires.passes)

pub strike-requires : goal.strike-requires
strike-requires c = omega (arith, known c.args.w.now c.requires.passes, c.requires.inside)

pub raise_at-requires : goal.raise_at-requires
raise_at-requires c =
    record { n_in_bounds = (omega (arith, known c.args.w.now c.requires.passes, c.strike.auto.w), c.requires.placed); each = raising_asked c.args.w.now _ c.requires refl refl c.strike.ensures }

pub bounds-w-5-2 : goal.bounds-w-5-2
bounds-w-5-2 c = simp length-set (omega (arith, known c.args.w.now c.requires.passes, c.strike.auto.w, c.raise_at.auto.w))

pub bounds-w-6 : goal.bounds-w-6
bounds-w-6 c = simp length-set (omega (arith, known c.args.w.now c.requires.passes, c.strike.auto.w, c.raise_at.auto.w))

pub returns : goal.returns
returns c =
    removal_stored c.args.w.now _ c.requires refl refl c.strike.ensures _ _ c.raise_at.ensures refl
