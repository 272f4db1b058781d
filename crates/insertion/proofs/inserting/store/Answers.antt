-- `store` meets its contract: contributions, the new record and the header, in that order.
use mathlib.Core.Path.{refl}
use native.Mathlib.Omega.{arith}
use lib.ListN.{length-set}
use Rattle.calls.proofs.Known.{known}
use Rattle.insertion.proofs.inserting.Storing.{storing_fits, storing_place, insertion_stored}
use Rattle.insertion.proofs.inserting.store.Goals as goal

pub bounds-w-0 : goal.bounds-w-0
bounds-w-0 c = omega (arith, known c.args.w.now c.requires.passes)

pub bounds-w-5 : goal.bounds-w-5
bounds-w-5 c = omega (arith, known c.args.w.now c.requires.passes)

pub overflow_add-total : goal.overflow_add-total
overflow_add-total c = omega (arith, storing_fits c.requires)

pub lower_at-requires : goal.lower_at-requires
lower_at-requires c =
    record { n_in_bounds = (omega (arith, known c.args.w.now c.requires.passes), c.requires.lowers.placed); counts_value = c.requires.enough }

pub enter_at-requires : goal.enter_at-requires
enter_at-requires c = omega (arith, known c.args.w.now c.requires.passes, c.requires.free, c.lower_at.auto.w, storing_place c.args.w.now _ _ c.rank-k.ensures)

pub overflow_add-w : goal.overflow_add-w
overflow_add-w c = omega (arith, known c.args.w.now c.requires.passes)

pub bounds-w-5-2 : goal.bounds-w-5-2
bounds-w-5-2 c = simp length-set (omega (arith, known c.args.w.now c.requires.passes, c.lower_at.auto.w, c.enter_at.auto.w))

pub returns : goal.returns
returns c = insertion_stored _ _ _ _ _ _ _ _ _ c.requires c.rank-k.ensures c.lower_at.ensures c.enter_at.ensures refl
