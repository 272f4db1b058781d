-- `renew` meets its contract: the front counted, and written as word 6.
use native.Mathlib.Omega.{arith}
use Rattle.calls.proofs.Known.{known}
use Rattle.records.proofs.Stored.{front_written}
use Rattle.records.proofs.fronts.renew.Goals as goal

pub bounds-w-6 : goal.bounds-w-6
bounds-w-6 c = omega (arith, known c.args.w.now c.requires)

pub returns : goal.returns
returns c = front_written _ _ c.requires c.count_front-front.ensures
