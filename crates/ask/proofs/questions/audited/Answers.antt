-- `audited` meets its contract: the points are loaded, and the counts compared.
use mathlib.Core.Path.{refl}
use native.Mathlib.Omega.{arith}
use Rattle.calls.proofs.Known.{known}
use Rattle.records.proofs.HeldPoints.{loaded_all}
use Rattle.ask.proofs.questions.audited.Goals as goal

pub bounds-w-0 : goal.bounds-w-0
bounds-w-0 c = omega (arith, known c.args.w.now c.requires)

pub counts_agree-requires : goal.counts_agree-requires
counts_agree-requires c = (c.requires, loaded_all refl c.load_points-m.ensures)
