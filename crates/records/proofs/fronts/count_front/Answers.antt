-- `count_front` meets its contract: the points are loaded, and their front is counted.
use mathlib.Core.Path.{refl, ap, ◌∙◌}
use native.Mathlib.Omega.{arith}
use Rattle.hypervolume.specs.Front.{front}
use Rattle.calls.proofs.Known.{known}
use Rattle.records.proofs.HeldPoints.{loaded_all, loaded_in_order}
use Rattle.records.proofs.fronts.count_front.Goals as goal

pub bounds-w-0 : goal.bounds-w-0
bounds-w-0 c = omega (arith, known c.args.w.now c.requires)

pub front-requires : goal.front-requires
front-requires c = loaded_in_order c.requires refl c.load_points-m.ensures

pub returns : goal.returns
returns c = c.front.ensures ∙ ap front (loaded_all refl c.load_points-m.ensures)
