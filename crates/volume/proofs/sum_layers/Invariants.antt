-- `sum_layers` meets its contract. The invariant: after i points, the area that they cover and the layers that are left.
use Prim.Native.Nat.{◌-◌}
use lib.ListN.{length}
use Rattle.volume.proofs.Levels.{Layering}
use Rattle.volume.proofs.sum_layers.Given as goal

abbrev pub invariant-loop-z : goal.invariant-loop-z
invariant-loop-z l = Layering l.points l.keys l.rx l.ry l.rz l.line l.sum l.area l.m l.i l.z

abbrev pub decreases-loop-z : goal.decreases-loop-z
decreases-loop-z l = length l.keys - l.i
