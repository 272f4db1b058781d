-- `load_keys` meets its contract: the first i points have their keys.
use Rattle.sweep4.proofs.Reading.{Keying}
use Rattle.sweep4.proofs.load_keys.Given as goal

abbrev pub invariant-loop-i : goal.invariant-loop-i
invariant-loop-i l = Keying l.coords l.initial.keys l.keys l.i
