-- `printing::load_card` meets its contract: the line of a refused card, or the words of an accepted one.
use mathlib.Core.Path.{refl}
use native.Mathlib.Omega.{arith}
use lib.ListN.{length-take}
use Rattle.refusals.proofs.Table.{number_positive}
use Rattle.printing.proofs.Printouts.{load_refused, load_accepted}
use Rattle.printing.proofs.load_card.Goals as goal

pub slice_bounds-read_card-end : goal.slice_bounds-read_card-end
slice_bounds-read_card-end c = simp length-take (omega arith)

pub returns-in-Ok-clause-loads : goal.returns-in-Ok-clause-loads
returns-in-Ok-clause-loads c =
    let room = c.requires in
    load_accepted room c.in-Ok.ensures refl

pub returns-in-Err-clause-loads : goal.returns-in-Err-clause-loads
returns-in-Err-clause-loads c =
    let room = c.requires in
    load_refused room c.in-Err.ensures (number_positive _) c.put_refusal.ensures
