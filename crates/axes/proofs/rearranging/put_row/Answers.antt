-- `put_row` meets its contract: the point rearranged, number and contribution as they were.
use Prim.Native.Nat.{◌+◌, ◌*◌}
use mathlib.Core.Path.{ap, ◌∙◌}
use native.Mathlib.Omega.{arith}
use Rattle.slices.specs.Put.{put}
use Rattle.words.specs.Layout.{record_words}
use Rattle.words.proofs.Places.{point_at}
use Rattle.calls.proofs.Known.{known}
use Rattle.axes.specs.Orders.{rearranged}
use Rattle.axes.proofs.rearranging.Storing.{row_rearranged}
use borrow.Author.Rules.{rules}
use Rattle.axes.proofs.rearranging.put_row.Goals as goal

pub bounds-w-place : goal.bounds-w-place
bounds-w-place c = omega (arith, c.requires.2, known _ c.requires.0)

pub bounds-w-place-2 : goal.bounds-w-place-2
bounds-w-place-2 c =
    omega (arith, c.requires.2, c.requires.3, known _ c.requires.0)

pub returns : goal.returns
returns c =
    let read = c.record_at in
    let point = point_at c.args.w.now c.args.place read.result (search rules) read.ensures in
    let row = row_rearranged c.args.order c.args.w.now c.args.place _ (c.rearranged.ensures ∙ ap (rearranged _) point) in
    c.put_record.ensures ∙ ap (λ r. put c.args.second.now (8 + 5 * c.args.i) (record_words r)) row
