-- `drop_least` meets its contract: the columns are those of the archive after the drop.
use native.Mathlib.Omega.{arith}
use Rattle.reduction.proofs.dropping.Made.{room, room_less, recount_ready, gain_within, drop_made}
use Rattle.reduction.proofs.dropping.drop_least.Goals as goal

pub note_least-k-requires : goal.note_least-k-requires
note_least-k-requires c = (c.requires.1, (room c.requires.0.inside.held).of_numbers, (room c.requires.0.inside.held).of_kept, c.requires.3)

pub point_at-u-requires : goal.point_at-u-requires
point_at-u-requires c = omega (arith, c.note_least-k.ensures.place, (room c.requires.0.inside.held).of_points)

pub close_gap-requires : goal.close_gap-requires
close_gap-requires c = (c.note_least-k.ensures.place, (room c.requires.0.inside.held).of_numbers, (room c.requires.0.inside.held).of_points, (room c.requires.0.inside.held).of_kept)

pub recount-loss-requires : goal.recount-loss-requires
recount-loss-requires c = (recount_ready c.requires.0.inside c.requires.0.droppable c.note_least-k.ensures.place c.note_least-k.ensures.least c.close_gap.ensures c.point_at-u.ensures (room c.requires.0.inside.held) c.close_gap.auto.points c.close_gap.auto.kept, room_less c.requires.2)

pub overflow_sub-result : goal.overflow_sub-result
overflow_sub-result c = gain_within c.requires.0.inside c.requires.0.droppable c.note_least-k.ensures.place c.note_least-k.ensures.least c.close_gap.ensures c.point_at-u.ensures _ c.recount-loss.ensures.gained

pub returns : goal.returns
returns c = λ a h d. drop_made h d c.note_least-k.ensures.place c.note_least-k.ensures.least c.close_gap.ensures c.point_at-u.ensures _ _ c.recount-loss.ensures.gained c.recount-loss.ensures.raised
