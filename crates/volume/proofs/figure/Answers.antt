-- `figure` meets its contract: the points read, then measured.
use mathlib.Core.Path.{ap, ◌∙◌}
use Rattle.volume.specs.Volume.{Cells, figure_of}
use Rattle.volume.proofs.Outcomes.{refused_points, measured_points}
use Rattle.std.proofs.lemmas.Result.{err_from_is_err_and}
use Rattle.volume.proofs.figure.Goals as goal

pub returns-in_err-read : goal.returns-in_err-read
returns-in_err-read c =
    let p = err_from_is_err_and c.from_residual.result c.from_residual.ensures.1 in
    rw (p.1, p.2, c.in_err-read.ensures.0) (refused_points _ _ _ c.in_err-read.ensures.1)

pub returns : goal.returns
returns c =
    measured_points _ _ _ _ c.in_ok-read.ensures.0 (ap Cells (c.in_order-sum.ensures ∙ ap (figure_of _) c.in_ok-read.ensures.1.all))
