-- How the answer for C says what the call came to: the refusal's number and zeros, or 0 and the figures.
use Rattle.std.specs.Prelude.{Result, Ok, Err}
use Rattle.refusals.specs.declared.Refusal.{Refusal}
use Rattle.refusals.specs.Table.{number_of}
use Rattle.hypervolume.specs.Cells.{holds}
use Rattle.figures.specs.declared.answer.Figures.{Figures}
use Rattle.figures.specs.declared.answer.FiguresAnswer.{FiguresAnswer}

abbrev pub figures_of : Result Figures Refusal → FiguresAnswer
figures_of (Ok figures) =
    record {
      refusal = 0;
      sum = figures.sum;
      least = figures.least;
      greatest = figures.greatest;
      median = figures.median;
      share = figures.share;
      audits = holds figures.audits;
    }
figures_of (Err refusal) =
    record { refusal = number_of refusal; sum = 0; least = 0; greatest = 0; median = 0; share = 0; audits = 0 }
