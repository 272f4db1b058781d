-- `figures_from` meets its contract: references that differ, or the answer.
use mathlib.Core.Path.{refl}
use Rattle.figures.proofs.Answering.{references_differ, references_alike}
use Rattle.figures.proofs.runs.figures_from.Goals as goal

pub returns-then-not-of_one_reference : goal.returns-then-not-of_one_reference
returns-then-not-of_one_reference c = references_differ _ _ c.of_one_reference.ensures (c.if-not-of_one_reference.true) refl

pub returns : goal.returns
returns c = references_alike _ _ c.of_one_reference.ensures (c.if-not-of_one_reference.false) c.answer_by.ensures
