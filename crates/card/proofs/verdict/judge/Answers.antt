-- `card::verdict::judge` meets its contract: line 1, then the further lines.
use mathlib.Core.Path.{◌≡◌, refl, sym, ◌∙◌}
use mathlib.Core.Option.{some}
use Rattle.std.specs.Prelude.{Some}
use Rattle.std.proofs.lemmas.Result.{err_from_is_err_and}
use Rattle.refusals.proofs.Table.{number_positive}
use Rattle.text.specs.Lines.{numbers_of}
use Rattle.card.specs.Card.{shape_on, due}
use Rattle.card.proofs.Refusing.{none_as, refused_at, passed_at}
use Rattle.card.proofs.verdict.FirstLine.{no_line, the_line, first_refused, first_passed}
use Rattle.card.proofs.verdict.judge.Goals.{In_ok-l}
use Rattle.card.proofs.verdict.judge.Goals as goal

-- The first line, where it is of the form.
first : (c : In_ok-l) → some (numbers_of (Some c.in_ok-l.l)) ≡ due c.args.card.now 1
first c = the_line c.args.room _ _ _ (sym c.flatten.ensures ∙ c.in_ok-l.ensures.ok_part) c.read_line.ensures

pub returns-in_err-l : goal.returns-in_err-l
returns-in_err-l c =
    let p = err_from_is_err_and c.from_residual.result c.from_residual.ensures.1 in
    rw (p.1, p.2, none_as _ _ _ c.in_err-l.ensures.value c.in_err-l.ensures.ok_part)
    (no_line _ _ _ (sym c.flatten.ensures ∙ c.in_err-l.ensures.ok_part) c.read_line.ensures refl)

pub returns-in_err-at_line : goal.returns-in_err-at_line
unfolding shape_on
returns-in_err-at_line c =
    let p = err_from_is_err_and c.from_residual-in_err-at_line.result c.from_residual-in_err-at_line.ensures.1 in
    let line = refused_at _ _ _ c.in_err-at_line.ensures in
    rw (p.1, p.2)
    (first_refused _ _ _ (first (goal.at.returns-in_err-at_line c).In_ok-l) (line.0 ∙ c.start_row.ensures) (number_positive _) (rw line.1))

pub returns : goal.returns
unfolding shape_on
returns c =
    first_passed _ _ _ (first (goal.at.returns c).In_ok-l) c.start_row.ensures (passed_at _ _ _ c.in_ok-at_line.ensures) c.judge_further.ensures
