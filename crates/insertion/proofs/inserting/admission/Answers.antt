-- `admission` meets its contract: rows 5 to 8 in turn.
use mathlib.Core.Path.{◌≡◌, sym, ◌∙◌}
use mathlib.Core.Bool.{true}
use native.Mathlib.Omega.{arith}
use Rattle.std.specs.Prelude.{is_some}
use Rattle.words.specs.Format.{number_allowed, coordinates_allowed, held}
use Rattle.words.specs.Layout.{read, read_shape}
use Rattle.words.specs.Places.{as_row}
use Rattle.words.proofs.Places.{find_held, found_some}
use Rattle.calls.specs.Calls.{held_trials}
use Rattle.calls.proofs.Known.{known, count_rows}
use Rattle.insertion.proofs.inserting.Admitting.{admission_5, admission_6, admission_7, admission_8, admission_passed}
use Rattle.insertion.proofs.inserting.admission.Goals.{Else-not-number_allowed, Else-not-coordinates_allowed, After-find}
use Rattle.insertion.proofs.inserting.admission.Goals as goal

five : (c : Else-not-number_allowed) → number_allowed c.args.row.number ≡ true
five c = sym c.number_allowed.ensures ∙ c.if-not-number_allowed.false

six : (c : Else-not-coordinates_allowed) → coordinates_allowed (as_row c.args.row).trial ≡ true
six c = sym c.coordinates_allowed.ensures ∙ c.if-not-coordinates_allowed.false

seven : (c : After-find) → held c.args.row.number (held_trials (read c.args.w.now)) ≡ is_some c.find.result
seven c = find_held _ _ _ c.find.ensures.found ∙ sym (found_some _ _ c.find.ensures.within)

pub returns-then-not-number_allowed : goal.returns-then-not-number_allowed
returns-then-not-number_allowed c = sym (admission_5 _ _ 0 (sym c.number_allowed.ensures ∙ c.if-not-number_allowed.true))

pub returns-then-not-coordinates_allowed : goal.returns-then-not-coordinates_allowed
returns-then-not-coordinates_allowed c =
    sym (admission_6 _ _ 0 (five (goal.at.returns-then-not-coordinates_allowed c).Else-not-number_allowed) (sym c.coordinates_allowed.ensures ∙ c.if-not-coordinates_allowed.true))

pub find-requires : goal.find-requires
find-requires c = (known c.args.w.now c.requires).records_long

pub returns-then-is_some : goal.returns-then-is_some
returns-then-is_some c =
    let at = goal.at.returns-then-is_some c in
    sym (admission_7 _ _ 0 (five at.Else-not-number_allowed) (six at.Else-not-coordinates_allowed) (seven at.After-find ∙ sym c.is_some.ensures ∙ c.if-is_some.true))

pub bounds-w-0 : goal.bounds-w-0
bounds-w-0 c = omega (arith, known c.args.w.now c.requires)

pub bounds-w-1 : goal.bounds-w-1
bounds-w-1 c = omega (arith, known c.args.w.now c.requires)

pub returns-then-w : goal.returns-then-w
unfolding read read_shape
returns-then-w c =
    let at = goal.at.returns-then-w c in
    sym (admission_8 _ _ 0 (five at.Else-not-number_allowed) (six at.Else-not-coordinates_allowed) (seven at.After-find ∙ sym c.is_some.ensures ∙ c.if-is_some.false) (count_rows c.args.w.now ∙ c.if-w.true))

pub returns : goal.returns
unfolding read read_shape
returns c =
    let at = goal.at.returns c in
    sym (admission_passed _ _ 0 (five at.Else-not-number_allowed) (six at.Else-not-coordinates_allowed) (seven at.After-find ∙ sym c.is_some.ensures ∙ c.if-is_some.false) (λ e. c.if-w.false (sym (count_rows c.args.w.now) ∙ e)))
