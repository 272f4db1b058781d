-- `replace_in` meets its contract: rows 9 and 6, or the change at the place found.
use mathlib.Core.Path.{◌≡◌, sym, ap, subst, ◌∙◌}
use mathlib.Core.Bool.{true}
use native.Mathlib.Omega.{arith}
use Rattle.std.proofs.lemmas.Result.{err_from_is_err_and}
use Rattle.hypervolume.specs.Sorted.{Small}
use Rattle.words.specs.Archive.{point}
use Rattle.words.specs.Format.{coordinates_allowed}
use Rattle.words.specs.Places.{as_row, row_at}
use Rattle.words.proofs.Passed.{coordinates_small}
use Rattle.calls.specs.Replacement.{difference}
use Rattle.calls.proofs.Known.{known}
use Rattle.ask.proofs.Finding.{HeldAt, found_at, found_nowhere, none_refused}
use Rattle.replacement.specs.Others.{gain_but}
use Rattle.replacement.proofs.Differences.{through}
use Rattle.replacement.proofs.Places.{gain_few, change_there, effect_absent, effect_beyond, effect_done}
use Rattle.replacement.proofs.replace_in.Goals.{In_ok-i, Else-not-coordinates_allowed}
use Rattle.replacement.proofs.replace_in.Goals as goal

here : (c : In_ok-i) → HeldAt c.args.w.now c.args.number c.in_ok-i.i
here c = found_at _ _ _ _ c.find.ensures.found c.find.ensures.within c.in_ok-i.ensures.ok_part

allowed : (c : Else-not-coordinates_allowed) → coordinates_allowed (as_row c.args.row).trial ≡ true
allowed c = sym c.coordinates_allowed.ensures ∙ c.if-not-coordinates_allowed.false

pub find-requires : goal.find-requires
find-requires c = (known c.args.w.now c.requires).records_long

pub returns-in_err-i : goal.returns-in_err-i
returns-in_err-i c =
    let p = err_from_is_err_and c.from_residual.result c.from_residual.ensures.1 in
    rw (p.1, p.2, none_refused _ _ _ c.in_err-i.ensures.value c.in_err-i.ensures.ok_part)
    (effect_absent c.args.w.now _ _ c.requires (found_nowhere _ _ _ c.find.ensures.found c.in_err-i.ensures.ok_part))

pub returns-then-not-coordinates_allowed : goal.returns-then-not-coordinates_allowed
returns-then-not-coordinates_allowed c = effect_beyond c.args.w.now _ _ c.requires (here (goal.at.returns-then-not-coordinates_allowed c).In_ok-i).known (sym c.coordinates_allowed.ensures ∙ c.if-not-coordinates_allowed.true)

pub new-p-requires : goal.new-p-requires
new-p-requires c =
    let small = coordinates_small _ (allowed (goal.at.new-p-requires c).Else-not-coordinates_allowed) in
    (omega (arith, small 0), omega (arith, small 1), omega (arith, small 2))

pub change_at-requires : goal.change_at-requires
change_at-requires c =
    let at = goal.at.change_at-requires c in
    (c.requires, (here at.In_ok-i).inside, subst (λ q. Small q) (sym c.new-p.ensures) (coordinates_small (as_row c.args.row).trial (allowed at.Else-not-coordinates_allowed)))

pub returns : goal.returns
returns c =
    let at = goal.at.returns c in
    let place = here at.In_ok-i in
    effect_done c.args.w.now _ (as_row c.args.row).trial c.requires _ place.known (allowed at.Else-not-coordinates_allowed)
    (through _ (gain_few c.args.w.now _ _ c.requires) _ (gain_few c.args.w.now _ _ c.requires) _
    (c.change_at.ensures ∙ ap (λ q. difference (gain_but c.args.w.now c.in_ok-i.i q) (gain_but c.args.w.now c.in_ok-i.i (point (row_at c.args.w.now c.in_ok-i.i).trial))) c.new-p.ensures)
    ∙ sym (change_there c.args.w.now _ _ (as_row c.args.row).trial c.requires place.inside place.there place.known))
