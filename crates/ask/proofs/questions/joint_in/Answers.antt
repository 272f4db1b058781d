-- `joint_in` meets its contract: rows 9 and 10, then the joint count of the trials at the places found.
use mathlib.Core.Path.{ap₂, ◌∙◌}
use Rattle.words.specs.Layout.{read}
use Rattle.calls.specs.Calls.{joint_of}
use Rattle.calls.specs.Lent.{joint}
use Rattle.calls.proofs.Known.{known}
use Rattle.std.proofs.lemmas.Result.{err_from_is_err_and}
use Rattle.ask.proofs.Finding.{HeldAt, found_at, found_nowhere, none_refused}
use Rattle.ask.proofs.questions.Asking.{answer_row, answer_value, joint_first_absent, joint_second_absent, joint_same_number, joint_passes}
use Rattle.ask.proofs.questions.joint_in.Goals.{In_ok-i, In_ok-k}
use Rattle.ask.proofs.questions.joint_in.Goals as goal

first_held : (c : In_ok-i) → HeldAt c.args.w.now c.args.first c.in_ok-i.i
first_held c = found_at _ _ _ _ c.find.ensures.found c.find.ensures.within c.in_ok-i.ensures.ok_part

second_held : (c : In_ok-k) → HeldAt c.args.w.now c.args.second c.in_ok-k.k
second_held c = found_at _ _ _ _ c.find-2.ensures.found c.find-2.ensures.within c.in_ok-k.ensures.ok_part

pub find-requires : goal.find-requires
find-requires c = (known c.args.w.now c.requires).records_long

pub find-requires-2 : goal.find-requires-2
find-requires-2 c = (known c.args.w.now c.requires).records_long

pub returns-in_err-i : goal.returns-in_err-i
unfolding joint
returns-in_err-i c =
    let p = err_from_is_err_and c.from_residual.result c.from_residual.ensures.1 in
    rw (p.1, p.2, none_refused _ _ _ c.in_err-i.ensures.value c.in_err-i.ensures.ok_part)
    (answer_row c.args.w.now 8 _ _ c.requires (joint_first_absent _ _ _ (found_nowhere _ _ _ c.find.ensures.found c.in_err-i.ensures.ok_part)))

pub returns-in_err-k : goal.returns-in_err-k
unfolding joint
returns-in_err-k c =
    let p = err_from_is_err_and c.from_residual-in_err-k.result c.from_residual-in_err-k.ensures.1 in
    rw (p.1, p.2, none_refused _ _ _ c.in_err-k.ensures.value c.in_err-k.ensures.ok_part)
    (answer_row c.args.w.now 8 _ _ c.requires (joint_second_absent _ _ _ (first_held (goal.at.returns-in_err-k c).In_ok-i).known (found_nowhere _ _ _ c.find-2.ensures.found c.in_err-k.ensures.ok_part)))

pub returns-then-first-second : goal.returns-then-first-second
unfolding joint
returns-then-first-second c =
    let at = goal.at.returns-then-first-second c in
    answer_row c.args.w.now 9 _ _ c.requires (joint_same_number _ _ _ (first_held at.In_ok-i).known (second_held at.In_ok-k).known c.if-first-second.true)

pub returns : goal.returns
unfolding joint
returns c =
    let at = goal.at.returns c in
    let first = first_held at.In_ok-i in
    let second = second_held at.In_ok-k in
    answer_value c.args.w.now _ _ _ c.requires (joint_passes _ _ _ first.known second.known c.if-first-second.false) (c.joint_at.ensures ∙ ap₂ (joint_of (read c.args.w.now)) first.there second.there)
