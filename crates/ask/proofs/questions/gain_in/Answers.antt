-- `gain_in` meets its contract: row 6, or the gain over all records.
use mathlib.Core.Bool.{true}
use mathlib.Core.Path.{◌≡◌, sym, subst, ◌∙◌}
use native.Mathlib.Nat.{le_refl}
use native.Mathlib.Omega.{arith}
use Rattle.hypervolume.specs.Sorted.{Small}
use Rattle.words.specs.Format.{coordinates_allowed}
use Rattle.words.specs.Places.{as_row}
use Rattle.calls.specs.Lent.{gain_answer}
use Rattle.calls.proofs.Known.{known}
use Rattle.ask.proofs.questions.Asking.{answer_row, answer_value, gain_refused, gain_passes}
use Rattle.words.proofs.Passed.{coordinates_small}
use Rattle.ask.proofs.CountedAmounts.{all_gain}
use borrow.Author.Rules.{rules}
use Rattle.ask.proofs.questions.gain_in.Goals.{Else-not-coordinates_allowed}
use Rattle.ask.proofs.questions.gain_in.Goals as goal

allowed : (c : Else-not-coordinates_allowed) → coordinates_allowed (as_row c.args.row).trial ≡ true
allowed c = sym c.coordinates_allowed.ensures ∙ c.if-not-coordinates_allowed.false

pub returns-then-not-coordinates_allowed : goal.returns-then-not-coordinates_allowed
unfolding gain_answer
returns-then-not-coordinates_allowed c = answer_row c.args.w.now 5 _ _ c.requires (gain_refused _ (sym c.coordinates_allowed.ensures ∙ c.if-not-coordinates_allowed.true))

pub bounds-w-0 : goal.bounds-w-0
bounds-w-0 c = omega (arith, known c.args.w.now c.requires)

pub new-p-requires : goal.new-p-requires
new-p-requires c =
    let small = coordinates_small _ (allowed (goal.at.new-p-requires c).Else-not-coordinates_allowed) in
    (omega (arith, small 0), omega (arith, small 1), omega (arith, small 2))

pub count_joints-counted-requires : goal.count_joints-counted-requires
count_joints-counted-requires c =
    (c.requires, le_refl _, search rules, search rules, subst (λ q. Small q) (sym c.new-p.ensures) (coordinates_small (as_row c.args.row).trial (allowed (goal.at.count_joints-counted-requires c).Else-not-coordinates_allowed)))

pub returns : goal.returns
unfolding gain_answer
returns c =
    answer_value c.args.w.now _ _ _ c.requires (gain_passes _ (allowed (goal.at.returns c).Else-not-coordinates_allowed))
    (all_gain (as_row c.args.row).trial c.new-p.ensures c.count_joints-counted.ensures)
