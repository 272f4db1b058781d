-- `least_in` meets its contract: row 18, row 14, or the record at the place found.
use mathlib.Core.Bool.{true}
use mathlib.Core.Path.{◌≡◌, sym, ◌∙◌}
use native.Mathlib.Omega.{arith}
use Rattle.words.specs.Places.{as_record}
use Rattle.calls.specs.Calls.{rule_allowed}
use Rattle.calls.proofs.Known.{known}
use Rattle.ask.proofs.questions.Asking.{least_unruled, least_none_held, least_found}
use Rattle.ask.proofs.questions.least_in.Goals.{Else-not-rule_allowed}
use Rattle.ask.proofs.questions.least_in.Goals as goal

allowed : (c : Else-not-rule_allowed) → rule_allowed c.args.rule ≡ true
allowed c = sym c.rule_allowed.ensures ∙ c.if-not-rule_allowed.false

pub returns-then-not-rule_allowed : goal.returns-then-not-rule_allowed
returns-then-not-rule_allowed c = least_unruled c.args.w.now _ c.requires (sym c.rule_allowed.ensures ∙ c.if-not-rule_allowed.true)

pub bounds-w-0 : goal.bounds-w-0
bounds-w-0 c = omega (arith, known c.args.w.now c.requires)

pub returns-then-n-eq0 : goal.returns-then-n-eq0
returns-then-n-eq0 c = least_none_held c.args.w.now _ c.requires (allowed (goal.at.returns-then-n-eq0 c).Else-not-rule_allowed) c.if-n-eq0.true

pub returns : goal.returns
returns c = least_found c.args.w.now _ c.requires (as_record c.record_at-least.result) (allowed (goal.at.returns c).Else-not-rule_allowed) c.if-n-eq0.false (c.record_at-least.ensures ∙ c.least_place.ensures.1)
