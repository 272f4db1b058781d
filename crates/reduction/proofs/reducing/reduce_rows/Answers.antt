-- `reduce_rows` meets its contract: rows 18 and 11 to 13 in turn.
use mathlib.Core.Bool.{true}
use mathlib.Core.Path.{◌≡◌, sym, ◌∙◌}
use native.Mathlib.Omega.{arith}
use Rattle.calls.specs.Calls.{rule_allowed}
use Rattle.calls.proofs.Known.{known}
use Rattle.reduction.proofs.reducing.Rows.{rows_18, rows_11, rows_12, rows_13, rows_none}
use Rattle.reduction.proofs.reducing.reduce_rows.Goals.{Else-not-rule_allowed}
use Rattle.reduction.proofs.reducing.reduce_rows.Goals as goal

ruled : (c : Else-not-rule_allowed) → rule_allowed c.args.rule ≡ true
ruled c = sym c.rule_allowed.ensures ∙ c.if-not-rule_allowed.false

pub returns-then-not-rule_allowed : goal.returns-then-not-rule_allowed
returns-then-not-rule_allowed c = rows_18 c.args.w.now _ _ _ (sym c.rule_allowed.ensures ∙ c.if-not-rule_allowed.true)

pub bounds-w-0 : goal.bounds-w-0
bounds-w-0 c = omega (arith, known c.args.w.now c.requires)

pub returns-then-w-k : goal.returns-then-w-k
returns-then-w-k c = rows_11 c.args.w.now _ _ _ (ruled (goal.at.returns-then-w-k c).Else-not-rule_allowed) c.if-w-k.true

pub bounds-w-0-2 : goal.bounds-w-0-2
bounds-w-0-2 c = omega (arith, known c.args.w.now c.requires)

pub overflow_mul-drops : goal.overflow_mul-drops
overflow_mul-drops c = omega (arith, known c.args.w.now c.requires)

pub returns-then-log-drops : goal.returns-then-log-drops
returns-then-log-drops c = rows_12 c.args.w.now _ _ _ (ruled (goal.at.returns-then-log-drops c).Else-not-rule_allowed) c.if-w-k.false c.if-log-drops.true

pub returns-then-not-audited : goal.returns-then-not-audited
returns-then-not-audited c = rows_13 c.args.w.now _ _ _ (ruled (goal.at.returns-then-not-audited c).Else-not-rule_allowed) c.if-w-k.false c.if-log-drops.false _ c.audited.ensures c.if-not-audited.true

pub returns : goal.returns
returns c = rows_none c.args.w.now _ _ _ (ruled (goal.at.returns c).Else-not-rule_allowed) c.if-w-k.false c.if-log-drops.false _ c.audited.ensures c.if-not-audited.false
