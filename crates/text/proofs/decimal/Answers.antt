-- `text::decimal` meets its contract: each turn takes one digit (proofs/FieldAt, Valued).
use mathlib.Core.Path.{sym, ◌∙◌}
use native.Mathlib.Omega.{arith}
use Rattle.text.specs.Fields.{is_digit}
use Rattle.text.proofs.FieldAt.{valued_none, valued_small, valued_more, valued_stop, valued_end}
use Rattle.text.proofs.decimal.Goals as goal

pub loop-i-init : goal.loop-i-init
loop-i-init c = valued_none _ _ _ c.requires

pub overflow_mul-v : goal.overflow_mul-v
overflow_mul-v c =
    omega (
      arith,
      valued_small c.requires c.loop-i.invariant,
    )

pub overflow_add-v : goal.overflow_add-v
overflow_add-v c = omega (arith, valued_small c.requires c.loop-i.invariant, c.from.ensures)

pub loop-i-preserved : goal.loop-i-preserved
unfolding is_digit
loop-i-preserved c =
    valued_more c.requires c.loop-i.invariant
    c.loop-i-test.true
    (sym c.is_ascii_digit.ensures.value ∙ c.if-not-is_ascii_digit.false)
    c.from.ensures

pub returns-then-not-is_ascii_digit : goal.returns-then-not-is_ascii_digit
unfolding is_digit
returns-then-not-is_ascii_digit c =
    valued_stop c.requires c.loop-i.invariant
    c.loop-i-test.true
    (sym c.is_ascii_digit.ensures.value ∙ c.if-not-is_ascii_digit.true)

pub returns : goal.returns
returns c = valued_end c.requires c.loop-i.invariant c.loop-i-test.false
