-- `text::field_at` meets its contract: each turn skips one space (proofs/FieldAt, Skipped).
use mathlib.Core.Path.{◌∙◌}
use Rattle.text.proofs.FieldAt.{skipped_none, skipped_part, skipped_more, skipped_stop, skipped_end}
use Rattle.text.proofs.field_at.Goals as goal

pub loop-i-init : goal.loop-i-init
loop-i-init c = skipped_none _ _ c.requires

pub loop-i-preserved : goal.loop-i-preserved
loop-i-preserved c =
    skipped_more c.requires c.loop-i.invariant c.loop-i-test.true
    c.if-s-i-ne32.false

pub number-requires : goal.number-requires
number-requires c =
    skipped_part c.requires c.loop-i.invariant c.loop-i-test.true

pub returns-then-s-i-ne32 : goal.returns-then-s-i-ne32
returns-then-s-i-ne32 c =
    c.number.ensures
    ∙ skipped_stop c.requires c.loop-i.invariant
    c.loop-i-test.true
    c.if-s-i-ne32.true

pub returns : goal.returns
returns c = skipped_end c.requires c.loop-i.invariant c.loop-i-test.false
