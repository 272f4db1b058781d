-- `records_allowed` meets its contract: the records decide, or leave it to the unused words.
use mathlib.Core.Path.{◌∙◌, sym, ap}
use native.Mathlib.Omega.{arith}
use Rattle.slices.specs.Choices.{both}
use Rattle.words.specs.Format.{zeros, unused, records_allowed}
use Rattle.words.specs.Layout.{extent}
use Rattle.words.proofs.Passed.{header_facts}
use Rattle.words.proofs.check.ZerosLaws.{part_of}
use Rattle.words.proofs.check.records_allowed.Goals as goal

pub returns-then-not-rows_allowed : goal.returns-then-not-rows_allowed
unfolding records_allowed both
returns-then-not-rows_allowed c = rw (sym c.rows_allowed.ensures ∙ c.if-not-rows_allowed.true)

pub returns : goal.returns
unfolding records_allowed unused extent both
returns c =
    let facts = header_facts _ c.requires in
    rw (sym c.rows_allowed.ensures ∙ c.if-not-rows_allowed.false)
    (c.zeros.ensures ∙ ap zeros (part_of _ _ c.args.w.now (omega arith)))
