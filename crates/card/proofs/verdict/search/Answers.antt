-- `card::verdict::search` meets its contract. The loop's invariant: the number is taken if one of the first i lines has
-- it.
use mathlib.Core.Path.{refl, ◌∙◌}
use native.Mathlib.Omega.{arith}
use Rattle.card.proofs.verdict.FurtherLines.{found_number, searched_more, searched_stop, searched_end}
use Rattle.card.proofs.verdict.search.Goals as goal

pub loop-i-init : goal.loop-i-init
loop-i-init c = record { inside = omega arith; left = refl }

pub returns-then-eq : goal.returns-then-eq
returns-then-eq c = searched_stop _ _ _ _ c.loop-i.invariant c.loop-i-test.true (c.if-eq.ensures ∙ found_number _ _ c.requires.1 c.number_at.ensures)

pub loop-i-preserved : goal.loop-i-preserved
loop-i-preserved c = searched_more _ _ _ _ c.loop-i.invariant c.loop-i-test.true (c.if-eq.ensures ∙ found_number _ _ c.requires.1 c.number_at.ensures)

pub returns : goal.returns
returns c = searched_end _ _ _ _ c.loop-i.invariant c.loop-i-test.false
