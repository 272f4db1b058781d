-- `rank` meets its contract: the entries that are left say the rest.
use native.Mathlib.Omega.{arith}
use Rattle.hypervolume.proofs.Tests.{holds_small}
use Rattle.line.proofs.RankLaws.{between_one, between_two, between_none}
use Rattle.line.proofs.rank.Goals as goal

pub overflow_add-result : goal.overflow_add-result
overflow_add-result c = record { fits = omega (arith, holds_small _ c.reaches.ensures, c.narrow-range.ensures.0.within) }

pub overflow_add-result-then-range-eq2 : goal.overflow_add-result-then-range-eq2
overflow_add-result-then-range-eq2 c = record { fits = omega (arith, holds_small _ c.reaches.ensures, holds_small _ c.reaches-then-range-eq2.ensures, c.narrow-range.ensures.0.within) }

pub returns-then-range-eq2 : goal.returns-then-range-eq2
returns-then-range-eq2 c = between_none (between_two c.narrow-range.ensures.0 c.if-range-eq2.true c.reaches.ensures c.reaches-then-range-eq2.ensures) (omega arith)

pub overflow_add-result-then-range-eq1 : goal.overflow_add-result-then-range-eq1
overflow_add-result-then-range-eq1 c = record { fits = omega (arith, holds_small _ c.reaches-then-range-eq1.ensures, c.narrow-range.ensures.0.within) }

pub returns-then-range-eq1 : goal.returns-then-range-eq1
returns-then-range-eq1 c = between_none (between_one c.narrow-range.ensures.0 c.if-range-eq1.true c.reaches-then-range-eq1.ensures) (omega arith)
