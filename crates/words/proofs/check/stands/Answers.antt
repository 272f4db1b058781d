-- `stands` meets its contract: the record and its order first, then its number, by the table's bit or by a search.
use mathlib.Core.Path.{ap}
use Rattle.words.proofs.check.StandsLaws.{first_failed, stands_test, stands_unmet, stands_searched}
use mathlib.Core.Bool.{not}
use Rattle.words.proofs.check.stands.Goals as goal

pub returns-then-not-both : goal.returns-then-not-both
returns-then-not-both c =
    first_failed _ _ _ (stands_test _ _ _ _ _ _ _ c.shape_of.ensures c.row_at-row.ensures c.row_allowed.ensures c.follows.ensures c.both.ensures) (ap not c.if-not-both.true)

pub returns-then-not-met : goal.returns-then-not-met
returns-then-not-met c =
    stands_unmet _ _ _ (stands_test _ _ _ _ _ _ _ c.shape_of.ensures c.row_at-row.ensures c.row_allowed.ensures c.follows.ensures c.both.ensures) (ap not c.if-not-both.false) (c.requires.unmet (c.if-not-met.true))

pub returns : goal.returns
returns c =
    stands_searched _ _ _ _ _ _ _ (stands_test _ _ _ _ _ _ _ c.shape_of.ensures c.row_at-row.ensures c.row_allowed.ensures c.follows.ensures c.both.ensures) (ap not c.if-not-both.false) c.row_at-row.ensures c.search.ensures.found c.search.ensures.within c.is_none.ensures
