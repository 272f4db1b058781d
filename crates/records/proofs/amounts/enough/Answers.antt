-- `enough` meets its contract: the test of each place with its count tells of all amounts.
use mathlib.Core.Path.{sym, ap, ◌∙◌}
use lib.Dec.{ltb}
use lib.ListN.{get_or}
use borrow.Author.Rules.{rules}
use Rattle.records.proofs.amounts.KeptWords.{none_below, contribution_at}
use Rattle.records.proofs.amounts.Passing.{passing}
use Rattle.records.proofs.amounts.enough.Goals as goal

pub returns : goal.returns
returns c =
    passing (none_below c.args.w.now _ c.requires.0 c.requires.1) c.none_passes.ensures
    (λ k l b t. ap (λ v. ltb v (get_or c.args.counts.now k 0)) (sym (contribution_at c.args.w.now _ _ c.requires.0 (c.requires.1.inside k l))) ∙ search rules)
