-- `within` meets its contract: the test of each place with its count tells of all amounts.
use Prim.Native.Nat.{◌+◌}
use mathlib.Core.Path.{refl, sym, ap, ◌∙◌}
use native.Mathlib.Omega.{arith}
use lib.Dec.{ltb}
use lib.ListN.{get_or}
use borrow.Author.Rules.{rules}
use Rattle.records.proofs.amounts.KeptWords.{none_above, word_but_inside, contribution_but}
use Rattle.records.proofs.amounts.Passing.{passing}
use Rattle.records.proofs.amounts.within.Goals as goal

pub none_passes-requires-clause-asked : goal.none_passes-requires-clause-asked
none_passes-requires-clause-asked c k l =
    let p = get_or c.args.places.now k 0 in
    let inside = c.requires.n_in_bounds.2.inside k l in
    let here = contribution_but c.args.w.now _ _ p _ c.requires.n_in_bounds.0 c.requires.n_in_bounds.1 inside refl in
    (omega (arith, c.type_inv.places k), word_but_inside c.args.w.now _ _ p _ c.requires.n_in_bounds.0 c.requires.n_in_bounds.1 inside refl, omega (arith, here, c.requires.each.0 p, c.requires.each.1 k))

pub returns : goal.returns
returns c =
    passing (none_above c.args.w.now _ _ _ c.requires.n_in_bounds.1 c.requires.n_in_bounds.2 c.requires.each.0) c.none_passes.ensures
    (λ k l b t. ap (λ v. ltb c.args.limit (v + get_or c.args.counts.now k 0)) (sym (contribution_but c.args.w.now _ _ _ _ c.requires.n_in_bounds.0 c.requires.n_in_bounds.1 (c.requires.n_in_bounds.2.inside k l) refl)) ∙ search rules)
