-- `lower_at` meets its contract: no count is above its contribution, so each step subtracts.
use Prim.Native.Nat.{ℕ, ◌-◌, ◌≤◌}
use mathlib.Core.List.{List}
use native.Mathlib.Omega.{arith}
use lib.Dec.{ltb}
use lib.ListN.{get_or}
use borrow.Author.Rules.{rules}
use borrow.Author.Tests.{ltb-false}
use Rattle.slices.proofs.PlacedLoops.{no_pair_here}
use Rattle.words.specs.Places.{rows_before}
use Rattle.records.specs.Columns.{column}
use Rattle.records.proofs.amounts.KeptWords.{kept_none}
use Rattle.records.proofs.amounts.lower_at.Goals as goal

pub move_at-requires-clause-asked : goal.move_at-requires-clause-asked
move_at-requires-clause-asked c k l =
    let held : List ℕ = column 4 (rows_before c.args.w.now c.args.n) in
    let low : get_or c.args.counts.now k 0 ≤ get_or held (get_or c.args.places.now k 0) 0 =
    ltb-false _ _ (no_pair_here (λ v m. ltb v m) held k (kept_none c.args.w.now c.args.n c.requires.n_in_bounds.0).many c.requires.n_in_bounds.1 c.requires.counts_value l) in
    search rules

pub move_at-requires-clause-moves : goal.move_at-requires-clause-moves
move_at-requires-clause-moves c = ((λ v m. v - m), record { still = λ v. omega arith; moves = λ k l r t. search rules })
