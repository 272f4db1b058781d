-- `raise_at` meets its contract: each step adds.
use Prim.Native.Nat.{◌+◌}
use native.Mathlib.Omega.{arith}
use borrow.Author.Rules.{rules}
use Rattle.records.proofs.amounts.raise_at.Goals as goal

pub move_at-requires-clause-moves : goal.move_at-requires-clause-moves
move_at-requires-clause-moves c = ((λ v m. v + m), record { still = λ v. omega arith; moves = λ k l r t. search rules })
