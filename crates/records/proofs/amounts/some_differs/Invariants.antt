-- `some_differs` meets its contract: the pairs passed do not decide, so what is left does.
use mathlib.Core.Bool.{not}
use lib.ListN.{length}
use lib.Dec.{eqb}
use Rattle.slices.proofs.PairLoops.{Seeking}
use Rattle.words.specs.Places.{rows_before}
use Rattle.records.specs.Columns.{column}
use Rattle.records.proofs.amounts.some_differs.Given as goal

abbrev pub invariant-loop-i : goal.invariant-loop-i
invariant-loop-i l = Seeking (λ v m. not (eqb v m)) (column 4 (rows_before l.w (length l.counts))) l.counts l.i
