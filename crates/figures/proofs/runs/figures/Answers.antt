-- `figures` meets its contract: the number is judged first.
use Prim.Native.Nat.{ℕ, ◌≤◌}
use mathlib.Core.Path.{◌≡◌, refl, sym}
use native.Mathlib.Omega.{arith}
use lib.ListN.{length, take, replicate}
use lib.Seq.{length-take-le}
use Rattle.figures.proofs.Answering.{number_refused, number_allowed, numbered}
use Rattle.figures.proofs.runs.figures.Goals.{Else-not-within}
use Rattle.figures.proofs.runs.figures.Goals as goal

-- The number is one of a few, and so many places are lent.
few : (c : Else-not-within) → (1 ≤ c.args.number) × (c.args.number ≤ 15)
few c = numbered _ c.within.ensures c.if-not-within.false

long : (c : Else-not-within) → length (take {A = ℕ} c.args.number (replicate 15 0)) ≡ c.args.number
long c = length-take-le _ (replicate 15 0) (few c).1

pub returns-then-not-within : goal.returns-then-not-within
returns-then-not-within c = number_refused _ _ c.within.ensures (c.if-not-within.true) refl

pub slice_bounds-starts-end : goal.slice_bounds-starts-end
slice_bounds-starts-end c = (few (goal.at.slice_bounds-starts-end c).Else-not-within).1

pub slice_bounds-figures_in-end : goal.slice_bounds-figures_in-end
slice_bounds-figures_in-end c = sym (long (goal.at.slice_bounds-figures_in-end c).Else-not-within)

pub figures_in-requires : goal.figures_in-requires
figures_in-requires c =
    let k : Else-not-within = (goal.at.figures_in-requires c).Else-not-within in
    (omega (arith, long k, (few k).0), omega (arith, long k, (few k).1))

pub returns : goal.returns
returns c =
    number_allowed _ _ (long (goal.at.returns c).Else-not-within) c.within.ensures c.if-not-within.false c.figures_in.ensures
