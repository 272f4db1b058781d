-- The points that the test makes are as the sweep asks.
use Rattle.std.proofs.Common.{◌≡◌, ℕ, suc, ◌≤◌, ◌<◌, List, [], arith, length, take, get_or, length-take}
use Rattle.std.proofs.Math.Decide.{dec_le}
use Rattle.std.proofs.Math.ListN.{get_or-eq_default}
use Rattle.std.proofs.Math.Seq.{get_or-take}
use Rattle.hypervolume.specs.Sorted.{Small, Sorted}

-- The first i points are small, and ascend up to z.
pub record Filled (old points : List (List ℕ)) (z i : ℕ) : Type 0 where
  pub alike : length points ≡ length old
  pub short : length old ≤ 12
  pub within : i ≤ length old
  pub low : z ≤ i
  pub axes : (k : ℕ) → k < i → length (get_or points k []) ≡ 3
  pub small : (k : ℕ) → k < i → Small (get_or points k [])
  pub last : (k : ℕ) → k < i → get_or (get_or points k []) 2 0 ≤ z
  pub up : (k : ℕ) → suc k < i → get_or (get_or points k []) 2 0 ≤ get_or (get_or points (suc k) []) 2 0

-- The first n points.
sorted_take : (n : ℕ) (points : List (List ℕ)) → Sorted points → Sorted (take n points)
sorted_take n points h =
    record {
      few = omega (arith, h.few, length-take n points);
      axes = λ k l. rw (here k (omega (arith, length-take n points))) (h.axes k (omega (arith, length-take n points)));
      small = λ k. small k (dec_le (suc k) n);
      rising = λ k l. rw (here k (omega (arith, length-take n points)), here (suc k) (omega (arith, length-take n points))) (h.rising k (omega (arith, length-take n points)));
    }
  where
    here : (k : ℕ) → k < n → get_or (take n points) k [] ≡ get_or points k []
    here k a = get_or-take n points k [] a

    small : (k : ℕ) → Dec (k < n) → Small (get_or (take n points) k [])
    small k (yes a) b = rw (here k a) (h.small k b)
    small k (no a) b =
        rw (get_or-eq_default (take n points) [] {n = k} (omega (arith, length-take n points))) (omega arith)

pub sorted_part : (n : ℕ) (points : List (List ℕ)) → n ≤ 12 → Sorted points → Sorted (take n points) × (length (take n points) ≤ 12)
sorted_part n points l h = (sorted_take n points h, omega (arith, length-take n points))
