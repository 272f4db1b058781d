-- Rounding (document 02, W-204): n divided by d, "rounded to the nearest, and a tie goes to the even number", for any
-- n and any d but 0. `nearest` works it out; the theorem says it from outside.
use Rattle.std.specs.Prelude.{ℕ, ◌+◌, ◌-◌, ◌*◌, ◌/◌, ◌%◌, ◌≤◌, ◌≡◌, ltb, eqb}
use Rattle.slices.specs.Choices.{pick}

-- "The even number" of k and the number behind it.
unfoldable pub even_of : ℕ → ℕ
even_of k = pick (eqb (k % 2) 0) k (k + 1)

-- "Rounded to the nearest", from the quotient q and the rest r: q where the rest is less than half of d, the number
-- behind it where the rest is more than half; at half, "a tie", the even one of the two.
unfoldable pub rounded : ℕ → ℕ → ℕ → ℕ
rounded q r d = pick (ltb (2 * r) d) q (pick (ltb d (2 * r)) (q + 1) (even_of q))

unfoldable pub nearest : ℕ → ℕ → ℕ
nearest n d = rounded (n / d) (n % d) d

-- How far two numbers are from each other.
unfoldable pub distance : ℕ → ℕ → ℕ
distance m n = m - n + (n - m)

-- a is as near to n divided by d as a whole number can be: a × d is at most half of d from n; at half, a is even.
pub record IsNearest (n d a : ℕ) : Type 0 where
  pub near : 2 * distance (a * d) n ≤ d
  pub tie_even : 2 * distance (a * d) n ≡ d → a % 2 ≡ 0

-- `nearest` is so and nothing else is; a whole quotient is kept, and more rounds to no less.
pub record RoundsToNearest : Type 0 where
  pub is : (n d : ℕ) → 1 ≤ d → IsNearest n d (nearest n d)
  pub only : (n d a : ℕ) → 1 ≤ d → IsNearest n d a → a ≡ nearest n d
  pub exact : (k d : ℕ) → 1 ≤ d → nearest (k * d) d ≡ k
  pub rising : (m n d : ℕ) → 1 ≤ d → m ≤ n → nearest m d ≤ nearest n d
