-- Whole numbers in double precision (document 02, W-207). The arithmetic is that of IEEE 754, to the nearest and ties to even,
-- as the toolchain's `lib.Ieee` computes it.
use Rattle.std.specs.Prelude.{◌≡◌, ℕ, ◌+◌, ◌≤◌, true, false, List, [], ◌∷◌, pos, nat_le, Float}
use Rattle.std.specs.Float.{fin, binary64}
use Rattle.std.specs.Float.Ieee.{add, mul, of_int, to_unsigned, eq}
use Rattle.std.specs.Float.Ieee.Exact.{HasValue}
use Rattle.slices.specs.Choices.{both, pick}
use Rattle.layers.specs.Layers.{Layer}

-- The double is this whole number, with no minus.
abbrev pub Whole : Float → ℕ → Type 0
Whole x n = HasValue x false n 1

-- The double that is a whole number, rounded where there is none.
unfoldable pub double : ℕ → Float
double n = of_int binary64 (pos n)

-- The whole number up to 1,048,576 that a double equals, or 1,048,577 where it equals none. `eq` is the comparison of IEEE 754, so
-- this is "minus zero as zero"; `to_unsigned` leaves out what stands behind the point.
unfoldable pub number_of : Float → ℕ
number_of x = pick (both (nat_le (to_unsigned 64 x) 1048576) (eq (double (to_unsigned 64 x)) x)) (to_unsigned 64 x) 1048577

-- "The sum starts at zero."
abbrev pub zero_double : Float
zero_double = fin false 0 (pos 0)

-- "The slice's area is multiplied by its height and the product added, each step rounded once."
unfoldable pub with_layer : Float → Layer → Float
with_layer sum l = add binary64 sum (mul binary64 (double l.area) (double l.height))

-- The layers in turn.
unfoldable pub sum_from : Float → List Layer → Float
sum_from sum [] = sum
sum_from sum (l ∷ ls) = sum_from (with_layer sum l) ls

-- m and n are at most d apart.
pub record Within (m n d : ℕ) : Type 0 where
  pub above : m ≤ n + d
  pub below : n ≤ m + d

-- The double is a whole number at most d away from n.
pub record About (x : Float) (n d : ℕ) : Type 0 where
  pub value : ℕ
  pub whole : Whole x value
  pub within : Within value n d

-- What a double is read as (proofs/Reading): it is that number, or minus zero where that is 0; and it is read as 1,048,577 just where
-- it is no number up to 1,048,576.
pub data IsNumber (x : Float) (n : ℕ) : Type 0 where
  plain : Whole x n → IsNumber x n
  minus_zero : HasValue x true 0 1 → n ≡ 0 → IsNumber x n

pub record ReadsNumbers : Type 0 where
  pub limit : (x : Float) → number_of x ≤ 1048577
  pub value : (x : Float) → number_of x ≤ 1048576 → IsNumber x (number_of x)
  pub all : (x : Float) (n : ℕ) → n ≤ 1048576 → IsNumber x n → number_of x ≡ n
