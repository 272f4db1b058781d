-- The table in which a check, of words or of a card, notes the numbers that it has met: 65,536 bits in 1,024 words, so
-- that a number twice costs no pass over all pairs. A number's bit is at the number mod 65,536; two numbers may share one.
use Rattle.std.specs.Prelude.{ℕ, ◌/◌, ◌%◌, ◌^◌, Bool, true, ◌≡◌, List, eqb, get_or}

-- Whether the number's bit is set.
unfoldable pub marked : List ℕ → ℕ → Bool
marked t n = eqb (get_or t (n % 65536 / 64) 0 / 2 ^ (n % 64) % 2) 1

-- What marking a number does to the table t: the number's bit is set, and bits that were set stay set.
pub record Marking (t after : List ℕ) (n : ℕ) : Type 0 where
  pub set : marked after n ≡ true
  pub stays : (m : ℕ) → marked t m ≡ true → marked after m ≡ true
