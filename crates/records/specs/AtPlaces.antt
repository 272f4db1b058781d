-- What a test says of places with their counts. For the contracts of inner functions; no exported contract cites it.
use Rattle.std.specs.Prelude.{ℕ, ◌<◌, Bool, true, false, ◌≡◌, List, length, get_or}

-- Of each place with its count.
abbrev pub AtEach : (ℕ → ℕ → Type 0) → List ℕ → List ℕ → Type 0
AtEach P places counts = (k : ℕ) → k < length places → P (get_or places k 0) (get_or counts k 0)

-- Whether no place passes the test with its count, by what the test says of a place and a count.
pub record NonePasses (says : ℕ → ℕ → Bool → Type 0) (places counts : List ℕ) (none : Bool) : Type 0 where
  pub all_fail : none ≡ true → AtEach (λ p m. says p m false) places counts
  pub one_passes : none ≡ false → (k : ℕ) × (k < length places) × says (get_or places k 0) (get_or counts k 0) true

-- A step moves the value at each place by its count as an operation does, which leaves a value as it is where the count is 0.
pub record StepsBy (gives : ℕ → ℕ → ℕ → Type 0) (op : ℕ → ℕ → ℕ) (vs places counts : List ℕ) : Type 0 where
  pub still : (v : ℕ) → op v 0 ≡ v
  pub moves : AtEach (λ p m. (r : ℕ) → gives (get_or vs p 0) m r → r ≡ op (get_or vs p 0) m) places counts
