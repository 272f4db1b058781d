-- `replace`: one entry in place of those from `at` up to `end`, among the first m.
use Prim.Native.Nat.{ℕ, ◌+◌, ◌-◌, ◌≤◌, ◌<◌}
use mathlib.Core.Path.{◌≡◌, ◌∙◌}
use mathlib.Core.List.{List, ◌∷◌, ◌++◌}
use native.Mathlib.Numerals.{add-one}
use native.Mathlib.Omega.{arith}
use lib.ListN.{length, take, drop, set}
use lib.Seq.{append_snoc, take-suc-set, take-set-lt, drop-set-lt}
use Rattle.slices.specs.Put.{put}
use Rattle.line.specs.Entries.{Closed}
use Rattle.line.proofs.PlaceLaws.{placed_front}

module _ (line : List ℕ) (m at end entry : ℕ) (front : at ≤ end) (within : end ≤ m) (room : m < length line) where
  -- none leaves
  pub replaced_none : at ≡ end → {left : List ℕ} → left ≡ put line at (entry ∷ take (m - at) (drop at line)) → take (m + 1) left ≡ take at line ++ (entry ∷ drop end (take m line))
  replaced_none e f = rw (f, ← e) (placed_front line m at entry (omega arith) room)

  -- the first of those that leave is overwritten, and the gap behind it closed
  module _ (some : at ≡ end → ⊥) where
    pub replaced_some : {left : List ℕ} {r : ℕ} → Closed (set line at entry) (at + 1) end m left r → (r ≤ m + 1) × (take r left ≡ take at line ++ (entry ∷ drop end (take m line)))
    replaced_some c = (
      omega (arith, c.ends),
      c.joined
          ∙ rw (add-one at, take-suc-set line at entry (omega arith), take-set-lt m line at entry (omega arith), drop-set-lt end (take m line) at entry (omega arith))
          (append_snoc (take at line) entry (drop end (take m line))),
    )
