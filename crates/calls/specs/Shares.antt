-- What a share can be, for any words (document 02, W-204).
use Rattle.std.specs.Prelude.{ℕ, ◌*◌, ◌≤◌, ◌≡◌, List}
use Rattle.rounding.specs.Nearest.{IsNearest}
use Rattle.words.specs.Layout.{read, word}
use Rattle.words.specs.Format.{archive_rows}
use Rattle.calls.specs.Calls.{box_of}
use Rattle.calls.specs.Lent.{share}

pub record ShareInMillionths : Type 0 where
  -- Where rows 1 to 3 pass: as near as can be to word 5 × 1,000,000 divided by the box, and even at a tie.
  pub nearest : (w : List ℕ) → archive_rows w 0 ≡ 0 → IsNearest (word w 5 * 1000000) (box_of (read w)) (share w).value
  -- At most a million; 0 for a total of 0; a million for the whole box.
  pub at_most : (w : List ℕ) → (share w).value ≤ 1000000
  pub none : (w : List ℕ) → word w 5 ≡ 0 → (share w).value ≡ 0
  pub whole : (w : List ℕ) → archive_rows w 0 ≡ 0 → word w 5 ≡ box_of (read w) → (share w).value ≡ 1000000
