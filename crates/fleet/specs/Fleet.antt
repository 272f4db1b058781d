-- Archives one behind the other in words (document 02, W-213 and W-210), "each taking 8 + 5 × its capacity words". The capacities
-- may differ.
use Rattle.std.specs.Prelude.{ℕ, zero, suc, ◌+◌, ◌≡◌, Bool, true, List, ◌∷◌, ◌++◌, [], eqb, length, drop}
use Rattle.slices.specs.Choices.{both}
use Rattle.words.specs.Archive.{Archive}
use Rattle.words.specs.Layout.{layout, read, extent, word, behind}
use Rattle.words.specs.Format.{archive_rows}

-- The first n archives that the words hold.
unfoldable pub archives : ℕ → List ℕ → List Archive
archives zero w = []
archives (suc n) w = read w ∷ archives n (behind w)

-- The words behind them: where the next one would begin.
unfoldable pub past : ℕ → List ℕ → List ℕ
past zero w = w
past (suc n) w = past n (behind w)

-- "Rows 1 to 3 of each", in turn; those of an archive are judged on all words from where it begins. Then the rows of the call.
unfoldable pub fleet_rows : ℕ → List ℕ → ℕ → ℕ
fleet_rows zero w rest = rest
fleet_rows (suc n) w rest = archive_rows w (fleet_rows n (behind w) rest)

-- How many words the first n archives take.
unfoldable pub extents : ℕ → List ℕ → ℕ
extents zero w = 0
extents (suc n) w = extent (word w 1) + extents n (behind w)

-- The words of archives, one behind the other.
unfoldable pub layouts : List Archive → List ℕ
layouts [] = []
layouts (a ∷ fleet) = layout a ++ layouts fleet

-- Whether a test holds of every one of them.
unfoldable pub every : (Archive → Bool) → List Archive → Bool
every test [] = true
every test (a ∷ fleet) = both (test a) (every test fleet)

-- Archives whose own words pass rows 1 to 3.
unfoldable pub sound : List Archive → Bool
sound fleet = every (λ a. eqb (archive_rows (layout a) 0) 0) fleet

-- Archives laid one behind the other, with any words behind them, are read again: so many archives, those words, and no row.
pub record ReadAgain (fleet : List Archive) (b : List ℕ) : Type 0 where
  pub same : archives (length fleet) (layouts fleet ++ b) ≡ fleet
  pub rest : past (length fleet) (layouts fleet ++ b) ≡ b
  pub passes : (row : ℕ) → fleet_rows (length fleet) (layouts fleet ++ b) row ≡ row

-- n more behind the first m.
pub record Joined (m n : ℕ) (w : List ℕ) : Type 0 where
  pub all : archives (m + n) w ≡ archives m w ++ archives n (past m w)
  pub rest : past (m + n) w ≡ past n (past m w)
  pub rows : (row : ℕ) → fleet_rows (m + n) w row ≡ fleet_rows m w (fleet_rows n (past m w) row)

-- What holds of archives one behind the other.
pub record FleetLaws : Type 0 where
  -- Words in which n archives pass are their layouts and the words behind, and each archive is sound.
  pub laid : (n : ℕ) (w : List ℕ) → fleet_rows n w 0 ≡ 0 → w ≡ layouts (archives n w) ++ past n w
  pub sound_each : (n : ℕ) (w : List ℕ) → fleet_rows n w 0 ≡ 0 → sound (archives n w) ≡ true
  pub read_again : (fleet : List Archive) (b : List ℕ) → sound fleet ≡ true → ReadAgain fleet b
  pub joined : (m n : ℕ) (w : List ℕ) → Joined m n w
  -- The words behind begin where the words of the archives end.
  pub begins : (n : ℕ) (w : List ℕ) → past n w ≡ drop (extents n w) w
