-- Figures over repeated runs (document 02, W-213): "from 1 to 15 archives, one behind the other and of equal reference, report the
-- sum of totals, the least, the greatest and the median .. together with the rounded share of the median".
use Rattle.std.specs.Prelude.{ℕ, zero, suc, ◌-◌, ◌*◌, ◌/◌, Bool, true, not, List, ◌∷◌, map, [], eqb, length, get_or}
use Rattle.slices.specs.Choices.{both}
use Rattle.order.specs.Order.{sum_of, by_digit}
use Rattle.rounding.specs.Nearest.{nearest}
use Rattle.hypervolume.specs.Cells.{holds}
use Rattle.words.specs.Archive.{Archive}
use Rattle.words.specs.Format.{guard, within}
use Rattle.calls.specs.Calls.{box_of, audited}
use Rattle.fleet.specs.Fleet.{archives, fleet_rows, every}
use Rattle.figures.specs.declared.answer.FiguresAnswer.{FiguresAnswer}

-- "The figures are those of the kept totals."
unfoldable pub totals : List Archive → List ℕ
totals fleet = map (λ a. a.sum) fleet

-- "The sum of totals."
unfoldable pub sum : List ℕ → ℕ
sum l = sum_of (λ t. t) l

-- The numbers in ascending order: each is entered before the first that is not below it.
unfoldable pub ascending : List ℕ → List ℕ
ascending l = by_digit (λ t. t) l

-- The number at a place in ascending order, counted from 0.
unfoldable pub ranked : List ℕ → ℕ → ℕ
ranked l k = get_or (ascending l) k 0

-- "The least, the greatest and the median, for an even count the lower middle one."
unfoldable pub least : List ℕ → ℕ
least l = ranked l 0

unfoldable pub greatest : List ℕ → ℕ
greatest l = ranked l (length l - 1)

unfoldable pub median : List ℕ → ℕ
median l = ranked l ((length l - 1) / 2)

-- "Of equal reference": every archive's is that of the first, on each axis.
unfoldable pub same_reference : Archive → Archive → Bool
same_reference a b =
    both (eqb a.shape.rx b.shape.rx)
    (both (eqb a.shape.ry b.shape.ry) (eqb a.shape.rz b.shape.rz))

unfoldable pub of_one_reference : List Archive → Bool
of_one_reference [] = true
of_one_reference (a ∷ fleet) = every (same_reference a) fleet

-- Their common box.
unfoldable pub common_box : List Archive → ℕ
common_box [] = 0
common_box (a ∷ fleet) = box_of a

-- "The rounded share of the median": W-204's rounding, of the median against the common box.
unfoldable pub median_share : List Archive → ℕ
median_share fleet = nearest (median (totals fleet) * 1000000) (common_box fleet)

-- "(23: no archive, more than 15, or references that differ. The number is checked first, then rows 1 to 3 of each, then the
-- references.)"
unfoldable pub reference_rows : List Archive → ℕ
reference_rows fleet = guard (not (of_one_reference fleet)) 23 0

unfoldable pub figures_rows : List ℕ → (number : ℕ) → ℕ
figures_rows w number =
    guard (not (within 1 15 number)) 23 (fleet_rows number w (reference_rows (archives number w)))

-- "The answer also says whether every audit was yes." Zeros in a refusal.
unfoldable pub figures_answer : (row : ℕ) → List Archive → FiguresAnswer
figures_answer zero fleet =
    record {
      refusal = 0;
      sum = sum (totals fleet);
      least = least (totals fleet);
      greatest = greatest (totals fleet);
      median = median (totals fleet);
      share = median_share fleet;
      audits = holds (every audited fleet);
    }
figures_answer (suc n) fleet =
    record { refusal = suc n; sum = 0; least = 0; greatest = 0; median = 0; share = 0; audits = 0 }

-- Figures (words, number of archives).
unfoldable pub figures : List ℕ → (number : ℕ) → FiguresAnswer
figures w number = figures_answer (figures_rows w number) (archives number w)
