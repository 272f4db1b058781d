-- Figures of a few numbers and of small archives, by computation.
use Prim.Native.Nat.{ℕ}
use mathlib.Core.Path.{◌≡◌, refl}
use mathlib.Core.List.{List, ◌∷◌, ◌++◌, []}
use lib.ListN.{take}
use Rattle.slices.specs.Choices.{both, either, pick}
use Rattle.rounding.specs.Nearest.{rounded, nearest}
use Rattle.hypervolume.specs.Cells
use Rattle.hypervolume.specs.Cells.{holds, dominates, cells, count, box}
use Rattle.hypervolume.specs.Counts.{cover, total, contribution}
use Rattle.hypervolume.specs.Front.{smaller_somewhere, beats, beaten, unbeaten, front}
use Rattle.order.specs.Order.{sum_of, enter, by_digit}
use Rattle.words.specs.Archive.{trials, points}
use Rattle.words.specs.Layout.{extent, read_row, read_rows, read_shape, read, behind}
use Rattle.words.specs.Format.{guard, within, each, shape_allowed, number_allowed, coordinates_allowed, header_allowed, row_allowed, rows_allowed, ordered, held, distinct, sound_rows, zeros, unused, records_allowed, archive_rows}
use Rattle.calls.specs.Calls.{rows_counted, audited}
use Rattle.fleet.specs.Fleet.{archives, fleet_rows, every}
use Rattle.figures.specs.Figures.{totals, sum, ascending, ranked, least, greatest, median, same_reference, of_one_reference, common_box, median_share, reference_rows, figures_rows, figures_answer, figures}

-- Of five numbers the middle one, of four the lower middle one, with equal numbers among them.
medians : (median (7 ∷ 3 ∷ 9 ∷ 3 ∷ 5 ∷ []) ≡ 5) × (median (7 ∷ 3 ∷ 9 ∷ 5 ∷ []) ≡ 5) × (median (7 ∷ 3 ∷ 7 ∷ 3 ∷ []) ≡ 3)
unfolding median ranked ascending by_digit enter pick
medians = (refl, refl, refl)

-- Archives of capacity 1 that hold one trial each. Kept totals 4 and 1, under one reference.
first : List ℕ
first = 1 ∷ 1 ∷ 2 ∷ 2 ∷ 2 ∷ 4 ∷ 1 ∷ 0 ∷ 10 ∷ 0 ∷ 0 ∷ 1 ∷ 4 ∷ []

second : List ℕ
second = 1 ∷ 1 ∷ 2 ∷ 2 ∷ 2 ∷ 1 ∷ 1 ∷ 0 ∷ 11 ∷ 1 ∷ 1 ∷ 1 ∷ 1 ∷ []

-- The second again: with a kept total that is not its count, and with word 7 not zero, which is row 2.
miscounted : List ℕ
miscounted = 1 ∷ 1 ∷ 2 ∷ 2 ∷ 2 ∷ 2 ∷ 1 ∷ 0 ∷ 11 ∷ 1 ∷ 1 ∷ 1 ∷ 1 ∷ []

damaged : List ℕ
damaged = 1 ∷ 1 ∷ 2 ∷ 2 ∷ 2 ∷ 1 ∷ 1 ∷ 9 ∷ 11 ∷ 1 ∷ 1 ∷ 1 ∷ 1 ∷ []

-- Another reference on z.
deeper : List ℕ
deeper = 1 ∷ 1 ∷ 2 ∷ 2 ∷ 3 ∷ 2 ∷ 1 ∷ 0 ∷ 12 ∷ 1 ∷ 1 ∷ 1 ∷ 2 ∷ []

-- The box is 8, so a total of 1 is 125,000 millionths. The figures are those of the kept totals, counted or not.
of_two : (figures (first ++ second) 2 ≡ record { refusal = 0; sum = 5; least = 1; greatest = 4; median = 1; share = 125000; audits = 1 })
    × (figures (first ++ miscounted) 2 ≡ record { refusal = 0; sum = 6; least = 2; greatest = 4; median = 2; share = 250000; audits = 0 })
unfolding figures figures_rows reference_rows guard within both fleet_rows archive_rows header_allowed shape_allowed each box read_shape extent records_allowed sound_rows rows_allowed row_allowed number_allowed coordinates_allowed trials ordered distinct held either zeros unused read read_rows read_row behind archives of_one_reference every same_reference figures_answer totals sum sum_of least greatest median ranked ascending by_digit enter pick median_share common_box nearest rounded audited total count cells Cells.sum cover dominates holds points front unbeaten beaten beats smaller_somewhere rows_counted contribution first second miscounted
of_two = (refl, refl)

-- No archive, more than 15, references that differ, the second cut short; where the references differ and the third is damaged, the
-- rows of each come first.
refusals : ((figures (first ++ second) 0).refusal ≡ 23) × ((figures (first ++ second) 16).refusal ≡ 23)
    × ((figures (first ++ deeper) 2).refusal ≡ 23) × ((figures (first ++ take 12 second) 2).refusal ≡ 1)
    × ((figures (deeper ++ first ++ damaged) 3).refusal ≡ 2)
unfolding figures figures_rows reference_rows guard within both fleet_rows archive_rows header_allowed shape_allowed each box read_shape extent records_allowed sound_rows rows_allowed row_allowed number_allowed coordinates_allowed trials ordered distinct held either zeros unused read read_rows read_row behind archives of_one_reference every same_reference figures_answer first second damaged deeper
refusals = (refl, refl, refl, refl, refl)
