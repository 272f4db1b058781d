-- The table of counts to meet, row by row: small references are counted cell by cell, the largest by the edge product.
use Prim.Native.Nat.{ℕ}
use mathlib.Core.Path.{◌≡◌, refl, ap, ◌∙◌}
use mathlib.Core.Bool.{false}
use mathlib.Core.List.{List, ◌∷◌, ◌++◌, []}
use lib.ListN.{replicate}
use Rattle.slices.specs.Choices.{both, pick, either}
use Rattle.hypervolume.specs.Cells.{holds, dominates, sum, cells, count, box, edges}
use Rattle.hypervolume.specs.Counts.{cover, total, contribution, joint, gain}
use Rattle.hypervolume.specs.Front.{smaller_somewhere, beats, beaten, unbeaten, front}
use Rattle.hypervolume.proofs.Counting.{gain_first}
use Rattle.rounding.specs.Nearest.{even_of, rounded, nearest}
use Rattle.words.specs.Archive.{Trial, Shape, Archive, trials, points, ascends, before}
use Rattle.words.specs.Layout.{header, record_words, records, extent, layout, read_row, read_rows, read_shape, read, behind}
use Rattle.words.specs.Format.{guard, within, shape_allowed, number_allowed, coordinates_allowed, header_allowed, row_allowed, rows_allowed, ordered, held, distinct, zeros, unused, records_allowed, archive_rows, each, sound_rows}
use Rattle.calls.specs.Calls.{empty, place, insert_gain, joint_with, lowered, inserted, falls_below, insert_overruns, insert_rows, admission_rows, row_of, others, without, removal_loss, raised, removed, exceeds, remove_overruns, remove_rows, number_first, rule_allowed, goes_first, least_from, least_row, least_rows, joint_of, joint_rows, gain_rows, share_of, rows_counted, audited, dropped, note, after_drops, notes, reduce_rows}
use Rattle.calls.specs.Lent
use Rattle.history.specs.Stars.{Line, step_words, step_answer, answers, asked, Star, star, Met, AllMet, usual, done, small, largest, stars}

small_met : AllMet small
unfolding AllMet Met small usual done answers asked step_answer step_words Lent.start Lent.start_rows Lent.leaves
    Lent.insert Lent.remove Lent.reduce Lent.least Lent.joint Lent.gain_answer Lent.share Lent.answer
    Lent.least_answer empty place insert_gain joint_with lowered inserted falls_below insert_overruns insert_rows admission_rows
    row_of others without removal_loss raised removed exceeds remove_overruns remove_rows number_first rule_allowed goes_first least_from
    least_row least_rows joint_of joint_rows gain_rows share_of nearest rounded even_of rows_counted audited dropped note after_drops
    notes reduce_rows guard within each shape_allowed number_allowed coordinates_allowed header_allowed row_allowed rows_allowed
    ordered held distinct sound_rows zeros unused records_allowed archive_rows header record_words records extent layout read_row
    read_rows read_shape read behind trials points pick either ascends before cover total contribution joint gain both
    front unbeaten beaten beats smaller_somewhere holds dominates sum cells count box
small_met = (refl, (refl, (refl, (refl, (refl, (refl, (refl, (refl, (refl, (refl, (refl, tt)))))))))))

-- The largest reference: the archive just started, the one trial, and the archive that holds it.
far : Shape
far = record { capacity = 8; rx = 1048576; ry = 1048576; rz = 1048576 }

origin : Trial
origin = record { number = 1; x = 0; y = 0; z = 0 }

alone : Archive
alone = record { shape = far; sum = 1152921504606846976; front = 1; rows = record { trial = origin; kept = 1152921504606846976 } ∷ [] }

fresh_words : List ℕ
fresh_words = (Lent.start (replicate (extent 8) 0) far).words

reads : read fresh_words ≡ empty far
unfolding fresh_words read Lent.start Lent.start_rows Lent.leaves guard within shape_allowed each extent both layout
    header records empty read_shape read_rows far
reads = refl

-- its gain is the edge product, 2^60
all_cells : insert_gain (empty far) origin ≡ 1152921504606846976
unfolding insert_gain empty far origin points trials edges
all_cells = gain_first (1048576 ∷ 1048576 ∷ 1048576 ∷ []) (0 ∷ 0 ∷ 0 ∷ [])

takes_it : inserted (empty far) origin ≡ alone
unfolding inserted place alone
takes_it = rw all_cells (unfold empty points trials origin front unbeaten beaten beats smaller_somewhere dominates both either holds in refl)

no_overrun : insert_overruns (empty far) origin ≡ false
unfolding insert_overruns falls_below either box
no_overrun = rw all_cells (unfold empty far in refl)

no_row : insert_rows (empty far) origin ≡ 0
unfolding insert_rows admission_rows
no_row = rw no_overrun (unfold guard within each number_allowed coordinates_allowed both held trials empty far origin in refl)

well_formed : archive_rows fresh_words 0 ≡ 0
unfolding fresh_words read Lent.start Lent.start_rows Lent.leaves guard within shape_allowed each extent both layout
    header records empty read_shape read_rows far archive_rows header_allowed records_allowed sound_rows rows_allowed ordered
    distinct zeros unused trials points front unbeaten box
well_formed = refl

first : Lent.insert fresh_words origin ≡ record { refusal = 0; value = 0; words = layout alone ++ []; log = [] }
unfolding Lent.insert
first = rw (reads, no_row, well_formed, takes_it) (unfold Lent.leaves behind fresh_words Lent.start Lent.start_rows guard within shape_allowed each extent both layout header records empty far in refl)

-- the lines of the row after the insertion
behind_first : Star → List Line
behind_first (star s []) = []
behind_first (star s (line ∷ lines)) = lines

later_met : answers (layout alone ++ []) (behind_first largest) ≡ asked (behind_first largest)
unfolding behind_first largest answers asked step_answer step_words Lent.insert Lent.leaves guard within each
    shape_allowed number_allowed coordinates_allowed header_allowed row_allowed rows_allowed ordered held distinct
    sound_rows zeros unused records_allowed archive_rows insert_rows admission_rows header record_words records extent layout read_row read_rows
    read_shape read behind trials either both dominates box alone far origin
later_met = refl

largest_met : Met largest
unfolding Met behind_first largest done answers asked step_answer step_words fresh_words far origin
largest_met =
    ap (λ o. (o.refusal ∷ []) ∷ answers o.words (behind_first largest)) first
    ∙ ap (λ l. (0 ∷ []) ∷ l) later_met

-- Every row of the table holds.
pub all_met : AllMet stars
unfolding AllMet stars
all_met = (largest_met, small_met)
