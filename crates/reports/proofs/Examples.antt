-- Document 01's card prints its report.
use Prim.Native.Nat.{ℕ}
use mathlib.Core.Path.{◌≡◌, refl, ap, ◌∙◌}
use mathlib.Core.List.{List, ◌∷◌, []}
use lib.ListN.{replicate, length-replicate}
use Rattle.slices.specs.Choices.{both, pick, either}
use Rattle.hypervolume.specs.Cells.{holds, dominates, sum, cells, count}
use Rattle.hypervolume.specs.Counts.{cover, joint, gain}
use Rattle.hypervolume.specs.Front.{smaller_somewhere, beats, beaten, unbeaten, front}
use Rattle.text.specs.Fields.{is_digit, decimal, number, field, field_from}
use Rattle.text.specs.Lines.{four, line}
use Rattle.text.specs.Justified.{digits, justified, line_of}
use Rattle.words.specs.Archive.{Archive, trials, points, ascends, before}
use Rattle.words.specs.Layout.{extent}
use Rattle.words.specs.Format.{guard, within, each, shape_allowed, number_allowed, coordinates_allowed, held}
use Rattle.words.proofs.Reading.{read_layout}
use Rattle.calls.specs.Calls.{empty, place, insert_gain, joint_with, lowered, inserted, admission_rows}
use Rattle.calls.specs.Lent.{start_rows}
use Rattle.card.specs.Card.{shape_on, trial_on, line_count, lines_from, lines}
use Rattle.card.specs.Verdict.{archive, in_turn, judge_further, judge, answer_of, words_of, carried_out}
use Rattle.card.proofs.Judging.{loads}
use Rattle.printing.specs.Texts.{lines_of}
use Rattle.printing.specs.Printed.{shown, loaded, printed}
use Rattle.reports.specs.Report.{report_line, head_line, record_line, report_text}
use Rattle.reports.specs.Example.{example_card, example_report}

-- The archive of the card.
example : Archive
example =
    record {
      shape = record { capacity = 8; rx = 4; ry = 4; rz = 4 };
      sum = 21;
      front = 4;
      rows =
          record { trial = record { number = 3; x = 2; y = 2; z = 1 }; kept = 4 }
          ∷ record { trial = record { number = 2; x = 2; y = 1; z = 2 }; kept = 2 }
          ∷ record { trial = record { number = 1; x = 1; y = 2; z = 2 }; kept = 2 }
          ∷ record { trial = record { number = 4; x = 1; y = 1; z = 3 }; kept = 1 }
          ∷ [];
    }

judged_example : judge 2568 (lines example_card) ≡ archive example
unfolding judge judge_further in_turn start_rows shape_on trial_on lines lines_from line_count line four field_from field
    number decimal pick is_digit line_of justified digits example_card example
    empty place insert_gain joint_with lowered inserted admission_rows guard within each shape_allowed number_allowed
    coordinates_allowed held extent trials points either ascends before cover joint gain front unbeaten
    beaten beats smaller_somewhere both holds dominates sum cells count
judged_example = refl

report_example : report_text example ≡ example_report
unfolding report_text head_line lines_of record_line report_line justified digits pick example example_report
report_example = refl

loaded_example : loaded example_card ≡ carried_out (replicate 2568 0) (archive example)
unfolding loaded extent
loaded_example =
    loads (replicate 2568 0) example_card
    ∙ ap (λ n. carried_out (replicate 2568 0) (judge n (lines example_card))) (length-replicate {A = ℕ} 2568 0)
    ∙ ap (carried_out (replicate 2568 0)) judged_example

-- The verdict's archive is what is shown.
shown_archive : (before : List ℕ) (a : Archive)
    → shown report_text (carried_out before (archive a)).answer.refusal (carried_out before (archive a)) ≡ report_text a
unfolding shown carried_out answer_of words_of
shown_archive before a = ap report_text (read_layout a _)

pub example_printed : printed report_text example_card ≡ example_report
unfolding printed
example_printed = rw loaded_example (shown_archive (replicate 2568 0) example) ∙ report_example
