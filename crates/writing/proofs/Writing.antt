-- The card is the text whose first line begins with the capacity, and that has no last column.
use Prim.Native.Nat.{ℕ}
use mathlib.Core.Path.{◌≡◌}
use mathlib.Core.List.{List}
use Rattle.text.specs.Justified.{digits, justified, line_of}
use Rattle.words.specs.Layout.{header}
use Rattle.calls.specs.declared.Answer.{Answer}
use Rattle.printing.specs.Printed.{PrintsRead}
use Rattle.printing.specs.Forms.{text_line, text_row, text_of}
use Rattle.printing.proofs.Texts.{Told}
use Rattle.writing.specs.Written.{shape_line, trial_line, row_line, card_text, write_rows, write, written}

pub as_card : (w out : List ℕ) {r : Answer} {after : List ℕ} → Told 1 0 w out r after → (r ≡ write w out) × (after ≡ written w out)
unfolding write written write_rows card_text shape_line row_line trial_line line_of text_of text_row text_line header justified digits
as_card w out told = told

pub prints_card : (input : List ℕ) (read : ℕ) (out : List ℕ) {r : ℕ} {after : List ℕ} → PrintsRead (text_of 1 0) input read out r after
    → PrintsRead card_text input read out r after
unfolding card_text shape_line row_line trial_line line_of text_of text_row text_line header justified digits
prints_card input read out p = p
