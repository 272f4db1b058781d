-- `printing::write_text` meets its contract: rows 1 to 3, row 16, or the text.
use mathlib.Core.Path.{◌≡◌, sym}
use native.Mathlib.Omega.{arith}
use Rattle.std.proofs.lemmas.Result.{err_from_is_err_and}
use Rattle.refusals.proofs.Table.{number_positive}
use Rattle.words.specs.Format.{archive_rows}
use Rattle.calls.proofs.Known.{known}
use Rattle.printing.proofs.Texts.{told_row, told_short, bytes_few, told_text}
use Rattle.printing.proofs.write_text.Goals.{In_ok-refusal}
use Rattle.printing.proofs.write_text.Goals as goal

-- The words pass rows 1 to 3.
passing : (c : In_ok-refusal) → archive_rows c.args.w.now 0 ≡ 0
passing c = sym c.in_ok-refusal.ensures

pub returns-in_err-refusal : goal.returns-in_err-refusal
returns-in_err-refusal c =
    let p = err_from_is_err_and c.from_residual.result c.from_residual.ensures.1 in
    rw (p.1, p.2) (told_row _ _ _ _ c.in_err-refusal.ensures (number_positive _))

pub bounds-w-0 : goal.bounds-w-0
bounds-w-0 c = omega (arith, known _ (passing (goal.at.bounds-w-0 c).In_ok-refusal))

pub overflow_add-bytes-2 : goal.overflow_add-bytes-2
overflow_add-bytes-2 c = omega (arith, known _ (passing (goal.at.overflow_add-bytes-2 c).In_ok-refusal))

pub overflow_mul-bytes : goal.overflow_mul-bytes
overflow_mul-bytes c = omega (arith, bytes_few _ _ _ c.requires (passing (goal.at.overflow_mul-bytes c).In_ok-refusal))

pub returns-then-out-bytes : goal.returns-then-out-bytes
returns-then-out-bytes c = told_short _ _ _ _ (passing (goal.at.returns-then-out-bytes c).In_ok-refusal) c.if-out-bytes.true

pub bounds-w-first : goal.bounds-w-first
bounds-w-first c = omega (arith, known _ (passing (goal.at.bounds-w-first c).In_ok-refusal), c.requires.header)

pub bounds-w-5 : goal.bounds-w-5
bounds-w-5 c = omega (arith, known _ (passing (goal.at.bounds-w-5 c).In_ok-refusal))

pub returns : goal.returns
returns c =
    told_text _ _ _ _ _ c.requires (passing (goal.at.returns c).In_ok-refusal) c.if-out-bytes.false c.reference_of.ensures c.put_line.ensures
    c.put_records.ensures
