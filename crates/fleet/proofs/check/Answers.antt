-- `fleet::check` meets its contract: the loop's invariant is Checking.
use Prim.Native.Nat.{◌+◌, ◌*◌, ◌≤◌}
use mathlib.Core.Path.{sym}
use native.Mathlib.Omega.{arith}
use lib.ListN.{length}
use borrow.Author.Rules.{rules}
use Rattle.std.proofs.lemmas.Result.{err_from_is_err_and}
use Rattle.refusals.proofs.Table.{number_positive}
use Rattle.words.specs.Layout.{word}
use Rattle.fleet.proofs.Loops.{checking_none, checking_stop, checking_room, checking_more, none_left, checking_end}
use Rattle.fleet.proofs.check.Goals.{In_ok-refusal}
use Rattle.fleet.proofs.check.Goals as goal

-- The archive that has passed takes its words here.
room : (c : In_ok-refusal) → c.loop-start.at + 8 + 5 * word c.args.w.now (c.loop-start.at + 1) ≤ length c.args.w.now
room c = checking_room c.loop-start.invariant (omega arith) (sym c.in_ok-refusal.ensures)

pub loop-start-init : goal.loop-start-init
loop-start-init c = checking_none _ _

pub returns-in_err-refusal : goal.returns-in_err-refusal
returns-in_err-refusal c =
    let p = err_from_is_err_and c.from_residual.result c.from_residual.ensures.1 in
    rw (p.1, p.2)
    record {
      value = checking_stop c.loop-start.invariant (omega arith) c.in_err-refusal.ensures (number_positive _);
      starts = λ z. absurd (number_positive _ z);
    }

pub bounds-w-at : goal.bounds-w-at
bounds-w-at c = omega (arith, room (goal.at.bounds-w-at c).In_ok-refusal)

pub overflow_mul-at : goal.overflow_mul-at
overflow_mul-at c =
    let h : _ = room (goal.at.overflow_mul-at c).In_ok-refusal in search rules

pub overflow_add-at-in-loop-start-2 : goal.overflow_add-at-in-loop-start-2
overflow_add-at-in-loop-start-2 c =
    let h : _ = room (goal.at.overflow_add-at-in-loop-start-2 c).In_ok-refusal in search rules

pub loop-start-preserved : goal.loop-start-preserved
loop-start-preserved c = checking_more c.loop-start.invariant (omega arith) (sym c.in_ok-refusal.ensures)

pub returns : goal.returns
returns c =
    let inv = c.loop-start.invariant in
    record { value = sym (none_left inv (omega arith)); starts = λ z. checking_end inv (omega arith) }
