-- How a call's answer follows from its rows: refused by rows 1 to 3, turned down by a row of its own, or done.
use Prim.Native.Nat.{ℕ, zero, suc}
use mathlib.Core.Path.{◌≡◌, sym, ap, ◌∙◌, refl}
use mathlib.Core.Bool.{Bool, true, false}
use mathlib.Core.List.{List, ◌++◌}
use native.Mathlib.Omega.{arith}
use lib.ListN.{length, drop}
use Rattle.words.specs.Archive.{Row}
use Rattle.words.specs.Format.{guard, archive_rows}
use Rattle.words.proofs.Passed.{passed, passes_again, still_refused}
use Rattle.calls.specs.Lent.{Outcome, leaves, answer, least_answer}
use Rattle.slices.specs.Choices.{pick}

pub guard_yes : (t : Bool) (n rest : ℕ) → t ≡ true → guard t n rest ≡ n
unfolding guard
guard_yes t n rest e = rw e

pub guard_no : (t : Bool) (n rest : ℕ) → t ≡ false → guard t n rest ≡ rest
unfolding guard
guard_no t n rest e = rw e

pub guard_off : (b : Bool) (n rest : ℕ) → guard b (suc n) rest ≡ 0 → b ≡ false
unfolding guard
guard_off true n rest e = absurd (let no' : ⊥ = omega arith in no')
guard_off false n rest e = refl

pub row_13_given : (b : Bool) (old new : List ℕ) → b ≡ true → (◌≡◌ {A = ℕ} 13 (guard b 13 0)) × (old ≡ pick b old new)
unfolding guard pick
row_13_given b old new e = rw e (refl, refl)

pub row_13_passed : (b : Bool) (old new left : List ℕ) → b ≡ false → left ≡ new → (◌≡◌ {A = ℕ} 0 (guard b 13 0)) × (left ≡ pick b old new)
unfolding guard pick
row_13_passed b old new left e l = rw e (refl, l)

-- Rows 1 to 3 refuse whatever comes after them.
pub rows_refused : (w : List ℕ) (r rest : ℕ) → r ≡ archive_rows w 0 → (r ≡ 0 → ⊥) → archive_rows w rest ≡ r
rows_refused w r rest e n = still_refused w rest (λ z. n (e ∙ z)) ∙ sym e

-- Words that pass leave it to the rows after them.
pub rows_passed : (w : List ℕ) (rest : ℕ) → archive_rows w 0 ≡ 0 → archive_rows w rest ≡ rest
rows_passed w rest e = passes_again w rest (passed w e)

pub answer_refused : (n r v : ℕ) → n ≡ r → (r ≡ 0 → ⊥) → record { refusal = r; value = 0 } ≡ answer n v
unfolding answer
answer_refused zero r v e h = absurd (h (sym e))
answer_refused (suc n) r v e h = ap (λ k. record { refusal = k; value = 0 }) (sym e)

pub answer_done : (n v u : ℕ) → n ≡ 0 → u ≡ v → record { refusal = 0; value = u } ≡ answer n v
unfolding answer
answer_done n v u e f = rw (e, f)

pub least_refused : (n r : ℕ) (row : Row) → n ≡ r → (r ≡ 0 → ⊥) → record { refusal = r; number = 0; contribution = 0 } ≡ least_answer n row
unfolding least_answer
least_refused zero r row e h = absurd (h (sym e))
least_refused (suc n) r row e h = ap (λ k. record { refusal = k; number = 0; contribution = 0 }) (sym e)

pub least_done : (n : ℕ) (row found : Row) → n ≡ 0 → found ≡ row → record { refusal = 0; number = found.trial.number; contribution = found.kept } ≡ least_answer n row
unfolding least_answer
least_done n row found e f = rw (e, f)

-- What a call that writes leaves.
pub leaves_refused : (w log : List ℕ) (n r v : ℕ) (archive notes : List ℕ) → n ≡ r → (r ≡ 0 → ⊥) → leaves w log n v archive notes ≡ record { refusal = r; value = 0; words = w; log = log }
unfolding leaves
leaves_refused w log zero r v archive notes e h = absurd (h (sym e))
leaves_refused w log (suc n) r v archive notes e h = ap (λ k. record { refusal = k; value = 0; words = w; log = log }) e

pub leaves_done : (w log : List ℕ) (n v : ℕ) (archive notes : List ℕ) → n ≡ 0 → leaves w log n v archive notes ≡ record { refusal = 0; value = v; words = archive; log = notes ++ drop (length notes) log }
unfolding leaves
leaves_done w log n v archive notes e = rw e

-- An answer without a value, and the words with it.
pub outcome_refused : (o : Outcome) (w log : List ℕ) (r : ℕ) → o ≡ record { refusal = r; value = 0; words = w; log = log } → (r ≡ o.refusal) × (w ≡ o.words)
outcome_refused o w log r e = (sym (ap (λ (x : Outcome). x.refusal) e), sym (ap (λ (x : Outcome). x.words) e))
