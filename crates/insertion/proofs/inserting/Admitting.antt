-- Rows 5 to 8, one after the other, and what they tell where they pass.
use Prim.Native.Nat.{ℕ, ◌≤◌, ◌<◌}
use mathlib.Core.Path.{◌≡◌, refl, sym, ap, ◌∙◌}
use mathlib.Core.Bool.{Bool, true, false, not}
use mathlib.Core.List.{List}
use native.Mathlib.Omega.{arith}
use lib.Dec.{eqb}
use borrow.Author.Tests.{eq-eqb, ne_eqb, not-false, eqb-false}
use lib.ListN.{length}
use Rattle.words.specs.Archive.{Trial, Archive}
use Rattle.words.specs.Layout.{read, read_shape, word}
use Rattle.words.specs.Format.{guard, archive_rows, number_allowed, coordinates_allowed, held}
use Rattle.calls.specs.Calls.{held_trials, admission_rows}
use Rattle.calls.proofs.Known.{count_rows, known}
use Rattle.calls.proofs.Answers.{guard_yes, guard_no, guard_off}

-- Rows 5 to 8, one after the other.
module _ (a : Archive) (t : Trial) (rest : ℕ) where
  pub admission_5 : number_allowed t.number ≡ false → admission_rows a t rest ≡ 5
  unfolding admission_rows
  admission_5 five = guard_yes _ 5 _ (ap not five)

  behind_5 : number_allowed t.number ≡ true → admission_rows a t rest ≡ guard (not (coordinates_allowed t)) 6 (guard (held t.number (held_trials a)) 7 (guard (eqb (length a.rows) a.shape.capacity) 8 rest))
  unfolding admission_rows
  behind_5 five = guard_no _ 5 _ (ap not five)

  pub admission_6 : number_allowed t.number ≡ true → coordinates_allowed t ≡ false → admission_rows a t rest ≡ 6
  admission_6 five six = behind_5 five ∙ guard_yes _ 6 _ (ap not six)

  behind_6 : number_allowed t.number ≡ true → coordinates_allowed t ≡ true → admission_rows a t rest ≡ guard (held t.number (held_trials a)) 7 (guard (eqb (length a.rows) a.shape.capacity) 8 rest)
  behind_6 five six = behind_5 five ∙ guard_no _ 6 _ (ap not six)

  pub admission_7 : number_allowed t.number ≡ true → coordinates_allowed t ≡ true → held t.number (held_trials a) ≡ true → admission_rows a t rest ≡ 7
  admission_7 five six seven = behind_6 five six ∙ guard_yes _ 7 _ seven

  pub admission_8 : number_allowed t.number ≡ true → coordinates_allowed t ≡ true → held t.number (held_trials a) ≡ false → length a.rows ≡ a.shape.capacity → admission_rows a t rest ≡ 8
  admission_8 five six seven eight = behind_6 five six ∙ guard_no _ 7 _ seven ∙ guard_yes _ 8 _ (eq-eqb _ _ eight)

  pub admission_passed : number_allowed t.number ≡ true → coordinates_allowed t ≡ true → held t.number (held_trials a) ≡ false → (length a.rows ≡ a.shape.capacity → ⊥) → admission_rows a t rest ≡ rest
  admission_passed five six seven eight = behind_6 five six ∙ guard_no _ 7 _ seven ∙ guard_no _ 8 _ (ne_eqb _ _ eight)

-- What rows 5 to 8 tell where they pass.
pub record Admitted (w : List ℕ) (t : Trial) : Type 0 where
  pub coordinates : coordinates_allowed t ≡ true
  pub free : word w 0 < word w 1
  pub onward : (rest : ℕ) → admission_rows (read w) t rest ≡ rest

pub admitted : (w : List ℕ) (t : Trial) → archive_rows w 0 ≡ 0 → admission_rows (read w) t 0 ≡ 0 → Admitted w t
unfolding admission_rows read read_shape
admitted w t p e =
    let five : number_allowed t.number ≡ true = not-false _ (guard_off _ 4 _ e) in
    let e₆ = sym (behind_5 (read w) t 0 five) ∙ e in
    let six : coordinates_allowed t ≡ true = not-false _ (guard_off _ 5 _ e₆) in
    let e₇ = sym (behind_6 (read w) t 0 five six) ∙ e in
    let seven : held t.number (held_trials (read w)) ≡ false = guard_off _ 6 _ e₇ in
    let e₈ : guard (eqb (length (read w).rows) (read w).shape.capacity) 8 0 ≡ 0 = sym (guard_no _ 7 _ seven) ∙ e₇ in
    let eight : length (read w).rows ≡ (read w).shape.capacity → ⊥ = eqb-false _ _ (guard_off _ 7 _ e₈) in
    let size : length (read w).rows ≡ word w 0 = count_rows w in
    record {
      coordinates = six;
      free = lt_of_ne_le (word w 0) (word w 1) (known w p).held_within (λ q. eight (size ∙ q));
      onward = λ rest. admission_passed (read w) t rest five six seven eight;
    }
  where
    lt_of_ne_le : (m n : ℕ) → m ≤ n → (m ≡ n → ⊥) → m < n
    lt_of_ne_le m n l d = omega arith

pub admission_same : (a : Archive) (t : Trial) (rest : ℕ) → (admission_rows a t 0 ≡ 0 → ⊥) → admission_rows a t rest ≡ admission_rows a t 0
unfolding admission_rows guard
admission_same a t rest n =
    go (not (number_allowed t.number)) (not (coordinates_allowed t)) (held t.number (held_trials a)) (eqb (length a.rows) a.shape.capacity) n
  where
    go : (five six seven eight : Bool) → (guard five 5 (guard six 6 (guard seven 7 (guard eight 8 0))) ≡ 0 → ⊥) → guard five 5 (guard six 6 (guard seven 7 (guard eight 8 rest))) ≡ guard five 5 (guard six 6 (guard seven 7 (guard eight 8 0)))
    go true six seven eight n = refl
    go false true seven eight n = refl
    go false false true eight n = refl
    go false false false true n = refl
    go false false false false n = absurd (n refl)
