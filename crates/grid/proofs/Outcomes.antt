-- The ways out of insert-grid: refused by row 17, or by rows 1 to 3, or done, where the front is counted if a trial went in.
use Prim.Native.Nat.{ℕ, zero, suc, ◌%◌}
use mathlib.Core.Path.{◌≡◌, refl, sym, ap, ◌∙◌}
use mathlib.Core.Bool.{not}
use mathlib.Core.List.{List, ◌++◌}
use native.Mathlib.Omega.{arith}
use lib.ListN.{length}
use borrow.Author.Tests.{eq-eqb, ne_eqb}
use Rattle.words.specs.Layout.{layout, read, behind}
use Rattle.words.specs.Format.{archive_rows}
use Rattle.calls.specs.declared.GridAnswer.{GridAnswer}
use Rattle.calls.specs.Calls.{renewed}
use Rattle.calls.specs.Grid.{grid_trials, Filling, filled, grid_rows, grid_outcome, insert_grid}
use Rattle.calls.proofs.Known.{known}
use Rattle.calls.proofs.Answers.{guard_yes, guard_no}
use Rattle.calls.proofs.Grid.{filled_none, FilledFair, filled_fair}
use Rattle.records.specs.Fronts.{fronted}
use Rattle.records.proofs.Stored
use Rattle.grid.specs.Filling.{Fills}

-- What the answer and the words are those of.
abbrev pub Meets : (w grid : List ℕ) → GridAnswer → List ℕ → Type 0
Meets w grid r left = (r ≡ (insert_grid w grid).answer) × (left ≡ (insert_grid w grid).words)

meets_refused : (w grid : List ℕ) (row r : ℕ) {x : GridAnswer} → grid_rows w grid ≡ row → row ≡ r → (r ≡ 0 → ⊥) → x ≡ record { refusal = r; inserted = 0; stop = 0 } → Meets w grid x w
unfolding insert_grid grid_outcome
meets_refused w grid zero r e f n said = absurd (n (sym f))
meets_refused w grid (suc row) r e f n said = rw (e, f) (said, refl)

pub refused_17 : (w grid : List ℕ) {x : GridAnswer} → (length grid % 4 ≡ 0 → ⊥) → x ≡ record { refusal = 17; inserted = 0; stop = 0 } → Meets w grid x w
unfolding grid_rows
refused_17 w grid n said =
    meets_refused w grid 17 17 (guard_yes _ 17 _ (ap not (ne_eqb _ _ n))) refl (λ z. let no' : ⊥ = omega (arith, z) in no') said

rows_behind : (w grid : List ℕ) → length grid % 4 ≡ 0 → grid_rows w grid ≡ archive_rows w 0
unfolding grid_rows
rows_behind w grid e = guard_no _ 17 _ (ap not (eq-eqb _ _ e))

pub refused_archive : (w grid : List ℕ) (r : ℕ) {x : GridAnswer} → length grid % 4 ≡ 0 → r ≡ archive_rows w 0 → (r ≡ 0 → ⊥) → x ≡ record { refusal = r; inserted = 0; stop = 0 } → Meets w grid x w
refused_archive w grid r four e n said = meets_refused w grid (archive_rows w 0) r (rows_behind w grid four) (sym e) n said

module _ (w grid left : List ℕ) (r : GridAnswer) (four : length grid % 4 ≡ 0) (p : archive_rows w 0 ≡ 0) (h : Fills w (grid_trials grid) r left) where
  abbrev all : Filling
  all = filled (read w) (grid_trials grid)

  is_fair : FilledFair (read w).front (read w).shape all
  is_fair = filled_fair (read w).front (read w) (grid_trials grid) (known w p).sound (known w p).sound.front_within

  meets : {after : List ℕ} → after ≡ layout all.archive ++ behind w → Meets w grid r after
  unfolding insert_grid grid_outcome
  meets e = rw (rows_behind w grid four, p) (h.answer, e)

  -- none went in
  pub done_none : r.inserted ≡ 0 → Meets w grid r left
  done_none e =
      let none : all.inserted ≡ 0 = sym (ap (λ (x : GridAnswer). x.inserted) h.answer) ∙ e in
      let same : all.archive ≡ read w = filled_none (read w) (grid_trials grid) none in
      meets (h.words ∙ ap (λ a. layout (fronted (read w).front a) ++ behind w) same ∙ ap (λ a. layout a ++ behind w) (sym same))

  pub left_passes : archive_rows left 0 ≡ 0
  left_passes = Stored.update_passes w left all.archive (read w).front is_fair.sound is_fair.few h.words

  pub done_some : {after : List ℕ} → (r.inserted ≡ 0 → ⊥) → after ≡ layout (renewed (read left).shape (read left).sum (read left).rows) ++ behind left → Meets w grid r after
  done_some {after} n e =
      let some : all.inserted ≡ 0 → ⊥ = λ z. n (ap (λ (x : GridAnswer). x.inserted) h.answer ∙ z) in
      meets (Stored.update_renewed w left all.archive (read w).front is_fair.sound is_fair.few h.words after e (is_fair.counted some))
