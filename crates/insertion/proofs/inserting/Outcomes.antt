-- The ways out of enter, and of insert.
use Prim.Native.Nat.{ℕ}
use mathlib.Core.Path.{◌≡◌, refl, sym, ap, subst, ◌∙◌}
use mathlib.Core.Bool.{Bool, true, false}
use mathlib.Core.List.{List, ◌++◌, []}
use native.Mathlib.Omega.{arith}
use Rattle.words.specs.Archive.{Trial}
use Rattle.slices.specs.Choices.{pick}
use Rattle.words.specs.Layout.{layout, read, behind}
use Rattle.words.specs.Format.{guard, archive_rows}
use Rattle.calls.specs.Calls.{insert_overruns, admission_rows, insert_rows, inserted}
use Rattle.calls.specs.Lent.{Outcome, insert}
use Rattle.calls.proofs.Answers.{rows_refused, rows_passed, leaves_refused, leaves_done, outcome_refused}
use Rattle.insertion.specs.Inserting.{entered, Enters}
use Rattle.insertion.proofs.inserting.Admitting.{admitted, admission_same}

-- The ways out of `enter`: turned down by rows 5 to 8, or by row 13, or entered.
pub enter_turned : (w : List ℕ) (t : Trial) (r : ℕ) → r ≡ admission_rows (read w) t 0 → (r ≡ 0 → ⊥) → Enters w t r w
unfolding insert_rows
enter_turned w t r e n =
    record {
      judged = e ∙ sym (admission_same (read w) t _ (λ z. n (e ∙ z)));
      done = λ z. absurd (n z);
      refused = λ other. refl;
    }

pub enter_put : (w left : List ℕ) (t : Trial) (r : ℕ) → archive_rows w 0 ≡ 0 → admission_rows (read w) t 0 ≡ 0
    → r ≡ guard (insert_overruns (read w) t) 13 0 → left ≡ pick (insert_overruns (read w) t) w (entered w t)
    → Enters w t r left
unfolding insert_rows guard pick
enter_put w left t r p a e l = go (insert_overruns (read w) t) refl e l
  where
    rows : (b : Bool) → insert_overruns (read w) t ≡ b → insert_rows (read w) t ≡ guard b 13 0
    rows b q = (admitted w t p a).onward _ ∙ ap (λ x. guard x 13 0) q

    go : (b : Bool) → insert_overruns (read w) t ≡ b → r ≡ guard b 13 0 → left ≡ pick b w (entered w t) → Enters w t r left
    go true q e l =
        record {
          judged = e ∙ sym (rows true q);
          done = λ z. absurd (let no' : ⊥ = omega (arith, e, z) in no');
          refused = λ other. l;
        }
    go false q e l = record { judged = e ∙ sym (rows false q); done = λ z. l; refused = λ other. absurd (other e) }

-- The same, the trial by another name.
pub enter_same : (w left : List ℕ) (r : ℕ) {t u : Trial} → t ≡ u → Enters w t r left → Enters w u r left
enter_same w left r e h = subst (λ t. Enters w t r left) e h

-- The ways out of `insert`: refused by rows 1 to 3, or by a row of its own, or done.
pub insert_refused : (w : List ℕ) (t : Trial) (r : ℕ) → r ≡ archive_rows w 0 → (r ≡ 0 → ⊥) → (r ≡ (insert w t).refusal) × (w ≡ (insert w t).words)
unfolding insert
insert_refused w t r e n =
    outcome_refused (insert w t) w [] r (leaves_refused w [] _ r _ _ _ (rows_refused w r (insert_rows (read w) t) e n) n)

module _ (w : List ℕ) (t : Trial) (p : archive_rows w 0 ≡ 0) where
  pub insert_turned : {left : List ℕ} {r : ℕ} → Enters w t r left → (r ≡ 0 → ⊥) → (r ≡ (insert w t).refusal) × (left ≡ (insert w t).words)
  unfolding insert
  insert_turned {left} {r} h n =
      let o = outcome_refused (insert w t) w [] r (leaves_refused w [] _ r _ _ _ (rows_passed w _ p ∙ sym h.judged) n) in
      (o.0, h.refused n ∙ o.1)

  pub insert_done : {left : List ℕ} → insert_rows (read w) t ≡ 0 → left ≡ layout (inserted (read w) t) ++ behind w → (◌≡◌ {A = ℕ} 0 (insert w t).refusal) × (left ≡ (insert w t).words)
  unfolding insert
  insert_done e l =
      let o = leaves_done w [] (archive_rows w (insert_rows (read w) t)) 0 (layout (inserted (read w) t) ++ behind w) [] (rows_passed w _ p ∙ e) in
      (sym (ap (λ (x : Outcome). x.refusal) o), l ∙ sym (ap (λ (x : Outcome). x.words) o))
