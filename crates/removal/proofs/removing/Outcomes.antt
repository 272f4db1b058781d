-- The ways out of remove.
use Prim.Native.Nat.{ℕ, ◌≤◌, ◌<◌}
use mathlib.Core.Path.{◌≡◌, refl, sym, ap, ◌∙◌}
use mathlib.Core.Bool.{Bool, true, false, not}
use mathlib.Core.List.{List, ◌++◌, []}
use native.Mathlib.Omega.{arith}
use borrow.Author.Tests.{lt-ltb, le-ltb}
use Rattle.slices.specs.Choices.{pick}
use Rattle.words.specs.Layout.{layout, read, word, behind}
use Rattle.words.specs.Format.{guard, archive_rows}
use Rattle.words.specs.Places.{Found}
use Rattle.words.proofs.Places.{find_held}
use Rattle.calls.specs.Calls.{removed, remove_overruns, remove_rows}
use Rattle.calls.specs.Lent.{Outcome, remove}
use Rattle.removal.specs.Removing.{number_at}
use Rattle.calls.proofs.Answers.{guard_yes, guard_no, rows_refused, rows_passed, leaves_refused, leaves_done, outcome_refused}

-- The ways out of `remove`.
pub remove_refused : (w : List ℕ) (n r : ℕ) → r ≡ archive_rows w 0 → (r ≡ 0 → ⊥) → (r ≡ (remove w n).refusal) × (w ≡ (remove w n).words)
unfolding remove
remove_refused w n r e f =
    outcome_refused (remove w n) w [] r (leaves_refused w [] _ r _ _ _ (rows_refused w r (remove_rows (read w) n) e f) f)

pub remove_not_held : (w : List ℕ) (n place : ℕ) → archive_rows w 0 ≡ 0 → Found w (word w 0) n place → word w 0 ≤ place → (◌≡◌ {A = ℕ} 9 (remove w n).refusal) × (w ≡ (remove w n).words)
unfolding remove remove_rows
remove_not_held w n place p f l =
    let nine : remove_rows (read w) n ≡ 9 = guard_yes _ 9 _ (ap not (find_held w n place f ∙ le-ltb place (word w 0) l)) in
    outcome_refused (remove w n) w [] 9 (leaves_refused w [] _ 9 _ _ _ (rows_passed w _ p ∙ nine) (λ z. omega arith))

pub remove_out : (w left : List ℕ) (n place r : ℕ) → archive_rows w 0 ≡ 0 → Found w (word w 0) n place → place < word w 0
    → r ≡ guard (remove_overruns (read w) (number_at w place)) 13 0 → left ≡ pick (remove_overruns (read w) (number_at w place)) w (layout (removed (read w) (number_at w place)) ++ behind w)
    → (r ≡ (remove w n).refusal) × (left ≡ (remove w n).words)
unfolding remove remove_rows guard pick
remove_out w left n place r p f l e q = go (remove_overruns (read w) n) refl
    (e ∙ ap (λ x. guard (remove_overruns (read w) x) 13 0) (f.there l))
    (q ∙ ap (λ x. pick (remove_overruns (read w) x) w (layout (removed (read w) x) ++ behind w)) (f.there l))
  where
    rows : (b : Bool) → remove_overruns (read w) n ≡ b → archive_rows w (remove_rows (read w) n) ≡ guard b 13 0
    rows b q = rows_passed w _ p ∙ guard_no _ 9 _ (ap not (find_held w n place f ∙ lt-ltb place (word w 0) l)) ∙ ap (λ x. guard x 13 0) q

    go : (b : Bool) → remove_overruns (read w) n ≡ b → r ≡ guard b 13 0 → left ≡ pick b w (layout (removed (read w) n) ++ behind w) → (r ≡ (remove w n).refusal) × (left ≡ (remove w n).words)
    go true q e l =
        let o = outcome_refused (remove w n) w [] 13 (leaves_refused w [] _ 13 _ _ _ (rows true q) (λ z. omega arith)) in
        (e ∙ o.0, l ∙ o.1)
    go false q e l =
        let o = leaves_done w [] (archive_rows w (remove_rows (read w) n)) 0 (layout (removed (read w) n) ++ behind w) [] (rows false q) in
        (e ∙ sym (ap (λ (x : Outcome). x.refusal) o), l ∙ sym (ap (λ (x : Outcome). x.words) o))
