-- Rows 18 and 11 to 13, one after the other, and what they tell where they pass.
use Prim.Native.Nat.{ℕ, ◌-◌, ◌*◌, ◌≤◌, ◌<◌}
use mathlib.Core.Path.{◌≡◌, sym, ap, ◌∙◌}
use mathlib.Core.Bool.{Bool, true, false, not}
use mathlib.Core.List.{List}
use lib.Dec.{ltb}
use borrow.Author.Tests.{lt-ltb, le-ltb, not-false, ltb-false}
use Rattle.words.specs.Layout.{word, read}
use Rattle.words.specs.Format.{guard}
use Rattle.calls.specs.Calls.{audited, rule_allowed, reduce_rows}
use Rattle.calls.specs.Counted.{IsCounted}
use Rattle.calls.proofs.Counted.{audited_counted}
use Rattle.calls.proofs.Known.{count_rows}
use Rattle.calls.proofs.Answers.{guard_off, guard_yes, guard_no}

-- Rows 18 and 11 to 13, one after the other.
module _ (w : List ℕ) (k rule log : ℕ) where
  pub rows_18 : rule_allowed rule ≡ false → ◌≡◌ {A = ℕ} 18 (reduce_rows (read w) k rule log)
  unfolding reduce_rows
  rows_18 r = sym (guard_yes _ 18 _ (ap not r))

  module _ (r : rule_allowed rule ≡ true) where
    behind_18 : reduce_rows (read w) k rule log ≡ guard (ltb (word w 0) k) 11 (guard (ltb log (2 * (word w 0 - k))) 12 (guard (not (audited (read w))) 13 0))
    unfolding reduce_rows
    behind_18 =
        guard_no _ 18 _ (ap not r)
        ∙ ap (λ n. guard (ltb n k) 11 (guard (ltb log (2 * (n - k))) 12 (guard (not (audited (read w))) 13 0))) (count_rows w)

    pub rows_11 : word w 0 < k → ◌≡◌ {A = ℕ} 11 (reduce_rows (read w) k rule log)
    rows_11 l = sym (behind_18 ∙ guard_yes _ 11 _ (lt-ltb (word w 0) k l))

    behind_11 : k ≤ word w 0 → reduce_rows (read w) k rule log ≡ guard (ltb log (2 * (word w 0 - k))) 12 (guard (not (audited (read w))) 13 0)
    behind_11 l = behind_18 ∙ guard_no _ 11 _ (le-ltb (word w 0) k l)

    pub rows_12 : k ≤ word w 0 → log < 2 * (word w 0 - k) → ◌≡◌ {A = ℕ} 12 (reduce_rows (read w) k rule log)
    rows_12 l m = sym (behind_11 l ∙ guard_yes _ 12 _ (lt-ltb log (2 * (word w 0 - k)) m))

    pub rows_13 : k ≤ word w 0 → 2 * (word w 0 - k) ≤ log → (b : Bool) → b ≡ audited (read w) → b ≡ false → ◌≡◌ {A = ℕ} 13 (reduce_rows (read w) k rule log)
    rows_13 l m b e f = sym (behind_11 l ∙ guard_no _ 12 _ (le-ltb log (2 * (word w 0 - k)) m) ∙ guard_yes _ 13 _ (ap not (sym e ∙ f)))

    pub rows_none : k ≤ word w 0 → 2 * (word w 0 - k) ≤ log → (b : Bool) → b ≡ audited (read w) → b ≡ true → ◌≡◌ {A = ℕ} 0 (reduce_rows (read w) k rule log)
    rows_none l m b e f = sym (behind_11 l ∙ guard_no _ 12 _ (le-ltb log (2 * (word w 0 - k)) m) ∙ guard_no _ 13 _ (ap not (sym e ∙ f)))

-- What these rows tell where they pass.
pub record Reducible (w : List ℕ) (k log : ℕ) : Type 0 where
  pub above : k ≤ word w 0
  pub room : 2 * (word w 0 - k) ≤ log
  pub counted : IsCounted (read w)

pub reducible : (w : List ℕ) (k rule log : ℕ) → reduce_rows (read w) k rule log ≡ 0 → Reducible w k log
reducible w k rule log e =
    let ruled : rule_allowed rule ≡ true = not-false _ (unfold reduce_rows in guard_off _ 17 _ e) in
    let e₁₁ = sym (behind_18 w k rule log ruled) ∙ e in
    let above : k ≤ word w 0 = ltb-false (word w 0) k (guard_off _ 10 _ e₁₁) in
    let e₁₂ = sym (behind_11 w k rule log ruled above) ∙ e in
    let twelve = guard_off _ 11 _ e₁₂ in
    let e₁₃ = sym (guard_no _ 12 _ twelve) ∙ e₁₂ in
    record {
      above = above;
      room = ltb-false log (2 * (word w 0 - k)) twelve;
      counted = audited_counted (read w) (not-false _ (guard_off _ 12 _ e₁₃));
    }
