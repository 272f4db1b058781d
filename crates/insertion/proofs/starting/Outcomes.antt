-- The ways out of start.
use Prim.Native.Nat.{ℕ, ◌+◌, ◌*◌, ◌≤◌, ◌<◌}
use mathlib.Core.Path.{◌≡◌, sym, ap, ap₂, ◌∙◌}
use mathlib.Core.Bool.{Bool, true, false, not}
use mathlib.Core.List.{List, ◌++◌, append_assoc, []}
use native.Mathlib.Nat.{sub-zero}
use lib.Dec.{ltb}
use borrow.Author.Tests.{lt-ltb, le-ltb, ltb-false}
use lib.ListN.{length, drop, replicate, length-replicate, replicate-append-replicate}
use lib.Seq.{drop_at}
use Rattle.slices.specs.Put.{put}
use Rattle.slices.proofs.Put.{put_front}
use Rattle.hypervolume.specs.Front.{unbeaten, front}
use Rattle.words.specs.Archive.{Shape, trials, points}
use Rattle.words.specs.Layout.{extent, layout, header, records, header_words}
use Rattle.words.specs.Format.{guard, shape_allowed}
use Rattle.words.proofs.Passed.{guard_none}
use Rattle.calls.specs.Calls.{empty}
use Rattle.calls.specs.Lent.{Outcome, start, start_rows}
use Rattle.calls.proofs.Answers.{guard_yes, guard_no, leaves_refused, leaves_done, outcome_refused}

-- Rows 4 and 1, one after the other.
module _ (long : ℕ) (s : Shape) (t : Bool) (e : t ≡ shape_allowed s) where
  pub row_4 : t ≡ false → ◌≡◌ {A = ℕ} 4 (start_rows long s)
  unfolding start_rows
  row_4 f = sym (guard_yes _ 4 _ (ap not (sym e ∙ f)))

  behind_4 : t ≡ true → start_rows long s ≡ guard (ltb long (8 + 5 * s.capacity)) 1 0
  unfolding start_rows extent
  behind_4 f = guard_no _ 4 _ (ap not (sym e ∙ f))

  pub row_1 : t ≡ true → long < 8 + 5 * s.capacity → ◌≡◌ {A = ℕ} 1 (start_rows long s)
  row_1 f l = sym (behind_4 f ∙ guard_yes _ 1 _ (lt-ltb long (8 + 5 * s.capacity) l))

  pub no_row : t ≡ true → 8 + 5 * s.capacity ≤ long → ◌≡◌ {A = ℕ} 0 (start_rows long s)
  no_row f l = sym (behind_4 f ∙ guard_no _ 1 _ (le-ltb long (8 + 5 * s.capacity) l))

-- What they leave: room for the archive.
pub start_room : (long : ℕ) (s : Shape) {k : ℕ} → k ≡ start_rows long s → k ≡ 0 → 8 + 5 * s.capacity ≤ long
unfolding start_rows extent
start_room long s e none =
    ltb-false _ _ (guard_none _ _ _ (guard_none _ _ _ (sym e ∙ none)).1).0

-- Start.
pub start_refused : (w : List ℕ) (s : Shape) {k : ℕ} → k ≡ start_rows (length w) s → (k ≡ 0 → ⊥) → (k ≡ (start w s).refusal) × (w ≡ (start w s).words)
unfolding start
start_refused w s {k} e other = outcome_refused (start w s) w [] k (leaves_refused w [] _ k _ _ _ (sym e) other)

pub start_done : (w w₁ w₂ : List ℕ) (s : Shape) (end : ℕ) {k : ℕ} → k ≡ start_rows (length w) s → k ≡ 0 → end ≡ 8 + 5 * s.capacity
    → w₁ ≡ put w 0 (replicate end 0)
    → w₂ ≡ put w₁ 0 (header_words 0 s 0 0)
    → (◌≡◌ {A = ℕ} 0 (start w s).refusal) × (w₂ ≡ (start w s).words)
unfolding start extent layout header records empty trials points front unbeaten put
start_done w w₁ w₂ s end e none g e₁ e₂ =
    let rest : List ℕ = drop (8 + 5 * s.capacity) w in
    let front : w₁ ≡ replicate 8 0 ++ (replicate (5 * s.capacity) 0 ++ rest) =
    e₁
    ∙ put_front w (replicate end 0)
    ∙ ap₂ (λ k j. replicate k 0 ++ drop j w) g (length-replicate {A = ℕ} end 0 ∙ g)
    ∙ ap (λ k. k ++ rest) (sym (replicate-append-replicate 8 (5 * s.capacity) 0))
    ∙ append_assoc (replicate 8 0) (replicate (5 * s.capacity) 0) rest in
    let tail : drop 8 w₁ ≡ replicate (5 * s.capacity) 0 ++ rest =
    ap (drop 8) front ∙ drop_at (replicate 8 0) (replicate (5 * s.capacity) 0 ++ rest) 8 (length-replicate {A = ℕ} 8 0) in
    let after : w₂ ≡ layout (empty s) ++ drop (8 + 5 * s.capacity) w =
    e₂
    ∙ ap (λ k. header_words 0 s 0 0 ++ k) (tail ∙ ap (λ k. replicate (5 * k) 0 ++ rest) (sym (sub-zero s.capacity))) in
    let left = leaves_done w [] (start_rows (length w) s) 0 (layout (empty s) ++ drop (8 + 5 * s.capacity) w) [] (sym e ∙ none) in
    (sym (ap (λ (x : Outcome). x.refusal) left), after ∙ sym (ap (λ (x : Outcome). x.words) left))
