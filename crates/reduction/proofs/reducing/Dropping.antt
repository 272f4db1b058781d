-- The loop of drops: each is made on the columns that the one before left, and is noted behind it.
use Prim.Native.Nat.{ℕ, zero, suc, ◌+◌, ◌-◌, ◌*◌, ◌≤◌, ◌<◌}
use mathlib.Core.Path.{◌≡◌, refl, sym, ap, ap₂, ◌∙◌, subst}
use mathlib.Core.List.{List, ◌++◌, append_assoc, append-nil}
use native.Mathlib.Nat.{sub-zero}
use native.Mathlib.Numerals.{add-one}
use native.Mathlib.Omega.{arith}
use lib.ListN.{length}
use Rattle.slices.specs.Put.{put}
use Rattle.slices.proofs.Put.{put_none, put_then}
use Rattle.words.specs.Archive.{Archive}
use Rattle.calls.specs.Calls.{removed, dropped, note, after_drops, notes}
use Rattle.reduction.specs.Columns.{InColumns, Droppable}
use Rattle.reduction.proofs.columns.Dropping.{droppable_after}

-- One drop more, at the end.
drops_more : (rule i : ℕ) (a : Archive) → after_drops rule (suc i) a ≡ dropped rule (after_drops rule i a)
unfolding after_drops
drops_more rule zero a = refl
drops_more rule (suc i) a = drops_more rule i (dropped rule a)

notes_more : (rule i : ℕ) (a : Archive) → notes rule (suc i) a ≡ notes rule i a ++ note rule (after_drops rule i a)
unfolding notes after_drops
notes_more rule zero a = append-nil (note rule a)
notes_more rule (suc i) a =
    ap (λ l. note rule a ++ l) (notes_more rule i (dropped rule a)) ∙ sym (append_assoc (note rule a) (notes rule i (dropped rule a)) (note rule (after_drops rule i (dropped rule a))))

length_notes : (rule i : ℕ) (a : Archive) → length (notes rule i a) ≡ 2 * i
unfolding notes note
length_notes rule zero a = refl
length_notes rule (suc i) a =
    let later : length (notes rule i (dropped rule a)) ≡ 2 * i = length_notes rule i (dropped rule a) in
    omega arith

pub some_left : (i drops n : ℕ) → i < drops → drops ≤ n → 0 < n - i
some_left i drops n l m = omega arith

-- Drops leave the shape.
pub drops_shape : (rule i : ℕ) (a : Archive) → (after_drops rule i a).shape ≡ a.shape
unfolding after_drops dropped removed
drops_shape rule zero a = refl
drops_shape rule (suc i) a = drops_shape rule i (dropped rule a)

-- i drops are made from this archive.
pub record Dropped (rule : ℕ) (a : Archive) (reference : List ℕ) (n i left : ℕ) (numbers : List ℕ) (coordinates : List (List ℕ)) (kept log₀ log : List ℕ) : Type 0 where
  pub holds : InColumns (after_drops rule i a) reference (n - i) left numbers coordinates kept
  pub droppable : Droppable (after_drops rule i a)
  pub noted : log ≡ put log₀ 0 (notes rule i a)

-- What the counting writes in has 512 places each.
pub record Fixed (corners : List (List ℕ)) (places line counts : List ℕ) : Type 0 where
  pub corners_long : length corners ≡ 512
  pub places_long : length places ≡ 512
  pub line_long : length line ≡ 512
  pub counts_long : length counts ≡ 512

-- The columns at the start.
module _ (rule : ℕ) (reference : List ℕ) (n total : ℕ) (numbers₀ : List ℕ) (coordinates₀ : List (List ℕ)) (kept₀ log₀ : List ℕ) where
  pub record DropsMade (drops i left : ℕ) (numbers : List ℕ) (coordinates : List (List ℕ)) (kept log : List ℕ) (corners : List (List ℕ)) (places line counts : List ℕ) : Type 0 where
    pub part : i ≤ drops
    pub made : (a : Archive) → InColumns a reference n total numbers₀ coordinates₀ kept₀ → Droppable a → Dropped rule a reference n i left numbers coordinates kept log₀ log
    pub scratch : Fixed corners places line counts
    pub numbers_long : length numbers ≡ length numbers₀
    pub coordinates_long : length coordinates ≡ length coordinates₀
    pub kept_long : length kept ≡ length kept₀
    pub log_long : length log ≡ length log₀

  pub drops_none : (drops : ℕ) (corners : List (List ℕ)) (places line counts : List ℕ) → Fixed corners places line counts → DropsMade drops 0 total numbers₀ coordinates₀ kept₀ log₀ corners places line counts
  unfolding after_drops notes
  drops_none drops corners places line counts s =
      record {
        part = omega arith;
        made = λ a h d. record { holds = subst (λ m. InColumns a reference m total numbers₀ coordinates₀ kept₀) (sym (sub-zero n)) h; droppable = d; noted = sym (put_none log₀ 0) };
        scratch = s;
        numbers_long = refl;
        coordinates_long = refl;
        kept_long = refl;
        log_long = refl;
      }

module _
    {rule : ℕ} {reference : List ℕ} {n total : ℕ} {numbers₀ : List ℕ} {coordinates₀ : List (List ℕ)} {kept₀ log₀ : List ℕ}
    {drops i left : ℕ} {numbers : List ℕ} {coordinates : List (List ℕ)} {kept log : List ℕ} {corners : List (List ℕ)} {places line counts : List ℕ}
    (h : DropsMade rule reference n total numbers₀ coordinates₀ kept₀ log₀ drops i left numbers coordinates kept log corners places line counts)
  where
    pub drops_next : (left' : ℕ) (numbers' : List ℕ) (coordinates' : List (List ℕ)) (kept' log' : List ℕ) (corners' : List (List ℕ)) (places' line' counts' : List ℕ) → i < drops → drops ≤ n → 2 * drops ≤ length log₀
        → ((a : Archive) → InColumns a reference (n - i) left numbers coordinates kept → Droppable a → InColumns (dropped rule a) reference (n - i - 1) left' numbers' coordinates' kept' × (log' ≡ put log (2 * i) (note rule a)))
        → length numbers' ≡ length numbers → length coordinates' ≡ length coordinates → length kept' ≡ length kept → length log' ≡ length log
        → length corners' ≡ length corners → length places' ≡ length places → length line' ≡ length line → length counts' ≡ length counts
        → DropsMade rule reference n total numbers₀ coordinates₀ kept₀ log₀ drops (i + 1) left' numbers' coordinates' kept' log' corners' places' line' counts'
    drops_next left' numbers' coordinates' kept' log' corners' places' line' counts' l few fits drop ln lp lk ll lc ls li lo =
        let s : Fixed corners places line counts = h.scratch in
        record {
          part = omega arith;
          made = next;
          scratch = record { corners_long = lc ∙ s.corners_long; places_long = ls ∙ s.places_long; line_long = li ∙ s.line_long; counts_long = lo ∙ s.counts_long };
          numbers_long = ln ∙ h.numbers_long;
          coordinates_long = lp ∙ h.coordinates_long;
          kept_long = lk ∙ h.kept_long;
          log_long = ll ∙ h.log_long;
        }
      where
        next : (a : Archive) → InColumns a reference n total numbers₀ coordinates₀ kept₀ → Droppable a → Dropped rule a reference n (i + 1) left' numbers' coordinates' kept' log₀ log'
        next a g d =
            let one = h.made a g d in
            let b = after_drops rule i a in
            let after = drop b one.holds one.droppable in
            let many : length (after_drops rule i a).rows ≡ n - i = one.holds.held.many in
            let next-is : after_drops rule (i + 1) a ≡ dropped rule b = ap (λ k. after_drops rule k a) (add-one i) ∙ drops_more rule i a in
            let size : length (notes rule i a) ≡ 2 * i = length_notes rule i a in
            record {
              holds =
                  subst (λ x. InColumns x reference (n - (i + 1)) left' numbers' coordinates' kept') (sym next-is)
                  (subst (λ m. InColumns (dropped rule b) reference m left' numbers' coordinates' kept') (let e : n - i - 1 ≡ n - (i + 1) = omega arith in e) after.0);
              droppable = subst Droppable (sym next-is) (droppable_after rule b one.droppable (let m : 0 < length (after_drops rule i a).rows = omega arith in m));
              noted =
                  after.1
                  ∙ ap₂ (λ x k. put x k (note rule b)) one.noted (let q : 2 * i ≡ 0 + length (notes rule i a) = omega arith in q)
                  ∙ put_then log₀ 0 (notes rule i a) (note rule b) (omega arith)
                  ∙ ap (put log₀ 0) (sym (ap (λ k. notes rule k a) (add-one i) ∙ notes_more rule i a));
            }

    pub drops_end : drops ≤ i → (a : Archive) → InColumns a reference n total numbers₀ coordinates₀ kept₀ → Droppable a
        → InColumns (after_drops rule drops a) reference (n - drops) left numbers coordinates kept × (log ≡ put log₀ 0 (notes rule drops a))
    drops_end l a g d =
        let e : i ≡ drops = (let part : i ≤ drops = h.part in omega arith) in
        let one = h.made a g d in (
          subst (λ k. InColumns (after_drops rule k a) reference (n - k) left numbers coordinates kept) e one.holds,
          one.noted ∙ ap (λ k. put log₀ 0 (notes rule k a)) e,
        )
