-- The rows of the call: the loop over the coordinates, and how the chain of rows ends.
use Prim.Native.Nat.{ℕ, zero, suc, ◌+◌, ◌/◌, ◌%◌, ◌≤◌, ◌<◌, zero-le}
use mathlib.Core.Path.{◌≡◌, refl, sym, ap, ◌∙◌}
use mathlib.Core.Bool.{Bool, true, false, not}
use mathlib.Core.List.{List, ◌∷◌, []}
use native.Mathlib.Numerals.{add-one}
use native.Mathlib.Omega.{arith}
use lib.ListN.{length, drop, get_or, drop_of_length-le}
use lib.Seq.{drop-cons}
use lib.Dec.{leb, ltb, eqb}
use borrow.Author.Tests.{le-leb, lt-leb, lt-ltb, le-ltb, eq-eqb, ne_eqb, eqb-true, ltb-false, not-false}
use Rattle.slices.specs.Choices.{both}
use Rattle.slices.specs.Put.{put}
use Rattle.slices.proofs.Choices.{both_comm}
use Rattle.words.specs.Format.{guard, within, each}
use Rattle.words.proofs.Passed.{guard_none}
use Rattle.sweep4.specs.Quadruples.{points_of, counts_of}
use Rattle.sweep4.specs.Passing.{Readable}
use Rattle.four.specs.Count4.{count4_rows, written_or, count4, counted4}

-- The coordinates passed are allowed, so those left decide.
pub record Judged (l : List ℕ) (i : ℕ) : Type 0 where
  pub part : i ≤ length l
  pub left : each (within 0 32768) l ≡ each (within 0 32768) (drop i l)

pub judged_none : (l : List ℕ) → Judged l 0
judged_none l = record { part = omega arith; left = refl }

module _ {l : List ℕ} {i : ℕ} (h : Judged l i) where
  next : i < length l → each (within 0 32768) l ≡ both (within 0 32768 (get_or l i 0)) (each (within 0 32768) (drop (i + 1) l))
  unfolding each
  next m = h.left ∙ rw (drop-cons l i 0 m, add-one i)

  pub judged_found : i < length l → 32768 < get_or l i 0 → false ≡ each (within 0 32768) l
  unfolding within both
  judged_found m n =
      sym (next m ∙ rw (lt-leb (get_or l i 0) 32768 n, both_comm (leb 0 (get_or l i 0)) false))

  pub judged_more : i < length l → get_or l i 0 ≤ 32768 → Judged l (i + 1)
  unfolding within both
  judged_more m n =
      record {
        part = omega arith;
        left = next m ∙ rw (le-leb 0 (get_or l i 0) zero-le, le-leb (get_or l i 0) 32768 n);
      }

  pub judged_end : length l ≤ i → true ≡ each (within 0 32768) l
  unfolding each
  judged_end m = sym (h.left ∙ rw (drop_of_length-le l m))

-- Each way out in turn.
module _ (r coords : List ℕ) (room : ℕ) where
  pub row_4 : each (within 1 32768) r ≡ false → ◌≡◌ {A = ℕ} 4 (count4_rows r coords room)
  unfolding count4_rows guard
  row_4 e = rw e

  module _ (referred : each (within 1 32768) r ≡ true) where
    pub row_17 : (length coords % 4 ≡ 0 → ⊥) → ◌≡◌ {A = ℕ} 17 (count4_rows r coords room)
    unfolding count4_rows guard
    row_17 n = rw (referred, ne_eqb (length coords % 4) 0 n)

    module _ (fours : length coords % 4 ≡ 0) where
      pub row_20 : 512 < length coords / 4 → ◌≡◌ {A = ℕ} 20 (count4_rows r coords room)
      unfolding count4_rows guard
      row_20 l = rw (referred, eq-eqb (length coords % 4) 0 fours, lt-ltb 512 (length coords / 4) l)

      module _ (few : length coords / 4 ≤ 512) where
        pub row_6 : each (within 0 32768) coords ≡ false → ◌≡◌ {A = ℕ} 6 (count4_rows r coords room)
        unfolding count4_rows guard
        row_6 e = rw (referred, eq-eqb (length coords % 4) 0 fours, le-ltb 512 (length coords / 4) few, e)

        module _ (allowed : each (within 0 32768) coords ≡ true) where
          pub row_16 : room < length coords / 4 + 1 → ◌≡◌ {A = ℕ} 16 (count4_rows r coords room)
          unfolding count4_rows guard
          row_16 l = rw (referred, eq-eqb (length coords % 4) 0 fours, le-ltb 512 (length coords / 4) few, allowed, lt-ltb room (length coords / 4 + 1) l)

          pub no_row : length coords / 4 + 1 ≤ room → ◌≡◌ {A = ℕ} 0 (count4_rows r coords room)
          unfolding count4_rows guard
          no_row l = rw (referred, eq-eqb (length coords % 4) 0 fours, le-ltb 512 (length coords / 4) few, allowed, le-ltb room (length coords / 4 + 1) l)

-- What a call that no row turns down has.
pub record Allowed (r coords : List ℕ) (room : ℕ) : Type 0 where
  pub referred : each (within 1 32768) r ≡ true
  pub readable : Readable coords
  pub enough : length coords / 4 < room

pub allowed : (r coords : List ℕ) (room : ℕ) → count4_rows r coords room ≡ 0 → Allowed r coords room
unfolding count4_rows
allowed r coords room e =
    let one = guard_none (not (each (within 1 32768) r)) 3 _ e in
    let two = guard_none (not (eqb (length coords % 4) 0)) 16 _ one.1 in
    let three = guard_none (ltb 512 (length coords / 4)) 19 _ two.1 in
    let four = guard_none (not (each (within 0 32768) coords)) 5 _ three.1 in
    let five = guard_none (ltb room (length coords / 4 + 1)) 15 0 four.1 in
    record {
      referred = not-false (each (within 1 32768) r) one.0;
      readable =
          record {
            fours = eqb-true (length coords % 4) 0 (not-false (eqb (length coords % 4) 0) two.0);
            few = ltb-false 512 (length coords / 4) three.0;
            allowed = not-false (each (within 0 32768) coords) four.0;
          };
      enough = omega (arith, ltb-false room (length coords / 4 + 1) five.0);
    }

-- The call's outcome: turned down, or counted.
module _ (r coords out : List ℕ) {row : ℕ} (e : row ≡ count4_rows r coords (length out)) where
  pub refused : (row ≡ 0 → ⊥) → (row ≡ count4 r coords out) × (out ≡ counted4 r coords out)
  unfolding count4 counted4 written_or
  refused n = (e, rw (← e) (kept row n))
    where
      kept : (k : ℕ) → (k ≡ 0 → ⊥) → out ≡ written_or k out (counts_of r (points_of coords))
      kept zero n = absurd (n refl)
      kept (suc k) n = refl

  pub done : row ≡ 0 → {now : List ℕ} → now ≡ put out 0 (counts_of r (points_of coords)) → (◌≡◌ {A = ℕ} 0 (count4 r coords out)) × (now ≡ counted4 r coords out)
  unfolding count4 counted4 written_or
  done z f = (sym z ∙ e, f ∙ rw (← e, z))
