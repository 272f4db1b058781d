-- The rows of a rearranging, one after the other, and its outcome.
use Prim.Native.Nat.{ℕ, ◌+◌, ◌*◌, ◌≤◌, ◌<◌}
use mathlib.Core.Path.{◌≡◌, refl, sym, ap, ◌∙◌}
use mathlib.Core.Bool.{Bool, true, false, not}
use mathlib.Core.List.{List, ◌++◌, map}
use native.Mathlib.Omega.{arith}
use lib.Dec.{ltb}
use lib.ListN.{length, drop, length-map}
use borrow.Author.Tests.{lt-ltb, le-ltb, ltb-false, not-false}
use Rattle.words.specs.Archive.{Archive}
use Rattle.words.specs.Layout.{word, extent, layout, read, read_shape}
use Rattle.words.specs.Format.{guard, archive_rows}
use Rattle.words.proofs.Reading.{length_layout}
use Rattle.words.proofs.Passed.{passed_both, guard_none}
use Rattle.calls.specs.Calls.{audited}
use Rattle.calls.proofs.Answers.{guard_yes, guard_no, rows_refused, rows_passed, leaves_refused, leaves_done}
use Rattle.calls.proofs.Known.{known, count_rows}
use Rattle.calls.proofs.InOrder.{in_order_length}
use Rattle.axes.specs.Rearranging.{rearranged_shape, rearranged_row, rearranged_archive, rearrange_rows, rearrange}

module _ (w : List ℕ) (order room : ℕ) where
  pub archive_row : {r : ℕ} → r ≡ archive_rows w 0 → (r ≡ 0 → ⊥) → r ≡ rearrange_rows w order room
  unfolding rearrange_rows
  archive_row {r} e n = sym (rows_refused w r _ e n)

  module _ (pass : archive_rows w 0 ≡ 0) where
    pub row_22 : 5 < order → ◌≡◌ {A = ℕ} 22 (rearrange_rows w order room)
    unfolding rearrange_rows
    row_22 l = sym (rows_passed w _ pass ∙ guard_yes _ 22 _ (lt-ltb 5 order l))

    module _ (known : order ≤ 5) where
      behind_22 : rearrange_rows w order room ≡ guard (not (audited (read w))) 13 (guard (ltb room (8 + 5 * word w 1)) 1 0)
      unfolding rearrange_rows extent
      behind_22 = rows_passed w _ pass ∙ guard_no _ 22 _ (le-ltb 5 order known)

      module _ (t : Bool) (e : t ≡ audited (read w)) where
        pub row_13 : t ≡ false → ◌≡◌ {A = ℕ} 13 (rearrange_rows w order room)
        row_13 f = sym (behind_22 ∙ guard_yes _ 13 _ (ap not (sym e ∙ f)))

        behind_13 : t ≡ true → rearrange_rows w order room ≡ guard (ltb room (8 + 5 * word w 1)) 1 0
        behind_13 f = behind_22 ∙ guard_no _ 13 _ (ap not (sym e ∙ f))

        pub row_1 : t ≡ true → room < 8 + 5 * word w 1 → ◌≡◌ {A = ℕ} 1 (rearrange_rows w order room)
        row_1 f l = sym (behind_13 f ∙ guard_yes _ 1 _ (lt-ltb room (8 + 5 * word w 1) l))

        pub no_row : t ≡ true → 8 + 5 * word w 1 ≤ room → ◌≡◌ {A = ℕ} 0 (rearrange_rows w order room)
        no_row f l = sym (behind_13 f ∙ guard_no _ 1 _ (le-ltb room (8 + 5 * word w 1) l))

-- What the rows tell where they pass.
pub record Rearrangeable (w : List ℕ) (order room : ℕ) : Type 0 where
  pub passes : archive_rows w 0 ≡ 0
  pub known : order < 6
  pub counted : audited (read w) ≡ true
  pub long : extent (word w 1) ≤ room

pub rearrangeable : (w : List ℕ) (order room : ℕ) → rearrange_rows w order room ≡ 0 → Rearrangeable w order room
unfolding rearrange_rows
rearrangeable w order room e =
    let first = passed_both w _ e in
    let second = guard_none _ _ _ first.1 in
    let third = guard_none _ _ _ second.1 in
    let fourth = guard_none _ _ _ third.1 in
    record {
      passes = first.0;
      known = let low : order ≤ 5 = ltb-false 5 order second.0 in omega arith;
      counted = not-false _ third.0;
      long = ltb-false room (extent (word w 1)) fourth.0;
    }

pub rearranges : {w : List ℕ} {order room : ℕ} → Rearrangeable w order room → rearrange_rows w order room ≡ 0
unfolding extent
rearranges {w} {order} {room} h = sym (no_row w order room h.passes (let low : order ≤ 5 = omega (arith, h.known) in low) true (sym h.counted) refl h.long)

-- The archive rearranged has as many records, and takes as many words.
pub rearranged_count : (order : ℕ) (a : Archive) → length (rearranged_archive order a).rows ≡ length a.rows
unfolding rearranged_archive
rearranged_count order a =
    in_order_length (λ r. r.trial) (map (rearranged_row order) a.rows) ∙ length-map a.rows (rearranged_row order)

pub rearranged_many : (w : List ℕ) (order : ℕ) → length (rearranged_archive order (read w)).rows ≡ word w 0
rearranged_many w order = rearranged_count order (read w) ∙ count_rows w

pub rearranged_long : (w : List ℕ) (order : ℕ) → archive_rows w 0 ≡ 0 → length (layout (rearranged_archive order (read w))) ≡ extent (word w 1)
unfolding rearranged_archive rearranged_shape read read_shape
rearranged_long w order pass =
    length_layout (rearranged_archive order (read w)) (omega (arith, rearranged_many w order, (known w pass).held_within))

-- The outcome.
pub refused : (w : List ℕ) (order : ℕ) (second : List ℕ) {r : ℕ} → r ≡ rearrange_rows w order (length second) → (r ≡ 0 → ⊥)
    → rearrange w order second ≡ record { refusal = r; value = 0; words = w; log = second }
unfolding rearrange
refused w order second {r} e n =
    leaves_refused w second (rearrange_rows w order (length second)) r 0 w (layout (rearranged_archive order (read w))) (sym e) n

pub done : (w : List ℕ) (order : ℕ) (second : List ℕ) → Rearrangeable w order (length second)
    → rearrange w order second ≡ record { refusal = 0; value = 0; words = w; log = layout (rearranged_archive order (read w)) ++ drop (extent (word w 1)) second }
unfolding rearrange
done w order second h =
    leaves_done w second (rearrange_rows w order (length second)) 0 w (layout (rearranged_archive order (read w))) (rearranges h)
    ∙ ap (λ n. record { refusal = 0; value = 0; words = w; log = layout (rearranged_archive order (read w)) ++ drop n second }) (rearranged_long w order h.passes)
