-- A share is the nearest number of millionths, from 0 to a million.
use Prim.Native.Nat.{ℕ, zero, suc, ◌*◌, ◌≤◌}
use mathlib.Core.Path.{◌≡◌, refl, sym, ap, subst, ◌∙◌}
use mathlib.Core.List.{List}
use native.Mathlib.Omega.{arith}
use Rattle.rounding.specs.Nearest.{nearest, IsNearest}
use Rattle.rounding.proofs.Nearest.{rounding}
use Rattle.words.specs.Layout.{read, word}
use Rattle.words.specs.Format.{archive_rows}
use Rattle.calls.specs.Calls.{share_of, box_of}
use Rattle.calls.specs.Lent.{answer, share}
use Rattle.calls.specs.Shares.{ShareInMillionths}
use Rattle.calls.proofs.Known.{known, box_filled}

module _ (w : List ℕ) where
  passed_value : archive_rows w 0 ≡ 0 → (share w).value ≡ nearest (word w 5 * 1000000) (box_of (read w))
  unfolding share answer share_of read
  passed_value e = rw e

  -- A call that is turned down answers 0.
  by_rows : (P : ℕ → Type 0) → P 0 → (archive_rows w 0 ≡ 0 → P (nearest (word w 5 * 1000000) (box_of (read w)))) → P (share w).value
  unfolding share answer share_of read
  by_rows P Turned-down done = go (archive_rows w 0) refl
    where
      go : (n : ℕ) → archive_rows w 0 ≡ n → P (answer n (share_of (read w))).value
      go zero e = done e
      go (suc n) e = Turned-down

  share_nearest : archive_rows w 0 ≡ 0 → IsNearest (word w 5 * 1000000) (box_of (read w)) (share w).value
  unfolding read
  share_nearest e =
      subst (λ a. IsNearest (word w 5 * 1000000) (box_of (read w)) a) (sym (passed_value e)) (rounding.is (word w 5 * 1000000) (box_of (read w)) (box_filled w e))

  -- A whole number of millionths of the box.
  whole_millionths : (k : ℕ) → archive_rows w 0 ≡ 0 → word w 5 * 1000000 ≡ k * box_of (read w) → nearest (word w 5 * 1000000) (box_of (read w)) ≡ k
  unfolding read
  whole_millionths k e same =
      ap (λ n. nearest n (box_of (read w))) same ∙ rounding.exact k (box_of (read w)) (box_filled w e)

  share_at_most : (share w).value ≤ 1000000
  unfolding read
  share_at_most =
      by_rows (λ a. a ≤ 1000000) (omega arith) (λ e.
      let one : 1 ≤ box_of (read w) = box_filled w e in
      let most : word w 5 ≤ box_of (read w) = (known w e).boxed in
      let more : word w 5 * 1000000 ≤ 1000000 * box_of (read w) = omega arith in
      subst (λ a. nearest (word w 5 * 1000000) (box_of (read w)) ≤ a) (rounding.exact 1000000 (box_of (read w)) one)
      (rounding.rising (word w 5 * 1000000) (1000000 * box_of (read w)) (box_of (read w)) one more))

  share_none : word w 5 ≡ 0 → (share w).value ≡ 0
  share_none z = by_rows (λ a. a ≡ 0) refl (λ e. whole_millionths 0 e (omega arith))

  share_whole : archive_rows w 0 ≡ 0 → word w 5 ≡ box_of (read w) → (share w).value ≡ 1000000
  share_whole e z = passed_value e ∙ whole_millionths 1000000 e (omega arith)

pub shares : ShareInMillionths
shares = record { nearest = share_nearest; at_most = share_at_most; none = share_none; whole = share_whole }
