-- `place` and `close`: the entries among the first m, once one is put in or the gap between them is closed.
use Prim.Native.Nat.{ℕ, ◌+◌, ◌-◌, ◌≤◌, ◌<◌}
use mathlib.Core.Path.{◌≡◌, refl, sym, ap, ◌∙◌}
use mathlib.Core.List.{List, ◌∷◌, ◌++◌}
use native.Mathlib.Numerals.{add-one}
use native.Mathlib.Omega.{arith}
use lib.ListN.{length, take, drop, set}
use Rattle.slices.specs.Put.{put}
use Rattle.slices.proofs.Put.{put_sooner, take_put_all, drop_put_all, drop_take}
use Rattle.slices.proofs.Moves.{part_long}
use Rattle.line.specs.Entries.{Closed}

-- The entries from `at` on have moved up by one place, and v goes in before them.
module _ (l : List ℕ) (m at v : ℕ) (within : at ≤ m) (room : m < length l) where
  pub placed : set (put l (at + 1) (take (m - at) (drop at l))) at v ≡ put l at (v ∷ take (m - at) (drop at l))
  placed = rw (add-one at) (put_sooner l at (take (m - at) (drop at l)) v (omega arith))

  new : List ℕ
  new = v ∷ take (m - at) (drop at l)

  new_ends : at + length new ≡ m + 1
  unfolding new
  new_ends = omega (arith, part_long l at (m - at) (let u : at + (m - at) ≤ length l = omega arith in u))

  pub placed_front : take (m + 1) (put l at (v ∷ take (m - at) (drop at l))) ≡ take at l ++ (v ∷ drop at (take m l))
  unfolding new
  placed_front =
      ap (λ k. take k (put l at new)) (sym new_ends)
      ∙ take_put_all l at new (omega (arith, new_ends))
      ∙ ap (λ r. take at l ++ (v ∷ r)) (sym (drop_take at m l))

  pub placed_behind : drop (m + 1) (put l at (v ∷ take (m - at) (drop at l))) ≡ drop (m + 1) l
  unfolding new
  placed_behind =
      ap (λ k. drop k (put l at new)) (sym new_ends)
      ∙ drop_put_all l at new (omega (arith, new_ends))
      ∙ ap (λ k. drop k l) new_ends

-- A gap closed.
pub closed_some : (l : List ℕ) (to from m : ℕ) → to ≤ from → from ≤ m → m ≤ length l → {left : List ℕ} → left ≡ put l to (take (m - from) (drop (to + (from - to)) l))
    → Closed l to from m left (to + (m - from))
closed_some l to from m gap within room e =
    let start : to + (from - to) ≡ from = omega arith in
    let long : length (take (m - from) (drop from l)) ≡ m - from = part_long l from (m - from) (omega arith) in
    record {
      ends = refl;
      joined =
          rw (e, start)
          (ap (λ k. take (to + k) (put l to (take (m - from) (drop from l)))) (sym long)
          ∙ take_put_all l to (take (m - from) (drop from l)) (omega arith)
          ∙ ap (λ r. take to l ++ r) (sym (drop_take from m l)));
    }
