-- Amounts said by the places of those that are not 0: each at its place, none above a limit that all keep, those of a list
-- that is said so, and values moved by these.
use Prim.Native.Nat.{ℕ, suc, ◌≤◌, ◌<◌}
use mathlib.Core.Path.{◌≡◌, sym, ap, ◌∙◌}
use mathlib.Core.List.{List}
use native.Mathlib.Decide.{dec_lt}
use native.Mathlib.Omega.{arith}
use lib.ListN.{length, take, get_or, replicate, length-replicate, get_or-eq_default}
use lib.Seq.{length-take-le, get_or-take}
use Rattle.slices.specs.Spread.{spread, Sparse}
use Rattle.slices.specs.Amounts.{moved, Each, Placed, amounts_at}
use Rattle.slices.proofs.Spread.{spread_at}

-- The k-th of them stands at the k-th place.
pub amount_at : {n : ℕ} {places counts : List ℕ} → Placed n places counts → (k : ℕ) → k < length places → get_or (amounts_at n places counts) (get_or places k 0) 0 ≡ get_or counts k 0
amount_at {n} {places} {counts} h k l =
    spread_at (replicate n 0) places counts k h.many h.rising l
    (let size : length {A = ℕ} (replicate n 0) ≡ n = length-replicate n 0 in let there : get_or places k 0 < n = h.inside k l in omega arith)

-- No count is above the limit where no amount is.
pub counts_low : {n : ℕ} {places counts : List ℕ} (limit : ℕ) → Placed n places counts → Each (amounts_at n places counts) limit → Each counts limit
counts_low {n} {places} {counts} limit h low k = go (dec_lt k (length places))
  where
    go : Dec (k < length places) → get_or counts k 0 ≤ limit
    go (yes l) = omega (arith, amount_at h k l, low (get_or places k 0))
    go (no l) =
        let many : length counts ≡ length places = h.many in
        let none : get_or counts k 0 ≡ 0 = get_or-eq_default counts 0 (let m : length counts ≤ k = omega arith in m) in
        omega arith

-- The first m places and numbers of a list that they say.
pub sparse_placed : {n : ℕ} {all places numbers : List ℕ} {m : ℕ} → Sparse n all places numbers m → m ≤ length places → m ≤ length numbers
    → Placed n (take m places) (take m numbers)
sparse_placed {n} {all} {places} {numbers} {m} h l₁ l₂ =
    let size : length (take m places) ≡ m = length-take-le m places l₁ in
    record {
      many = length-take-le m numbers l₂ ∙ sym size;
      inside = λ k l. rw (get_or-take m places k 0 (let s : k < m = omega arith in s)) (h.inside k (omega arith));
      rising =
          λ k l.
          rw (get_or-take m places k 0 (let s : k < m = omega arith in s), get_or-take m places (suc k) 0 (let s : suc k < m = omega arith in s))
          (h.rising k (omega arith));
    }

-- Its number at the k-th place.
pub sparse_at : {n : ℕ} {all places numbers : List ℕ} {m : ℕ} → Sparse n all places numbers m → Placed n (take m places) (take m numbers) → (k : ℕ) → k < length (take m places)
    → get_or all (get_or (take m places) k 0) 0 ≡ get_or (take m numbers) k 0
sparse_at {n} {all} {places} {numbers} {m} h placed k l = ap (λ x. get_or x (get_or (take m places) k 0) 0) h.is_spread ∙ amount_at placed k l

-- Values moved by these amounts are moved by the whole list.
pub moved_sparse : {n : ℕ} {all places numbers : List ℕ} {m : ℕ} → Sparse n all places numbers m → (op : ℕ → ℕ → ℕ) (vs : List ℕ) → length vs ≡ n
    → moved op vs (amounts_at (length vs) (take m places) (take m numbers)) ≡ moved op vs all
moved_sparse {n} {all} {places} {numbers} {m} h op vs e =
    ap (λ k. moved op vs (spread (replicate k 0) (take m places) (take m numbers))) e ∙ ap (moved op vs) (sym h.is_spread)
