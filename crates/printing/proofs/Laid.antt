-- A text as it is written: one part behind the other.
use Prim.Native.Nat.{ℕ, ◌+◌, ◌≤◌, ◌<◌}
use mathlib.Core.Path.{◌≡◌, refl, sym, ap, ◌∙◌}
use mathlib.Core.List.{List, ◌∷◌, ◌++◌, []}
use native.Mathlib.Omega.{arith}
use lib.ListN.{length, set, length-append}
use Rattle.slices.specs.Put.{put}
use Rattle.slices.proofs.Put.{put_one, put_then}
use Rattle.text.specs.Justified.{justified}
use Rattle.text.proofs.Justified.{length_justified}

-- The k bytes `done` stand from byte `at` on.
pub record Laid (old : List ℕ) (at : ℕ) (done : List ℕ) (k : ℕ) (out : List ℕ) : Type 0 where
  pub long : length done ≡ k
  pub is : out ≡ put old at done

module _ {old : List ℕ} {at : ℕ} {done : List ℕ} {k : ℕ} {out : List ℕ} (l : Laid old at done k out) (room : at + k ≤ length old) where
  pub laid_more : {out' : List ℕ} (new : List ℕ) (n : ℕ) → length new ≡ n → out' ≡ put out (at + k) new → Laid old at (done ++ new) (k + n) out'
  laid_more new n wide e =
      let long : length done ≡ k = l.long in
      record {
        long = length-append done new ∙ omega arith;
        is =
            e
            ∙ ap (λ o. put o (at + k) new) l.is
            ∙ ap (λ i. put (put old at done) (at + i) new) (sym long)
            ∙ put_then old at done new (omega arith);
      }

  pub laid_column : {out' : List ℕ} (width n : ℕ) → out' ≡ put out (at + k) (justified width n)
      → Laid old at (done ++ justified width n) (k + width) out'
  laid_column width n e = laid_more (justified width n) width (length_justified width n) e

  pub laid_byte : (b : ℕ) → at + k < length out → Laid old at (done ++ (b ∷ [])) (k + 1) (set out (at + k) b)
  laid_byte b inside = laid_more (b ∷ []) 1 refl (put_one out (at + k) b inside)
