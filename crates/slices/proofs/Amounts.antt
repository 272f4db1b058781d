-- Laws of values moved by amounts, pair by pair, for any operation, and of the search for a pair that passes a test.
use Prim.Native.Nat.{ℕ, zero, suc, ◌<◌}
use mathlib.Core.Bool.{Bool, true, false}
use mathlib.Core.Path.{◌≡◌, refl, ap, ap₂}
use mathlib.Core.List.{List, ◌∷◌, []}
use native.Mathlib.Omega.{arith}
use lib.ListN.{length, get_or, set, replicate}
use Rattle.slices.specs.Choices.{either}
use Rattle.slices.specs.Amounts.{moved, some_pair}
use Rattle.slices.proofs.Choices.{either_false, neither}

pub length_moved : (op : ℕ → ℕ → ℕ) (vs ms : List ℕ) → length ms ≡ length vs → length (moved op vs ms) ≡ length vs
unfolding moved
length_moved op [] ms e = refl
length_moved op (v ∷ vs) [] e = absurd (let no' : ⊥ = omega arith in no')
length_moved op (v ∷ vs) (m ∷ ms) e = ap suc (length_moved op vs ms (let f : length ms ≡ length vs = omega arith in f))

pub moved_at : (op : ℕ → ℕ → ℕ) (vs ms : List ℕ) (i : ℕ) → length ms ≡ length vs → i < length vs → get_or (moved op vs ms) i 0 ≡ op (get_or vs i 0) (get_or ms i 0)
unfolding moved
moved_at op [] ms i e l = absurd (let no' : ⊥ = omega arith in no')
moved_at op (v ∷ vs) [] i e l = absurd (let no' : ⊥ = omega arith in no')
moved_at op (v ∷ vs) (m ∷ ms) zero e l = refl
moved_at op (v ∷ vs) (m ∷ ms) (suc i) e l =
    moved_at op vs ms i (let f : length ms ≡ length vs = omega arith in f) (omega arith)

-- One amount set is one value moved.
pub moved_set : (op : ℕ → ℕ → ℕ) (vs ms : List ℕ) (i m : ℕ) → moved op vs (set ms i m) ≡ set (moved op vs ms) i (op (get_or vs i 0) m)
unfolding moved
moved_set op [] ms i m = refl
moved_set op (v ∷ vs) [] i m = refl
moved_set op (v ∷ vs) (a ∷ ms) zero m = refl
moved_set op (v ∷ vs) (a ∷ ms) (suc i) m = ap (λ l. op v a ∷ l) (moved_set op vs ms i m)

pub moved_zeros : (op : ℕ → ℕ → ℕ) (vs : List ℕ) → ((v : ℕ) → op v 0 ≡ v) → moved op vs (replicate (length vs) 0) ≡ vs
unfolding moved
moved_zeros op [] still = refl
moved_zeros op (v ∷ vs) still = ap₂ (λ h t. h ∷ t) (still v) (moved_zeros op vs still)

either_last : (s : Bool) → either s true ≡ true
unfolding either
either_last true = refl
either_last false = refl

-- A pair that passes the test is found; where none passes, each fails it.
pub some_pair_at : (test : ℕ → ℕ → Bool) (vs ms : List ℕ) (i : ℕ) → length ms ≡ length vs → i < length vs → test (get_or vs i 0) (get_or ms i 0) ≡ true → some_pair test vs ms ≡ true
unfolding some_pair either
some_pair_at test [] ms i e l t = absurd (let no' : ⊥ = omega arith in no')
some_pair_at test (v ∷ vs) [] i e l t = absurd (let no' : ⊥ = omega arith in no')
some_pair_at test (v ∷ vs) (m ∷ ms) zero e l t = rw t
some_pair_at test (v ∷ vs) (m ∷ ms) (suc i) e l t =
    let rest : some_pair test vs ms ≡ true = some_pair_at test vs ms i (let f : length ms ≡ length vs = omega arith in f) (omega arith) t in
    rw rest (either_last (test v m))

pub no_pair_at : (test : ℕ → ℕ → Bool) (vs ms : List ℕ) (i : ℕ) → length ms ≡ length vs → i < length vs → some_pair test vs ms ≡ false → test (get_or vs i 0) (get_or ms i 0) ≡ false
unfolding some_pair
no_pair_at test [] ms i e l f = absurd (let no' : ⊥ = omega arith in no')
no_pair_at test (v ∷ vs) [] i e l f = absurd (let no' : ⊥ = omega arith in no')
no_pair_at test (v ∷ vs) (m ∷ ms) zero e l f = (either_false (test v m) (some_pair test vs ms) f).0
no_pair_at test (v ∷ vs) (m ∷ ms) (suc i) e l f =
    no_pair_at test vs ms i (let g : length ms ≡ length vs = omega arith in g) (omega arith) (either_false (test v m) (some_pair test vs ms) f).1

-- No pair passes with one amount set, where that one does not, and with all amounts 0.
pub no_pair_set : (test : ℕ → ℕ → Bool) (vs ms : List ℕ) (i m : ℕ) → some_pair test vs ms ≡ false → test (get_or vs i 0) m ≡ false → some_pair test vs (set ms i m) ≡ false
unfolding some_pair
no_pair_set test [] ms i m f t = refl
no_pair_set test (v ∷ vs) [] i m f t = refl
no_pair_set test (v ∷ vs) (a ∷ ms) zero m f t = neither (test v m) (some_pair test vs ms) t (either_false (test v a) (some_pair test vs ms) f).1
no_pair_set test (v ∷ vs) (a ∷ ms) (suc i) m f t =
    let parts = either_false (test v a) (some_pair test vs ms) f in
    neither (test v a) (some_pair test vs (set ms i m)) parts.0 (no_pair_set test vs ms i m parts.1 t)

pub no_pair_zeros : (test : ℕ → ℕ → Bool) (vs : List ℕ) → ((i : ℕ) → test (get_or vs i 0) 0 ≡ false) → some_pair test vs (replicate (length vs) 0) ≡ false
unfolding some_pair
no_pair_zeros test [] still = refl
no_pair_zeros test (v ∷ vs) still =
    neither (test v 0) (some_pair test vs (replicate (length vs) 0)) (still 0) (no_pair_zeros test vs (λ i. still (suc i)))
