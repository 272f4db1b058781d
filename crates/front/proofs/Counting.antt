-- The front by keys: those left out count for nothing, and the keys may be taken in ascending order.
use Prim.Native.Nat.{ℕ, zero, suc, ◌+◌, ◌/◌, ◌≤◌, ◌<◌}
use mathlib.Core.Path.{◌≡◌, refl, sym, ap, subst, ◌∙◌}
use mathlib.Core.Bool.{Bool, true, false, not, true≢false}
use mathlib.Core.List.{List, ◌∷◌, []}
use native.Mathlib.Omega.{arith}
use lib.ListN.{length, get_or, take}
use lib.Seq.{take-suc, take-length, get_or-take, length-take-le}
use borrow.Author.Tests.{le-leb}
use Rattle.slices.specs.Choices.{either}
use Rattle.slices.proofs.Choices.{both_true, both_intro}
use Rattle.hypervolume.specs.Cells.{holds}
use Rattle.hypervolume.specs.Front.{beats, beaten, unbeaten, front}
use Rattle.hypervolume.proofs.Tests.{by_order}
use Rattle.hypervolume.proofs.Front.{unbeaten_append}
use Rattle.order.specs.Order.{sum_of, some, Ordered}
use Rattle.order.proofs.Sums.{sum_append, sum_next}
use Rattle.front.specs.Keys.{InOrder, key_at, under, over, Sieved, nothing, kept, left, alone}
use Rattle.order.proofs.Somes.{Found, found, some_at, some_append, some_ordered}
use Rattle.front.proofs.Places.{Over, is_over, over_trans, beats_over, over_beats}

-- Two tests that pass together are equal.
pub same_test : (s t : Bool) → (s ≡ true → t ≡ true) → (t ≡ true → s ≡ true) → s ≡ t
same_test true t f g = sym (f refl)
same_test false true f g = g refl
same_test false false f g = refl

-- A point beaten, by places.
record FoundPoint (points : List (List ℕ)) (q : List ℕ) : Type 0 where
  at : ℕ
  within : at < length points
  beats_it : beats (get_or points at []) q ≡ true

found_point : (points : List (List ℕ)) (q : List ℕ) → beaten points q ≡ true → FoundPoint points q
unfolding beaten either
found_point [] q e = absurd (true≢false (cc))
found_point (p ∷ points) q e = go (beats p q) refl e (found_point points q)
  where
    go : (t : Bool) → beats p q ≡ t → either t (beaten points q) ≡ true → (beaten points q ≡ true → FoundPoint points q) → FoundPoint (p ∷ points) q
    go true h e later = record { at = 0; within = omega arith; beats_it = h }
    go false h e later =
        let n : FoundPoint points q = later e in
        record { at = suc n.at; within = omega (arith, n.within); beats_it = n.beats_it }

beaten_at : (points : List (List ℕ)) (q : List ℕ) (i : ℕ) → i < length points → beats (get_or points i []) q ≡ true → beaten points q ≡ true
unfolding beaten either
beaten_at [] q i h e = absurd (let z : ⊥ = omega arith in z)
beaten_at (p ∷ points) q zero h e = rw e
beaten_at (p ∷ points) q (suc i) h e = go (beats p q) (beaten_at points q i (omega arith) e)
  where
    go : (t : Bool) → beaten points q ≡ true → either t (beaten points q) ≡ true
    go true h = refl
    go false h = h

module _ (points : List (List ℕ)) (h : InOrder points) where
  -- A test that goes down to whatever beats passes for a key kept, where it passes for any point.
  meets : (f : ℕ → Bool) → ((b k : ℕ) → over points b k ≡ true → f k ≡ true → f b ≡ true)
      → (i : ℕ) (keys : List ℕ) → Sieved points i keys → (j : ℕ) → j < i → f (key_at points j) ≡ true → some f keys ≡ true
  unfolding some either
  meets f down zero [] nothing j l e = absurd (let z : ⊥ = omega arith in z)
  meets f down zero (k ∷ keys) s j l e = elim s [ ]
  meets f down (suc i) keys (kept {keys = before} s) j l e =
      some_append f before (key_at points i ∷ [])
      ∙ by_order i j
      (λ m. last (let q : f (key_at points i) ≡ true = ap (λ n. f (key_at points n)) (let r : i ≡ j = omega arith in r) ∙ e in q))
      (λ m. first (meets f down i before s j m e))
    where
      last : f (key_at points i) ≡ true → either (some f before) (some f (key_at points i ∷ [])) ≡ true
      last q = go (some f before) (rw q)
        where
          go : (t : Bool) → some f (key_at points i ∷ []) ≡ true → either t (some f (key_at points i ∷ [])) ≡ true
          go true r = refl
          go false r = r

      first : some f before ≡ true → either (some f before) (some f (key_at points i ∷ [])) ≡ true
      first q = rw q
  meets f down (suc i) keys (left s o) j l e =
      by_order i j
      (λ m. let q : f (key_at points i) ≡ true = ap (λ n. f (key_at points n)) (let r : i ≡ j = omega arith in r) ∙ e in
      let b : Found (λ b. over points b (key_at points i)) keys = found _ keys o in
      some_at f keys b.at b.within (down (get_or keys b.at 0) (key_at points i) b.passes q))
      (λ m. meets f down i keys s j m e)

  -- Every key kept is a point's.
  comes_from : (f : ℕ → Bool) (Q : Type 0) (i : ℕ) (keys : List ℕ) → Sieved points i keys → ((j : ℕ) → j < i → f (key_at points j) ≡ true → Q) → some f keys ≡ true → Q
  unfolding some either
  comes_from f Q zero [] nothing take e = absurd (true≢false (cc))
  comes_from f Q zero (k ∷ keys) s taken e = elim s [ ]
  comes_from f Q (suc i) keys (kept {keys = before} s) take e =
      go (some f before) (f (key_at points i)) refl refl (sym (some_append f before (key_at points i ∷ [])) ∙ e)
      (comes_from f Q i before s (λ j l p. take j (omega arith) p))
    where
      go : (s t : Bool) → some f before ≡ s → f (key_at points i) ≡ t → either s (either t false) ≡ true → (some f before ≡ true → Q) → Q
      go true t a b c later = later a
      go false true a b c later = take i (omega arith) b
      go false false a b c later = absurd (true≢false (sym c))
  comes_from f Q (suc i) keys (left s o) take e = comes_from f Q i keys s (λ j l p. take j (omega arith) p) e

  module _ (keys : List ℕ) (s : Sieved points (length points) keys) where
    -- A point is beaten just when a key kept is over its own.
    beaten_keys : (i : ℕ) → i < length points → beaten points (get_or points i []) ≡ some (λ b. over points b (key_at points i)) keys
    beaten_keys i l =
        same_test _ _
        (λ e. let p : FoundPoint points (get_or points i []) = found_point points (get_or points i []) e in
        meets (λ b. over points b (key_at points i)) (λ b k a c. over_trans points b k (key_at points i) a c) (length points) keys s p.at p.within
        (beats_over points h p.at i p.within l p.beats_it))
        (λ e. comes_from (λ b. over points b (key_at points i)) (beaten points (get_or points i []) ≡ true) (length points) keys s
        (λ j a c. beaten_at points (get_or points i []) j a (over_beats points h j i a l c)) e)

    -- 1 for a key that none is over.
    abbrev free : ℕ → ℕ
    free k = holds (not (some (λ b. over points b k) keys))

    next_point : (i : ℕ) → i < length points → unbeaten points (take (suc i) points) ≡ unbeaten points (take i points) + free (key_at points i)
    next_point i l =
        ap (unbeaten points) (take-suc points i [] l) ∙ unbeaten_append points (take i points) (get_or points i [] ∷ [])
        ∙ ap (λ n. unbeaten points (take i points) + n) (one (get_or points i []) ∙ ap (λ t. holds (not t)) (beaten_keys i l))
      where
        one : (p : List ℕ) → unbeaten points (p ∷ []) ≡ holds (not (beaten points p))
        one p = unfold unbeaten in (let e : holds (not (beaten points p)) + 0 ≡ holds (not (beaten points p)) = omega arith in e)

    sum_kept : (i : ℕ) (some-keys : List ℕ) → Sieved points i some-keys → i ≤ length points → ((f : ℕ → Bool) → some f some-keys ≡ true → some f keys ≡ true)
        → unbeaten points (take i points) ≡ sum_of free some-keys
    sum_kept zero [] nothing l into = unfold unbeaten sum_of in refl
    sum_kept zero (k ∷ part) s l into = elim s [ ]
    sum_kept (suc i) part (kept {keys = before} s) l into =
        omega (arith, next_point i l, sum_kept i before s (omega arith) (λ f e. into f (some_append f before (key_at points i ∷ []) ∙ first (some f before) (some f (key_at points i ∷ [])) e)), sum_append free before (key_at points i ∷ []), one (key_at points i))
      where
        first : (s t : Bool) → s ≡ true → either s t ≡ true
        first s t e = unfold either in rw e

        one : (k : ℕ) → sum_of free (k ∷ []) ≡ free k
        one k = unfold sum_of in (let e : free k + 0 ≡ free k = omega arith in e)
    sum_kept (suc i) part (left s o) l into =
        omega (arith, next_point i l, sum_kept i part s (omega arith) into, none (into (λ b. over points b (key_at points i)) o))
      where
        none : some (λ b. over points b (key_at points i)) keys ≡ true → free (key_at points i) ≡ 0
        none e = unfold holds in rw e

    front_keys : front points ≡ sum_of free keys
    unfolding front
    front_keys =
        ap (unbeaten points) (sym (take-length points)) ∙ sum_kept (length points) keys s (omega arith) (λ f e. e)

    -- In ascending order only those before a key can be over it.
    module _ (ascending : List ℕ) (o : Ordered keys ascending) where
      rises_to : (i j : ℕ) → i ≤ j → j < length ascending → get_or ascending i 0 ≤ get_or ascending j 0
      rises_to i j l m =
          by_order j i
          (λ e. omega (arith, ap (λ n. get_or ascending n 0) (let q : i ≡ j = omega arith in q)))
          (λ e. o.ascending i j e m)

      under_before : (i : ℕ) → i < length ascending → some (λ b. under points b (get_or ascending i 0)) (take i ascending) ≡ some (λ b. over points b (get_or ascending i 0)) keys
      unfolding over
      under_before i l =
          same_test _ _
          (λ e. before (found (λ b. under points b (get_or ascending i 0)) (take i ascending) e))
          (λ e. behind (found (λ b. over points b (get_or ascending i 0)) ascending e))
          ∙ sym (some_ordered (λ b. over points b (get_or ascending i 0)) keys ascending o)
        where
          part : length (take i ascending) ≡ i
          part = length-take-le i ascending (omega arith)

          before : Found (λ b. under points b (get_or ascending i 0)) (take i ascending) → some (λ b. over points b (get_or ascending i 0)) ascending ≡ true
          before n =
              let low : n.at < i = omega (arith, part, n.within) in
              some_at (λ b. over points b (get_or ascending i 0)) ascending n.at (omega arith)
              (both_intro _ _
              (le-leb (get_or ascending n.at 0 / 512) (get_or ascending i 0 / 512) (omega (arith, rises_to n.at i (omega arith) l)))
              (subst (λ b. under points b (get_or ascending i 0) ≡ true) (get_or-take i ascending n.at 0 low) n.passes))

          behind : Found (λ b. over points b (get_or ascending i 0)) ascending → some (λ b. under points b (get_or ascending i 0)) (take i ascending) ≡ true
          behind n =
              let u : Over points (get_or ascending n.at 0) (get_or ascending i 0) = is_over points (get_or ascending n.at 0) (get_or ascending i 0) n.passes in
              by_order i n.at
              (λ m. absurd (let z : ⊥ = omega (arith, u.x, u.place, rises_to i n.at m n.within) in z))
              (λ m. some_at (λ b. under points b (get_or ascending i 0)) (take i ascending) n.at (omega (arith, part))
              (subst (λ b. under points b (get_or ascending i 0) ≡ true) (sym (get_or-take i ascending n.at 0 m)) (both_true _ _ n.passes).1))

      alone_sum : (i : ℕ) → i ≤ length ascending → alone points ascending i ≡ sum_of free (take i ascending)
      unfolding alone
      alone_sum zero l = unfold sum_of in refl
      alone_sum (suc i) l =
          omega (arith, alone_sum i (omega arith), ap (λ t. holds (not t)) (under_before i l), sum_next free ascending i l)

      pub front_alone : alone points ascending (length ascending) ≡ front points
      front_alone =
          alone_sum (length ascending) (omega arith) ∙ ap (sum_of free) (take-length ascending) ∙ o.same free ∙ sym front_keys
