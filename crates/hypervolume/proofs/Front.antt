-- Laws of the front.
use Prim.Native.Nat.{ℕ, ◌+◌, ◌≤◌, ◌<◌}
use mathlib.Core.Path.{◌≡◌, refl, sym, ap, ◌∙◌}
use mathlib.Core.Bool.{Bool, true, false, not}
use mathlib.Core.Logic.{◌⊎◌, inl, inr}
use mathlib.Core.List.Memᴰ
use mathlib.Core.List.{List, ◌∷◌, ◌++◌, map, Memᴰ, []}
use native.Mathlib.Omega.{arith}
use lib.Dec.{leb, ltb}
use lib.ListN.{length}
use borrow.Author.Tests.{le-ltb, leb-true}
use Rattle.slices.specs.Choices.{both, either}
use Rattle.slices.proofs.Choices.{either_turn, not_both, both_true, neither}
use Rattle.hypervolume.specs.Cells.{holds, dominates}
use Rattle.hypervolume.specs.Front.{smaller_somewhere, beats, beaten, unbeaten, front, FrontLaws}
use Rattle.hypervolume.proofs.Tests.{not_leb, by_order, holds_le_one}
use Rattle.hypervolume.proofs.Axes.{swapped, Swaps, dominates_swaps}

-- Smaller somewhere: the other is not at most equal on all axes.
pub smaller_not : (p q : List ℕ) → smaller_somewhere p q ≡ not (dominates q p)
unfolding smaller_somewhere dominates
smaller_not [] [] = refl
smaller_not [] (y ∷ q) = refl
smaller_not (x ∷ p) [] = refl
smaller_not (x ∷ p) (y ∷ q) =
    ap (λ t. either t (smaller_somewhere p q)) (sym (not_leb y x)) ∙ ap (either (not (leb y x))) (smaller_not p q) ∙ sym (not_both (leb y x) (dominates q p))

-- Two lists of trials by which the same points are beaten.
pub unbeaten_alike : (s t ps : List (List ℕ)) → ((q : List ℕ) → beaten s q ≡ beaten t q) → unbeaten s ps ≡ unbeaten t ps
unfolding unbeaten
unbeaten_alike s t [] h = refl
unbeaten_alike s t (p ∷ ps) h = rw (h p, unbeaten_alike s t ps h)

pub unbeaten_append : (trials s t : List (List ℕ)) → unbeaten trials (s ++ t) ≡ unbeaten trials s + unbeaten trials t
unfolding unbeaten
unbeaten_append trials [] t = omega arith
unbeaten_append trials (p ∷ s) t = omega (arith, unbeaten_append trials s t)

-- One trial in whatever place.
pub beaten_moved : (before : List (List ℕ)) (p : List ℕ) (behind : List (List ℕ)) (q : List ℕ) → beaten (before ++ p ∷ behind) q ≡ beaten (p ∷ before ++ behind) q
unfolding beaten
beaten_moved [] p behind q = refl
beaten_moved (b ∷ before) p behind q =
    ap (either (beats b q)) (beaten_moved before p behind q) ∙ either_turn (beats b q) (beats p q) (beaten (before ++ behind) q)

unbeaten_moved : (trials before : List (List ℕ)) (p : List ℕ) (behind : List (List ℕ)) → unbeaten trials (before ++ p ∷ behind) ≡ unbeaten trials (p ∷ before ++ behind)
unfolding unbeaten
unbeaten_moved trials [] p behind = refl
unbeaten_moved trials (b ∷ before) p behind = omega (arith, unbeaten_moved trials before p behind)

front_moved : (before : List (List ℕ)) (p : List ℕ) (behind : List (List ℕ)) → front (before ++ p ∷ behind) ≡ front (p ∷ before ++ behind)
unfolding front
front_moved before p behind =
    unbeaten_alike (before ++ p ∷ behind) (p ∷ before ++ behind) (before ++ p ∷ behind) (beaten_moved before p behind)
    ∙ unbeaten_moved (p ∷ before ++ behind) before p behind

unbeaten_few : (trials ps : List (List ℕ)) → unbeaten trials ps ≤ length ps
unfolding unbeaten
unbeaten_few trials [] = omega arith
unbeaten_few trials (p ∷ ps) = omega (arith, holds_le_one (not (beaten trials p)), unbeaten_few trials ps)

-- Of points with as many axes each, one that beats another has the smaller sum of coordinates.
coordinates : List ℕ → ℕ
coordinates [] = 0
coordinates (x ∷ p) = x + coordinates p

dominates_sum : (p q : List ℕ) → length p ≡ length q → dominates p q ≡ true → coordinates p ≤ coordinates q
unfolding dominates coordinates
dominates_sum [] q e h = omega arith
dominates_sum (x ∷ p) [] e h = absurd (let z : ⊥ = omega arith in z)
dominates_sum (x ∷ p) (y ∷ q) e h =
    let parts = both_true (leb x y) (dominates p q) h in
    omega (arith, leb-true x y parts.0, dominates_sum p q (omega arith) parts.1)

not_below : (p q : List ℕ) → length p ≡ length q → dominates p q ≡ true → coordinates q ≤ coordinates p → smaller_somewhere p q ≡ false
unfolding dominates smaller_somewhere coordinates
not_below [] q e h l = refl
not_below (x ∷ p) [] e h l = refl
not_below (x ∷ p) (y ∷ q) e h l =
    let parts = both_true (leb x y) (dominates p q) h in
    let low : x ≤ y = leb-true x y parts.0 in
    let rest : coordinates p ≤ coordinates q = dominates_sum p q (omega arith) parts.1 in
    neither (ltb x y) (smaller_somewhere p q) (le-ltb x y (omega arith)) (not_below p q (omega arith) parts.1 (omega arith))

beats_none : (p q : List ℕ) → length p ≡ length q → coordinates q ≤ coordinates p → beats p q ≡ false
unfolding beats both
beats_none p q e l = go (dominates p q) refl
  where
    go : (t : Bool) → dominates p q ≡ t → both t (smaller_somewhere p q) ≡ false
    go true h = not_below p q e h l
    go false h = refl

-- A trial with the least sum is on the front.
record LeastSum (trials : List (List ℕ)) : Type 0 where
  least : List ℕ
  member : Memᴰ least trials
  low : (q : List ℕ) → Memᴰ q trials → coordinates least ≤ coordinates q

least_sum : (p : List ℕ) (trials : List (List ℕ)) → LeastSum (p ∷ trials)
least_sum p [] =
    record { least = p; member = Memᴰ.head refl; low = λ q m. go q (Memᴰ.cases_cons m) }
  where
    go : (q : List ℕ) → (q ≡ p) ⊎ Memᴰ q [] → coordinates p ≤ coordinates q
    go q (inl e) = omega (arith, ap coordinates e)
    go q (inr m) = absurd (Memᴰ.not-nil m)
least_sum p (t ∷ trials) = go (least_sum t trials)
  where
    first : (l : LeastSum (t ∷ trials)) → coordinates p ≤ coordinates l.least → (q : List ℕ) → (q ≡ p) ⊎ Memᴰ q (t ∷ trials) → coordinates p ≤ coordinates q
    first l h q (inl e) = omega (arith, ap coordinates e)
    first l h q (inr m) = omega (arith, l.low q m)

    later : (l : LeastSum (t ∷ trials)) → coordinates l.least < coordinates p → (q : List ℕ) → (q ≡ p) ⊎ Memᴰ q (t ∷ trials) → coordinates l.least ≤ coordinates q
    later l h q (inl e) = omega (arith, ap coordinates e)
    later l h q (inr m) = l.low q m

    go : LeastSum (t ∷ trials) → LeastSum (p ∷ t ∷ trials)
    go l =
        by_order (coordinates p) (coordinates l.least)
        (λ h. record { least = p; member = Memᴰ.head refl; low = λ q m. first l h q (Memᴰ.cases_cons m) })
        (λ h. record { least = l.least; member = Memᴰ.tail l.member; low = λ q m. later l h q (Memᴰ.cases_cons m) })

beaten_none : (trials : List (List ℕ)) (q : List ℕ) → ((p : List ℕ) → Memᴰ p trials → beats p q ≡ false) → beaten trials q ≡ false
unfolding beaten
beaten_none [] q h = refl
beaten_none (p ∷ trials) q h =
    neither (beats p q) (beaten trials q) (h p (Memᴰ.head refl)) (beaten_none trials q (λ r m. h r (Memᴰ.tail m)))

one_unbeaten : (trials ps : List (List ℕ)) (q : List ℕ) → Memᴰ q ps → beaten trials q ≡ false → 1 ≤ unbeaten trials ps
unfolding unbeaten
one_unbeaten trials [] q m e = absurd (Memᴰ.not-nil m)
one_unbeaten trials (p ∷ ps) q m e = go (Memᴰ.cases_cons m) (λ n. one_unbeaten trials ps q n e)
  where
    alone : q ≡ p → holds (not (beaten trials p)) ≡ 1
    alone s = rw (← s, e) (unfold holds in refl)

    go : (q ≡ p) ⊎ Memᴰ q ps → (Memᴰ q ps → 1 ≤ unbeaten trials ps) → 1 ≤ holds (not (beaten trials p)) + unbeaten trials ps
    go (inl s) later = omega (arith, alone s)
    go (inr n) later = omega (arith, later n)

front_some : (axes : ℕ) (p : List ℕ) (trials : List (List ℕ)) → ((q : List ℕ) → Memᴰ q (p ∷ trials) → length q ≡ axes) → 1 ≤ front (p ∷ trials)
unfolding front
front_some axes p trials h =
    let l : LeastSum (p ∷ trials) = least_sum p trials in
    one_unbeaten (p ∷ trials) (p ∷ trials) l.least l.member
    (beaten_none (p ∷ trials) l.least (λ q m. beats_none q l.least (h q m ∙ sym (h l.least l.member)) (l.low q m)))

pub front_laws : FrontLaws
unfolding front unbeaten
front_laws = record { order = front_moved; at_most = λ trials. unbeaten_few trials trials; none = refl; some = front_some }

-- Axes swapped in every trial: the same are beaten.
pub beats_swaps : (ks p q : List ℕ) → Swaps (length p) ks → Swaps (length q) ks → beats (swapped ks p) (swapped ks q) ≡ beats p q
unfolding beats
beats_swaps ks p q a b =
    rw (smaller_not (swapped ks p) (swapped ks q), smaller_not p q, dominates_swaps ks p q b, dominates_swaps ks q p a)

beaten_swaps : (ks : List ℕ) (trials : List (List ℕ)) (q : List ℕ) → ((p : List ℕ) → Memᴰ p trials → Swaps (length p) ks) → Swaps (length q) ks
    → beaten (map (swapped ks) trials) (swapped ks q) ≡ beaten trials q
unfolding beaten
beaten_swaps ks [] q h l = refl
beaten_swaps ks (p ∷ trials) q h l =
    rw (beats_swaps ks p q (h p (Memᴰ.head refl)) l, beaten_swaps ks trials q (λ r m. h r (Memᴰ.tail m)) l)

unbeaten_swaps : (ks : List ℕ) (trials ps : List (List ℕ)) → ((p : List ℕ) → Memᴰ p trials → Swaps (length p) ks) → ((p : List ℕ) → Memᴰ p ps → Swaps (length p) ks)
    → unbeaten (map (swapped ks) trials) (map (swapped ks) ps) ≡ unbeaten trials ps
unfolding unbeaten
unbeaten_swaps ks trials [] h l = refl
unbeaten_swaps ks trials (p ∷ ps) h l =
    rw (beaten_swaps ks trials p h (l p (Memᴰ.head refl)), unbeaten_swaps ks trials ps h (λ q m. l q (Memᴰ.tail m)))

pub front_swaps : (ks : List ℕ) (trials : List (List ℕ)) → ((p : List ℕ) → Memᴰ p trials → Swaps (length p) ks) → front (map (swapped ks) trials) ≡ front trials
unfolding front
front_swaps ks trials h = unbeaten_swaps ks trials trials h h
