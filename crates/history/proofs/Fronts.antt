-- The front as the book counts it is the front of its trials, in whatever order they stand.
use Prim.Native.Nat.{ℕ, suc, ◌+◌}
use mathlib.Core.Path.{◌≡◌, refl, sym, ap, ◌∙◌}
use mathlib.Core.Bool.{Bool, true, false, not}
use mathlib.Core.List.{List, ◌∷◌, []}
use native.Mathlib.Omega.{arith}
use lib.Dec.{leb, ltb}
use Rattle.slices.specs.Choices.{both, either, pick}
use Rattle.slices.proofs.Choices.{either_turn, either_none}
use Rattle.hypervolume.specs.Cells.{holds, dominates}
use Rattle.hypervolume.specs.Front.{smaller_somewhere, beats, beaten, unbeaten, front}
use Rattle.hypervolume.proofs.Front.{unbeaten_alike}
use Rattle.words.specs.Archive.{Trial, point, points, before}
use Rattle.calls.specs.Calls.{place, in_order}
use Rattle.history.specs.Book.{Book, better, none_better, on_front, book_front}
use Rattle.history.specs.History.{sorted}

-- One trial beside another.
six : (a b c d e f : Bool) → both a (both b (both c (either d (either e f)))) ≡ both (both a (both b (both c true))) (either d (either e (either f false)))
unfolding both
six true true true d e f = ap (λ t. either d (either e t)) (sym (either_none f))
six true true false d e f = refl
six true false c d e f = refl
six false b c d e f = refl

better_beats : (t u : Trial) → better t u ≡ beats (point t) (point u)
unfolding better beats dominates smaller_somewhere
better_beats t u = six (leb t.x u.x) (leb t.y u.y) (leb t.z u.z) (ltb t.x u.x) (ltb t.y u.y) (ltb t.z u.z)

neither_is : (s t : Bool) → both (not s) (not t) ≡ not (either s t)
unfolding both either
neither_is true t = refl
neither_is false t = refl

none_beaten : (ts : List Trial) (t : Trial) → none_better ts t ≡ not (beaten (points ts) (point t))
unfolding none_better beaten points
none_beaten [] t = refl
none_beaten (u ∷ ts) t = rw (better_beats u t, none_beaten ts t) (neither_is (beats (point u) (point t)) (beaten (points ts) (point t)))

front_unbeaten : (all ts : List Trial) → on_front all ts ≡ unbeaten (points all) (points ts)
unfolding on_front unbeaten points pick holds
front_unbeaten all [] = refl
front_unbeaten all (t ∷ ts) = rw (none_beaten all t) (go (not (beaten (points all) (point t))) (front_unbeaten all ts))
  where
    go : (b : Bool) → on_front all ts ≡ unbeaten (points all) (points ts) → pick b (suc (on_front all ts)) (on_front all ts) ≡ holds b + unbeaten (points all) (points ts)
    go true e = omega (arith, e)
    go false e = omega (arith, e)

-- A trial in its place: the same are beaten, and as many are not.
place_beaten : (t : Trial) (ts : List Trial) (q : List ℕ) → beaten (points (place (λ u. u) t ts)) q ≡ beaten (points (t ∷ ts)) q
unfolding place pick points beaten
place_beaten t [] q = refl
place_beaten t (u ∷ ts) q = go (before t u) (place_beaten t ts q)
  where
    go : (b : Bool) → beaten (points (place (λ v. v) t ts)) q ≡ beaten (points (t ∷ ts)) q
        → beaten (points (pick b (t ∷ u ∷ ts) (u ∷ place (λ v. v) t ts))) q ≡ beaten (points (t ∷ u ∷ ts)) q
    go true e = refl
    go false e = ap (either (beats (point u) q)) e ∙ either_turn (beats (point u) q) (beats (point t) q) (beaten (points ts) q)

place_unbeaten : (all : List (List ℕ)) (t : Trial) (ts : List Trial) → unbeaten all (points (place (λ u. u) t ts)) ≡ unbeaten all (points (t ∷ ts))
unfolding place pick points unbeaten
place_unbeaten all t [] = refl
place_unbeaten all t (u ∷ ts) = go (before t u) (place_unbeaten all t ts)
  where
    go : (b : Bool) → unbeaten all (points (place (λ v. v) t ts)) ≡ unbeaten all (points (t ∷ ts))
        → unbeaten all (points (pick b (t ∷ u ∷ ts) (u ∷ place (λ v. v) t ts))) ≡ unbeaten all (points (t ∷ u ∷ ts))
    go true e = refl
    go false e = omega (arith, e)

sorted_beaten : (ts : List Trial) (q : List ℕ) → beaten (points (sorted ts)) q ≡ beaten (points ts) q
unfolding in_order points beaten
sorted_beaten [] q = refl
sorted_beaten (t ∷ ts) q = place_beaten t (sorted ts) q ∙ ap (either (beats (point t) q)) (sorted_beaten ts q)

sorted_unbeaten : (all : List (List ℕ)) (ts : List Trial) → unbeaten all (points (sorted ts)) ≡ unbeaten all (points ts)
unfolding in_order points unbeaten
sorted_unbeaten all [] = refl
sorted_unbeaten all (t ∷ ts) = place_unbeaten all t (sorted ts) ∙ ap (λ n. holds (not (beaten all (point t))) + n) (sorted_unbeaten all ts)

pub sorted_front : (ts : List Trial) → front (points (sorted ts)) ≡ front (points ts)
unfolding front
sorted_front ts =
    unbeaten_alike (points (sorted ts)) (points ts) (points (sorted ts)) (sorted_beaten ts) ∙ sorted_unbeaten (points ts) ts

pub book_front_is : (b : Book) → book_front b ≡ front (points (sorted b.trials))
unfolding book_front front
book_front_is b = front_unbeaten b.trials b.trials ∙ sym (sorted_front b.trials)
