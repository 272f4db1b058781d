-- Words behind the last of archives that lie one behind the other are not read: archive by archive, by what is seen of each.
use Prim.Native.Nat.{ℕ, zero, suc, ◌+◌, ◌-◌}
use mathlib.Core.Path.{◌≡◌, refl, sym, ap, ◌∙◌}
use mathlib.Core.Bool.{Bool, true, false, not}
use mathlib.Core.List.{List, ◌∷◌}
use native.Mathlib.Omega.{arith}
use lib.ListN.{take, drop, length-drop}
use lib.Seq.{take-take}
use Rattle.slices.proofs.Put.{drop_take}
use Rattle.words.specs.Archive.{Archive}
use Rattle.words.specs.Layout.{extent, word, behind}
use Rattle.words.specs.Format.{guard, within}
use Rattle.fleet.specs.Fleet.{archives, fleet_rows, extents}
use Rattle.fleet.proofs.Fleet.{fleet_passes}
use Rattle.figures.specs.Figures.{reference_rows, figures_rows, figures_answer, figures}
use Rattle.terms.specs.Fleets.{FleetsBehind}
use Rattle.terms.proofs.Seen.{Alike, by_length, Seen, turned_down, held, alike_word, seen, refused_row, reads, passes}

-- What is seen of n archives in two slices: the same row turns both down, or both hold the same archives.
pub data AllSeen (n : ℕ) (v w : List ℕ) : Type 0 where
  stopped : (row : ℕ) → ((rest : ℕ) → fleet_rows n v rest ≡ suc row) → ((rest : ℕ) → fleet_rows n w rest ≡ suc row) → AllSeen n v w
  all_held : fleet_rows n v 0 ≡ 0 → fleet_rows n w 0 ≡ 0 → archives n v ≡ archives n w → AllSeen n v w

-- Slices that agree before the end of all agree before the end of the first, and behind it before the end of the others.
first_alike : (i j : ℕ) (v w : List ℕ) → Alike (i + j) v w → Alike i v w
first_alike i j v w h =
    record {
      long = omega (arith, h.long);
      long_too = omega (arith, h.long_too);
      same = sym (take-take i (i + j) v (omega arith)) ∙ ap (take i) h.same ∙ take-take i (i + j) w (omega arith);
    }

part : (i j : ℕ) (l : List ℕ) → drop i (take (i + j) l) ≡ take j (drop i l)
part i j l = drop_take i (i + j) l ∙ ap (λ k. take k (drop i l)) (let rest : i + j - i ≡ j = omega arith in rest)

others_alike : (i j : ℕ) (v w : List ℕ) → Alike (i + j) v w → Alike j (drop i v) (drop i w)
others_alike i j v w h =
    record {
      long = omega (arith, h.long, length-drop i v);
      long_too = omega (arith, h.long_too, length-drop i w);
      same = sym (part i j v) ∙ ap (drop i) h.same ∙ part i j w;
    }

one_more : (n : ℕ) (v w : List ℕ) → Seen v w → AllSeen n (behind v) (behind w) → AllSeen (suc n) v w
unfolding fleet_rows archives
one_more n v w (turned_down row e f) later =
    stopped row (λ rest. refused_row v row (fleet_rows n (behind v) rest) e)
    (λ rest. refused_row w row (fleet_rows n (behind w) rest) f)
one_more n v w (held a b c s e f) (stopped row g k) =
    stopped row (λ rest. passes v b a e s (fleet_rows n (behind v) rest) ∙ g rest)
    (λ rest. passes w c a f s (fleet_rows n (behind w) rest) ∙ k rest)
one_more n v w (held a b c s e f) (all_held g k same) =
    all_held (passes v b a e s (fleet_rows n (behind v) 0) ∙ g) (passes w c a f s (fleet_rows n (behind w) 0) ∙ k)
    (λ i. (reads v b a e ∙ sym (reads w c a f)) i ∷ same i)

pub all_seen : (n : ℕ) (v w : List ℕ) → Alike (extents n v) v w → AllSeen n v w
unfolding fleet_rows archives extents behind
all_seen zero v w h = all_held refl refl refl
all_seen (suc n) v w h =
    let here : Alike (extent (word v 1)) v w = first_alike (extent (word v 1)) (extents n (behind v)) v w h in
    let later : Alike (extents n (behind v)) (behind v) (behind w) =
    rw (← alike_word v w here 1 (omega arith)) (others_alike (extent (word v 1)) (extents n (behind v)) v w h) in
    one_more n v w (seen v w here) (all_seen n (behind v) (behind w) later)

-- What comes of the refusal and of the archives that are read, where a refusal leaves nothing of the archives.
pub asked_of_all : {A : Type 0} (n : ℕ) (rows : List Archive → ℕ) (f : ℕ → List Archive → A)
    → ((row : ℕ) (k l : List Archive) → f (suc row) k ≡ f (suc row) l)
    → (v w : List ℕ) → take (extents n v) v ≡ take (extents n v) w
    → f (fleet_rows n v (rows (archives n v))) (archives n v) ≡ f (fleet_rows n w (rows (archives n w))) (archives n w)
asked_of_all n rows f alike v w same =
    by_length (extents n v) v w same (λ h. go (all_seen n v w h))
    (λ equal. ap (λ u. f (fleet_rows n u (rows (archives n u))) (archives n u)) equal)
  where
    go : AllSeen n v w
        → f (fleet_rows n v (rows (archives n v))) (archives n v) ≡ f (fleet_rows n w (rows (archives n w))) (archives n w)
    go (stopped row e d) = rw (e (rows (archives n v)), d (rows (archives n w))) (alike row (archives n v) (archives n w))
    go (all_held e d equal) =
        rw (fleet_passes n v (rows (archives n v)) e, fleet_passes n w (rows (archives n w)) d, equal)

not_read : (number : ℕ) (v w : List ℕ) → take (extents number v) v ≡ take (extents number v) w
    → figures v number ≡ figures w number
unfolding figures figures_rows figures_answer guard
not_read number v w same =
    asked_of_all number reference_rows
    (λ row fleet. figures_answer (guard (not (within 1 15 number)) 23 row) fleet) (refused (not (within 1 15 number))) v w same
  where
    refused : (t : Bool) (row : ℕ) (k l : List Archive)
        → figures_answer (guard t 23 (suc row)) k ≡ figures_answer (guard t 23 (suc row)) l
    refused true row k l = refl
    refused false row k l = refl

pub fleets_behind : FleetsBehind
fleets_behind = record { not_read = not_read }
