-- How many entries of a line pass a test, dominate a cell or lie low enough: of two lines joined, of one entry more, and at one
-- column of cells.
use Prim.Native.Nat.{ℕ, suc, ◌+◌, ◌≤◌, ◌<◌}
use mathlib.Core.Path.{◌≡◌, refl, sym, ap, ◌∙◌}
use mathlib.Core.Bool.{Bool, true, false}
use mathlib.Core.List.{List, ◌∷◌, ◌++◌, []}
use native.Mathlib.Nat.{zero-add, add-zero, add_assoc}
use native.Mathlib.Omega.{arith}
use lib.Dec.{leb, eqb}
use lib.ListN.{length, take, drop, get_or, take-append-drop, length-take, length-drop}
use lib.Seq.{get_or-take, get_or-drop}
use borrow.Author.Tests.{le-leb, lt-leb}
use Rattle.slices.specs.Choices.{both}
use Rattle.hypervolume.specs.Cells.{holds, dominates}
use Rattle.slices.proofs.Choices.{both_comm}
use Rattle.line.specs.Line.{tally, spot, x_of, y_of, over, low, index_of, low_by}
use Rattle.hypervolume.proofs.Tests.{Equated, same, differs, equated}

pub tally_append : (test : ℕ → Bool) (s t : List ℕ) → tally test (s ++ t) ≡ tally test s + tally test t
unfolding tally
tally_append test [] t = sym (zero-add (tally test t))
tally_append test (w ∷ s) t = rw (tally_append test s t, add_assoc)

pub tally_ext : (f g : ℕ → Bool) (line : List ℕ) → ((a : ℕ) → a < length line → f (get_or line a 0) ≡ g (get_or line a 0)) → tally f line ≡ tally g line
unfolding tally
tally_ext f g [] h = refl
tally_ext f g (w ∷ line) h = rw (h 0 (omega arith), tally_ext f g line (λ a l. h (suc a) (omega arith)))

pub tally_none : (f : ℕ → Bool) (line : List ℕ) → ((a : ℕ) → a < length line → f (get_or line a 0) ≡ false) → tally f line ≡ 0
unfolding tally holds
tally_none f [] h = refl
tally_none f (w ∷ line) h = rw (h 0 (omega arith), tally_none f line (λ a l. h (suc a) (omega arith)))

pub tally_le : (f g : ℕ → Bool) (line : List ℕ) → ((a : ℕ) → a < length line → holds (f (get_or line a 0)) ≤ holds (g (get_or line a 0))) → tally f line ≤ tally g line
unfolding tally
tally_le f g [] h = omega arith
tally_le f g (w ∷ line) h =
    let here : holds (f w) ≤ holds (g w) = h 0 (omega arith) in
    let later : tally f line ≤ tally g line = tally_le f g line (λ a l. h (suc a) (omega arith)) in
    omega arith

-- Two tests that exclude each other, each with a part of a third.
pub tally_parts : (f g h : ℕ → Bool) (line : List ℕ) → ((w : ℕ) → holds (f w) + holds (g w) ≤ holds (h w)) → tally f line + tally g line ≤ tally h line
unfolding tally
tally_parts f g h [] p = omega arith
tally_parts f g h (w ∷ line) p =
    let later : tally f line + tally g line ≤ tally h line = tally_parts f g h line p in
    omega (arith, p w)

-- At column i: the entries of a kind q that dominate the cell in row j. Where the first k entries have x at most i, those of
-- them that are at most j on y are among these; where the others lie beyond i, these are all.
module _ (q : ℕ → Bool) (line : List ℕ) (k i j : ℕ) (reach : (a : ℕ) → a < k → a < length line → x_of (get_or line a 0) ≤ i) where
  at_cell : ℕ → Bool
  at_cell w = both (q w) (dominates (spot w) (i ∷ j ∷ []))

  at_row : ℕ → Bool
  at_row w = both (q w) (leb (y_of w) j)

  reached : (w : ℕ) → x_of w ≤ i → at_cell w ≡ at_row w
  unfolding at_cell at_row dominates both
  reached w l = rw (le-leb (x_of w) i l, both_comm (leb (y_of w) j) true)

  first_part : (a : ℕ) → a < length (take k line) → at_cell (get_or (take k line) a 0) ≡ at_row (get_or (take k line) a 0)
  first_part a l =
      let m : a < k = omega (arith, length-take k line) in
      let o : a < length line = omega (arith, length-take k line) in
      rw (get_or-take k line a 0 m) (reached (get_or line a 0) (reach a m o))

  split : tally at_cell line ≡ tally at_row (take k line) + tally at_cell (drop k line)
  split =
      ap (tally at_cell) (sym (take-append-drop k line))
      ∙ tally_append at_cell (take k line) (drop k line)
      ∙ ap (λ n. n + tally at_cell (drop k line)) (tally_ext at_cell at_row (take k line) first_part)

  pub column_least : tally (λ w. both (q w) (leb (y_of w) j)) (take k line) ≤ tally (λ w. both (q w) (dominates (spot w) (i ∷ j ∷ []))) line
  unfolding at_cell at_row
  column_least = omega (arith, split)

  module _ (miss : (a : ℕ) → k ≤ a → a < length line → i < x_of (get_or line a 0)) where
    missed : (w : ℕ) → i < x_of w → at_cell w ≡ false
    unfolding at_cell dominates both
    missed w l = rw (lt-leb (x_of w) i l, both_comm (q w) false)

    second_part : (a : ℕ) → a < length (drop k line) → at_cell (get_or (drop k line) a 0) ≡ false
    second_part a l =
        let m : k ≤ k + a = omega arith in
        let o : k + a < length line = omega (arith, length-drop k line) in
        rw (get_or-drop k line a 0) (missed (get_or line (k + a) 0) (miss (k + a) m o))

    pub column_tally : tally (λ w. both (q w) (dominates (spot w) (i ∷ j ∷ []))) line ≡ tally (λ w. both (q w) (leb (y_of w) j)) (take k line)
    unfolding at_cell at_row
    column_tally = split ∙ rw (tally_none at_cell (drop k line) second_part) (add-zero (tally at_row (take k line)))

pub over_append : (s t : List ℕ) (c : List ℕ) → over (s ++ t) c ≡ over s c + over t c
unfolding over
over_append s t c = tally_append (λ w. dominates (spot w) c) s t

pub over_cons : (w : ℕ) (line c : List ℕ) → over (w ∷ line) c ≡ holds (dominates (spot w) c) + over line c
unfolding over tally
over_cons w line c = refl

pub over_more : (line : List ℕ) (w : ℕ) (c : List ℕ) → over (line ++ (w ∷ [])) c ≡ over line c + holds (dominates (spot w) c)
unfolding over tally
over_more line w c =
    over_append line (w ∷ []) c ∙ ap (λ k. over line c + k) (add-zero (holds (dominates (spot w) c)))

pub low_append : (s t : List ℕ) (j : ℕ) → low (s ++ t) j ≡ low s j + low t j
unfolding low
low_append s t j = tally_append (λ v. leb (y_of v) j) s t

pub low_by_append : (p : ℕ) (s t : List ℕ) (j : ℕ) → low_by p (s ++ t) j ≡ low_by p s j + low_by p t j
unfolding low_by
low_by_append p s t j = tally_append (λ v. both (eqb (index_of v) p) (leb (y_of v) j)) s t

pub low_more : (passed : List ℕ) (w j : ℕ) → low (passed ++ (w ∷ [])) j ≡ low passed j + holds (leb (y_of w) j)
unfolding low tally
low_more passed w j = tally_append (λ v. leb (y_of v) j) passed (w ∷ []) ∙ ap (λ k. low passed j + k) (add-zero (holds (leb (y_of w) j)))

pub low_by_more : (t : ℕ) (passed : List ℕ) (w j : ℕ) → low_by t (passed ++ (w ∷ [])) j ≡ low_by t passed j + holds (both (eqb (index_of w) t) (leb (y_of w) j))
unfolding low_by tally
low_by_more t passed w j =
    tally_append (λ v. both (eqb (index_of v) t) (leb (y_of v) j)) passed (w ∷ [])
    ∙ ap (λ k. low_by t passed j + k) (add-zero (holds (both (eqb (index_of w) t) (leb (y_of w) j))))

-- An entry is of one point only.
pub low_by_others : (s t : ℕ) (passed : List ℕ) (j : ℕ) → (s ≡ t → ⊥) → low_by s passed j + low_by t passed j ≤ low passed j
unfolding low low_by both holds
low_by_others s t passed j n =
    tally_parts (λ w. both (eqb (index_of w) s) (leb (y_of w) j)) (λ w. both (eqb (index_of w) t) (leb (y_of w) j)) (λ w. leb (y_of w) j) passed
    (λ w. one (leb (y_of w) j) (index_of w))
  where
    one : (d : Bool) (p : ℕ) → holds (both (eqb p s) d) + holds (both (eqb p t) d) ≤ holds d
    one d p = go (eqb p s) (eqb p t) (equated p s) (equated p t)
      where
        go : (a b : Bool) → Equated p s a → Equated p t b → holds (both a d) + holds (both b d) ≤ holds d
        go true true (same e) (same f) = absurd (n (sym e ∙ f))
        go true false (same e) (differs f) = omega arith
        go false true (differs e) (same f) = omega arith
        go false false (differs e) (differs f) = omega arith

pub low_by_le : (t : ℕ) (passed : List ℕ) (j : ℕ) → low_by t passed j ≤ low passed j
low_by_le t passed j =
    let both' : low_by t passed j + low_by (suc t) passed j ≤ low passed j = low_by_others t (suc t) passed j (λ e. omega arith) in
    omega arith

-- A count of entries, with one of them at its place among the others.
pub tally_middle : (test : ℕ → Bool) (u : ℕ) (front s : List ℕ) (w : ℕ) (t : List ℕ) → tally test (u ∷ (front ++ (s ++ (w ∷ t)))) ≡ holds (test w) + tally test (u ∷ (front ++ (s ++ t)))
unfolding tally
tally_middle test u front s w t =
    let all : tally test (front ++ (s ++ (w ∷ t))) ≡ tally test front + (tally test s + (holds (test w) + tally test t)) =
    tally_append test front (s ++ (w ∷ t)) ∙ ap (λ k. tally test front + k) (tally_append test s (w ∷ t)) in
    let less : tally test (front ++ (s ++ t)) ≡ tally test front + (tally test s + tally test t) =
    tally_append test front (s ++ t) ∙ ap (λ k. tally test front + k) (tally_append test s t) in
    omega arith
