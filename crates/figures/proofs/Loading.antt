-- The runs: their totals read one by one, their references compared with the first, and the share's box.
use Prim.Native.Nat.{ℕ, zero, suc, ◌+◌, ◌-◌, ◌≤◌, ◌<◌}
use mathlib.Core.Path.{◌≡◌, refl, sym, ap, ◌∙◌}
use mathlib.Core.Bool.{Bool, true, false, ◌&&◌}
use mathlib.Core.List.{List, ◌∷◌, []}
use native.Mathlib.Omega.{arith}
use lib.Dec.{eqb}
use lib.ListN.{length, get_or, take, drop, set, length-set}
use lib.Seq.{get_or-set_same, get_or-set_other, get_or-drop, ext_get_or}
use Rattle.std.specs.Cmp.Lexicographic.{pointwise}
use Rattle.slices.specs.Choices.{both}
use Rattle.slices.proofs.Put.{rest_is}
use Rattle.order.proofs.ByDigit.{length_by_digit}
use Rattle.hypervolume.proofs.Tests.{by_order}
use Rattle.words.specs.Layout.{word, read, read_shape, behind}
use Rattle.words.specs.Format.{archive_rows}
use Rattle.calls.specs.Calls.{box_of}
use Rattle.calls.proofs.Known.{known, box_filled}
use Rattle.fleet.specs.Fleet.{archives, past, every}
use Rattle.fleet.specs.Starts.{Starts}
use Rattle.fleet.proofs.Fleet.{passed_at}
use Rattle.fleet.proofs.Loops.{start_past, Testing}
use Rattle.figures.specs.Figures.{totals, ascending, ranked, same_reference, of_one_reference}
use Rattle.figures.specs.Runs.{Runs, Totals}
use Rattle.figures.proofs.Ranks.{ranked_is}
use Rattle.figures.proofs.Theorem.{fleet_totals}
use Rattle.figures.proofs.Boxes.{totals_at, length_totals, one_run, of_run_within}

-- The first i totals are read.
pub record Loading (w starts : List ℕ) (i : ℕ) (out : List ℕ) : Type 0 where
  pub part : i ≤ length starts
  pub long : length out ≡ length starts
  pub there : (k : ℕ) → k < i → get_or out k 0 ≡ word (past k w) 5

module _ {w starts : List ℕ} {i : ℕ} {out : List ℕ} (h : Loading w starts i out) where
  pub loading_more : Starts w starts → i < length starts → Loading w starts (i + 1) (set out i (word w (get_or starts i 0 + 5)))
  loading_more s l =
      record {
        part = omega arith;
        long = length-set out i _ ∙ h.long;
        there = λ k b.
            by_order i k
            (λ c. let z : k ≡ i = omega arith in rw z (get_or-set_same out i _ 0 (omega (arith, h.long)) ∙ total))
            (λ c. get_or-set_other out i k _ 0 (λ q. omega arith) ∙ h.there k c);
      }
    where
      total : word w (get_or starts i 0 + 5) ≡ word (past i w) 5
      total =
          sym (get_or-drop (get_or starts i 0) w 5 0) ∙ ap (λ b. word b 5) (sym (rest_is (get_or starts i 0) w) ∙ start_past s i l)

  pub loading_end : length starts ≤ i → out ≡ totals (archives (length starts) w)
  loading_end l =
      ext_get_or 0 out (totals (archives (length starts) w)) (h.long ∙ sym (length_totals (length starts) w))
      (λ k b. h.there k (omega (arith, h.long)) ∙ sym (totals_at (length starts) k w (omega (arith, h.long))))

-- A reference is words 2, 3 and 4.
pub same_by_words : (a b : List ℕ) {yz all : Bool} → yz ≡ both (eqb (word a 3) (word b 3)) (eqb (word a 4) (word b 4))
    → all ≡ both (eqb (word a 2) (word b 2)) yz → all ≡ same_reference (read a) (read b)
unfolding same_reference read read_shape
same_by_words a b e f = f ∙ ap (both (eqb (word a 2) (word b 2))) e

words_of : (a : List ℕ) → 8 ≤ length a → take 3 (drop 2 a) ≡ word a 2 ∷ word a 3 ∷ word a 4 ∷ []
words_of [] h = absurd (let no : ⊥ = omega arith in no)
words_of (p ∷ []) h = absurd (let no : ⊥ = omega arith in no)
words_of (p ∷ q ∷ []) h = absurd (let no : ⊥ = omega arith in no)
words_of (p ∷ q ∷ x ∷ []) h = absurd (let no : ⊥ = omega arith in no)
words_of (p ∷ q ∷ x ∷ y ∷ []) h = absurd (let no : ⊥ = omega arith in no)
words_of (p ∷ q ∷ x ∷ y ∷ z ∷ a) h = refl

pub same_by_parts : (a b : List ℕ) → 8 ≤ length a → 8 ≤ length b → {same : Bool} → same ≡ pointwise eqb (take 3 (drop 2 a)) (take 3 (drop 2 b)) → same ≡ same_reference (read a) (read b)
unfolding both
same_by_parts a b h k e =
    same_by_words a b refl
    (e ∙ rw (words_of a h, words_of b k) (go (eqb (word a 2) (word b 2)) (eqb (word a 3) (word b 3)) (eqb (word a 4) (word b 4))))
  where
    go : (s t u : Bool) → (s && (t && (u && true))) ≡ both s (both t u)
    go true true true = refl
    go true true false = refl
    go true false u = refl
    go false t u = refl

-- References are compared from the second archive on.
pub comparing_none : (n : ℕ) (w : List ℕ) → Testing (same_reference (read w)) (of_one_reference (archives n w)) w n 1
unfolding of_one_reference archives past every
comparing_none zero w = record { left = refl }
comparing_none (suc n) w =
    record { left = ap (λ k. every (same_reference (read w)) (archives k (behind w))) (let e : n ≡ suc n - 1 = omega arith in e) }

-- What the figures and the share ask of the runs.
module _ {w starts : List ℕ} (h : Runs w starts) where
  pub first_passes : archive_rows w 0 ≡ 0
  unfolding past
  first_passes = passed_at (length starts) 0 w h.begun.passes h.some

  pub runs_totals : {l : List ℕ} → l ≡ totals (archives (length starts) w) → Totals l
  runs_totals e = rw e (fleet_totals (length starts) w h.few h.begun.passes)

  ranked_within : (k : ℕ) → k < length starts → ranked (totals (archives (length starts) w)) k ≤ box_of (read w)
  ranked_within k l =
      let fits : k < length (totals (archives (length starts) w)) = omega (arith, length_totals (length starts) w) in
      of_run_within (one_run (length starts) w h.begun.passes h.alike (ranked_is (totals (archives (length starts) w)) k fits).one_of)

  pub sorted_long : {t s : List ℕ} → t ≡ totals (archives (length starts) w) → s ≡ ascending t → length s ≡ length starts
  unfolding ascending
  sorted_long {t} e f = ap length f ∙ length_by_digit (λ k. k) t ∙ ap length e ∙ length_totals (length starts) w

  -- The share's box is the first archive's, and the median lies within it.
  pub share_asks : {whole : ℕ} {s : List ℕ} (k : ℕ) → whole ≡ box_of (read w) → s ≡ ascending (totals (archives (length starts) w)) → k < length starts
      → (1 ≤ whole) × (get_or s k 0 ≤ whole) × (whole ≤ 1152921504606846976)
  unfolding read ranked
  share_asks k e f l =
      rw (e, f) (box_filled w first_passes, ranked_within k l, (known w first_passes).box_small)
