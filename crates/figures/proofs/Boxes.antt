-- The totals of archives one behind the other, and their common box: each total is that of one run, whose box it is.
use Prim.Native.Nat.{ℕ, zero, suc, ◌≤◌, ◌<◌}
use mathlib.Core.Path.{◌≡◌, refl, sym, ◌∙◌}
use mathlib.Core.Bool.{true}
use mathlib.Core.List.{List}
use native.Mathlib.Omega.{arith}
use lib.ListN.{length, get_or, length-map}
use borrow.Author.Tests.{eqb-true}
use Rattle.slices.proofs.Choices.{both_true}
use Rattle.words.specs.Archive.{Archive}
use Rattle.words.specs.Layout.{word, read, behind}
use Rattle.words.specs.Format.{archive_rows}
use Rattle.calls.specs.Calls.{box_of}
use Rattle.calls.proofs.Known.{known}
use Rattle.fleet.specs.Fleet.{archives, past, fleet_rows}
use Rattle.fleet.proofs.Fleet.{length_archives, every_at, passed_at}
use Rattle.figures.specs.Figures.{totals, same_reference, of_one_reference, common_box}
use Rattle.figures.specs.Theorem.{OneOf}

-- The total of a turn.
pub totals_at : (n k : ℕ) (w : List ℕ) → k < n → get_or (totals (archives n w)) k 0 ≡ word (past k w) 5
unfolding totals archives past read
totals_at zero k w l = absurd (let no : ⊥ = omega arith in no)
totals_at (suc n) zero w l = refl
totals_at (suc n) (suc k) w l = totals_at n k (behind w) (omega arith)

pub length_totals : (n : ℕ) (w : List ℕ) → length (totals (archives n w)) ≡ n
unfolding totals
length_totals n w = length-map (archives n w) (λ a. a.sum) ∙ length_archives n w

-- Archives of one reference have one box.
same_box : (a b : Archive) → same_reference a b ≡ true → box_of b ≡ box_of a
unfolding same_reference
same_box a b e =
    let x = both_true _ _ e in
    let yz = both_true _ _ x.1 in
    rw (eqb-true a.shape.rx b.shape.rx x.0, eqb-true a.shape.ry b.shape.ry yz.0, eqb-true a.shape.rz b.shape.rz yz.1)

alike_boxes : (n k : ℕ) (w : List ℕ) → of_one_reference (archives n w) ≡ true → k < n → box_of (read (past k w)) ≡ box_of (read w)
unfolding of_one_reference archives past
alike_boxes zero k w e l = absurd (let no : ⊥ = omega arith in no)
alike_boxes (suc n) zero w e l = refl
alike_boxes (suc n) (suc k) w e l =
    same_box (read w) (read (past k (behind w))) (every_at (same_reference (read w)) n k (behind w) e (omega arith))

pub common_first : (n : ℕ) (w : List ℕ) → 1 ≤ n → common_box (archives n w) ≡ box_of (read w)
unfolding common_box archives
common_first zero w l = absurd (let no : ⊥ = omega arith in no)
common_first (suc n) w l = refl

-- A number that is the total of a run, and the run's box the common one.
pub record OfRun (n : ℕ) (w : List ℕ) (v : ℕ) : Type 0 where
  pub run : ℕ
  pub inside : run < n
  pub passes : archive_rows (past run w) 0 ≡ 0
  pub there : word (past run w) 5 ≡ v
  pub boxed : box_of (read (past run w)) ≡ box_of (read w)

pub one_run : (n : ℕ) (w : List ℕ) {v : ℕ} → fleet_rows n w 0 ≡ 0 → of_one_reference (archives n w) ≡ true → OneOf (totals (archives n w)) v → OfRun n w v
one_run n w passes alike o =
    let inside : o.place < n = omega (arith, o.inside, length_totals n w) in
    record {
      run = o.place;
      inside = inside;
      passes = passed_at n o.place w passes inside;
      there = sym (totals_at n o.place w inside) ∙ o.there;
      boxed = alike_boxes n o.place w alike inside;
    }

pub of_run_within : {n : ℕ} {w : List ℕ} {v : ℕ} → OfRun n w v → v ≤ box_of (read w)
unfolding read
of_run_within {n} {w} {v} o = rw (← o.there, ← o.boxed) (known (past o.run w) o.passes).boxed
