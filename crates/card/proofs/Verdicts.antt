-- Laws of the verdict on a card's lines: which rows turn it down, and what it does not depend on.
use Prim.Native.Nat.{ℕ, zero, suc, ◌+◌, ◌*◌, ◌≤◌}
use mathlib.Core.Path.{◌≡◌, refl, ap}
use mathlib.Core.Bool.{Bool, true, false, not}
use mathlib.Core.List.{List, ◌∷◌, []}
use mathlib.Core.Option.{Option, none, some}
use native.Mathlib.Omega.{arith}
use lib.Dec.{ltb}
use lib.ListN.{length, take}
use borrow.Author.Tests.{le-ltb}
use Rattle.text.specs.Lines.{Numbers}
use Rattle.words.specs.Archive.{Archive}
use Rattle.words.specs.Layout.{extent}
use Rattle.words.specs.Format.{guard, shape_allowed}
use Rattle.words.proofs.Passed.{shape_bounds}
use Rattle.calls.specs.Calls.{empty, inserted, admission_rows}
use Rattle.calls.specs.Lent.{start_rows}
use Rattle.card.specs.declared.Loaded.{Loaded}
use Rattle.card.specs.Card.{shape_on, trial_on}
use Rattle.card.specs.Verdict.{Verdict, refusal, archive, in_turn, judge_further, judge, answer_of}
use Rattle.card.specs.Theorems.{TurnedDown, form, shape, slice, number, coordinate, held, full}
use Rattle.calls.proofs.Sound.{inserted_count}
use Rattle.card.proofs.Judging.{Fair, inserted_fair, empty_fair, shape_passed}

-- A verdict as it can be.
pub data Possible : Verdict → Type 0 where
  refused : {n line : ℕ} → TurnedDown n line → Possible (refusal n line)
  accepted : {a : Archive} → Fair a → Possible (archive a)

-- How many trials an archive holds on the way.
pub few : (a : Archive) → Fair a → length a.rows ≤ 512
few a f =
    let most : a.shape.capacity ≤ 512 = (shape_bounds a.shape f.sound.shaped).capacity_high in
    let within : length a.rows ≤ a.shape.capacity = f.sound.held_within in
    omega arith

-- Rows 5 to 8 at a line.
admission_possible : (p q r s : Bool) (line : ℕ) (rest : Verdict) → 2 ≤ line → line ≤ 514
    → (guard p 5 (guard q 6 (guard r 7 (guard s 8 0))) ≡ 0 → Possible rest)
    → Possible (in_turn (guard p 5 (guard q 6 (guard r 7 (guard s 8 0)))) line rest)
unfolding guard in_turn
admission_possible true q r s line rest l h more = refused (number l h)
admission_possible false true r s line rest l h more = refused (coordinate l h)
admission_possible false false true s line rest l h more = refused (held l h)
admission_possible false false false true line rest l h more = refused (full l h)
admission_possible false false false false line rest l h more = more refl

further_possible : (a : Archive) → Fair a → (ls : List (Option Numbers)) → Possible (judge_further a ls)
unfolding judge_further admission_rows
further_possible a f [] = accepted f
further_possible a f (none ∷ ls) =
    let most : length a.rows ≤ 512 = few a f in
    refused (form {line = length a.rows + 2} (omega arith) (omega arith))
further_possible a f (some v ∷ ls) =
    let most : length a.rows ≤ 512 = few a f in
    admission_possible _ _ _ _ _ _ (omega arith) (omega arith)
    (λ e. further_possible (inserted a (trial_on v)) (inserted_fair a (trial_on v) f e) ls)

shape_possible : (p q : Bool) (rest : Verdict) → (guard p 4 (guard q 1 0) ≡ 0 → Possible rest)
    → Possible (in_turn (guard p 4 (guard q 1 0)) 1 rest)
unfolding guard in_turn
shape_possible true q rest more = refused shape
shape_possible false true rest more = refused slice
shape_possible false false rest more = more refl

pub possible : (long : ℕ) (ls : List (Option Numbers)) → Possible (judge long ls)
unfolding judge start_rows
possible long [] = refused (form {line = 1} (omega arith) (omega arith))
possible long (none ∷ ls) = refused (form {line = 1} (omega arith) (omega arith))
possible long (some v ∷ ls) =
    shape_possible _ _ _ (λ e. further_possible (empty (shape_on v)) (empty_fair (shape_on v) (shape_passed long (shape_on v) e)) ls)

-- A slice that is long enough for every capacity is as good as a longer one.
enough : (p : Bool) (long capacity : ℕ) → extent 512 ≤ long → (p ≡ true → capacity ≤ 512)
    → guard (not p) 4 (guard (ltb (extent 512) (extent capacity)) 1 0) ≡ guard (not p) 4 (guard (ltb long (extent capacity)) 1 0)
unfolding guard extent
enough false long capacity l most = refl
enough true long capacity l most =
    let bound : capacity ≤ 512 = most refl in
    rw (le-ltb 2568 (8 + 5 * capacity) (omega arith), le-ltb long (8 + 5 * capacity) (omega arith))

pub judge_enough : (long : ℕ) (ls : List (Option Numbers)) → extent 512 ≤ long → judge (extent 512) ls ≡ judge long ls
unfolding judge start_rows
judge_enough long [] l = refl
judge_enough long (none ∷ ls) l = refl
judge_enough long (some v ∷ ls) l =
    ap (λ k. in_turn k 1 (judge_further (empty (shape_on v)) ls))
    (enough (shape_allowed (shape_on v)) long (shape_on v).capacity l (λ e. (shape_bounds (shape_on v) e).capacity_high))

-- A line that is refused, and one that is let in.
pub in_turn_refused : (k line : ℕ) (rest : Verdict) → (k ≡ 0 → ⊥) → in_turn k line rest ≡ refusal k line
unfolding in_turn
in_turn_refused zero line rest other = absurd (other refl)
in_turn_refused (suc k) line rest other = refl

pub in_turn_passed : (k line : ℕ) (rest : Verdict) → k ≡ 0 → in_turn k line rest ≡ rest
unfolding in_turn
in_turn_passed k line rest e = rw e

pub answers_refusal : {v : Verdict} {k line : ℕ} {r : Loaded} → v ≡ refusal k line → r ≡ record { refusal = k; line = line; count = 0 }
    → r ≡ answer_of v
unfolding answer_of
answers_refusal e said = rw e said

-- What matters of the rest of a card matters only where the line is let in.
in_turn_alike : (k line : ℕ) {x y : Verdict} → (k ≡ 0 → x ≡ y) → in_turn k line x ≡ in_turn k line y
unfolding in_turn
in_turn_alike zero line e = e refl
in_turn_alike (suc k) line e = refl

-- Only the first 514 lines matter: on the last of them no trial can go in.
further_cut : (a : Archive) → Fair a → (ls : List (Option Numbers)) (m : ℕ) → 513 ≤ m + length a.rows
    → judge_further a (take m ls) ≡ judge_further a ls
unfolding judge_further
further_cut a f [] zero l = refl
further_cut a f [] (suc m) l = refl
further_cut a f (x ∷ ls) zero l =
    let most : length a.rows ≤ 512 = few a f in
    absurd (let no' : ⊥ = omega arith in no')
further_cut a f (none ∷ ls) (suc m) l = refl
further_cut a f (some v ∷ ls) (suc m) l =
    let more : length (inserted a (trial_on v)).rows ≡ length a.rows + 1 = inserted_count a (trial_on v) in
    in_turn_alike _ _ (λ e. further_cut (inserted a (trial_on v)) (inserted_fair a (trial_on v) f e) ls m (omega arith))

pub judge_cut : (long : ℕ) (ls : List (Option Numbers)) → judge long (take 514 ls) ≡ judge long ls
unfolding judge
judge_cut long [] = refl
judge_cut long (none ∷ ls) = refl
judge_cut long (some v ∷ ls) =
    in_turn_alike _ _ (λ e. further_cut (empty (shape_on v)) (empty_fair (shape_on v) (shape_passed long (shape_on v) e)) ls 513 (omega arith))

-- Row 1 apart, a slice is as good as one that is long enough for every capacity.
pub judge_unless_short : (long : ℕ) (ls : List (Option Numbers)) → (judge long ls ≡ refusal 1 1 → ⊥)
    → judge (extent 512) ls ≡ judge long ls
unfolding judge start_rows guard in_turn extent
judge_unless_short long [] some-other = refl
judge_unless_short long (none ∷ ls) some-other = refl
judge_unless_short long (some v ∷ ls) some-other =
    go (shape_allowed (shape_on v)) (λ e. (shape_bounds (shape_on v) e).capacity_high) (ltb long (extent (shape_on v).capacity)) some-other
  where
    most : ℕ
    most = extent (shape_on v).capacity

    rest : Verdict
    rest = judge_further (empty (shape_on v)) ls

    go : (p : Bool) → (p ≡ true → (shape_on v).capacity ≤ 512) → (q : Bool)
        → (in_turn (guard (not p) 4 (guard q 1 0)) 1 rest ≡ refusal 1 1 → ⊥)
        → in_turn (guard (not p) 4 (guard (ltb (extent 512) most) 1 0)) 1 rest ≡ in_turn (guard (not p) 4 (guard q 1 0)) 1 rest
    go false bound q other = refl
    go true bound true other = absurd (other refl)
    go true bound false other =
        let few' : (shape_on v).capacity ≤ 512 = bound refl in
        let room : ltb (extent 512) most ≡ false = le-ltb (extent 512) most (omega arith) in
        rw room
