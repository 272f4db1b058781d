-- Laws of the further lines as they are judged: the search for a number, and the loop over them.
use Prim.Native.Nat.{ℕ, zero, suc, ◌+◌, ◌-◌, ◌*◌, ◌≤◌, ◌<◌}
use mathlib.Core.Path.{◌≡◌, refl, sym, ap, ◌∙◌}
use mathlib.Core.Bool.{Bool, true, false, true≢false}
use mathlib.Core.List.{List, ◌∷◌, []}
use mathlib.Core.Option.{Option, none, some}
use native.Mathlib.Numerals.{add-one}
use native.Mathlib.Omega.{arith}
use lib.Dec.{eqb}
use lib.ListN.{length, drop}
use borrow.Author.Tests.{ne_eqb}
use Rattle.std.specs.Prelude.{Option as StdOption, None, Some, unwrap_or}
use Rattle.std.specs.Option.{option_eq}
use Rattle.slices.specs.Choices.{either, both}
use Rattle.hypervolume.proofs.Tests.{Equated, same, equated}
use Rattle.text.specs.Lines.{Numbers}
use Rattle.words.specs.Archive.{Shape, Archive, trials}
use Rattle.words.specs.Format.{held, within, number_allowed}
use Rattle.words.specs.Table.{marked, Marking}
use Rattle.calls.specs.Calls.{held_trials, empty, inserted, admission_rows}
use Rattle.calls.proofs.Counted.{inserted_trials}
use Rattle.calls.proofs.Order.{held_place}
use Rattle.card.specs.declared.Loaded.{Loaded}
use Rattle.card.specs.Card.{trial_on, line_count, lines, due}
use Rattle.card.specs.Verdict.{refusal, archive, judge_further, answer_of}
use Rattle.card.specs.Further.{number_due, taken, further_rows}
use Rattle.card.proofs.CardLines.{inside, lines_due, no_lines_due}
use Rattle.calls.proofs.Sound.{inserted_count}
use Rattle.card.proofs.Verdicts.{in_turn_refused, in_turn_passed, answers_refusal}

-- A number that is allowed is no 0, so a line without a number has another.
pub positive : (n : ℕ) → true ≡ number_allowed n → 1 ≤ n
unfolding number_allowed within both
positive zero e = absurd (true≢false e)
positive (suc n) e = omega arith

pub found_number : (r : StdOption ℕ) (m : ℕ) {d : ℕ} → 1 ≤ m → unwrap_or r 0 ≡ d → option_eq eqb r (Some m) ≡ eqb d m
found_number None m {d} l e = sym (ne_eqb d m (λ q. omega (arith, q, e)))
found_number (Some n) m l e = rw (← e)

-- One line more.
taken_more : (card : List ℕ) (n m : ℕ) → taken card (n + 1) m ≡ either (eqb (number_due (due card (n + 2))) m) (taken card n m)
unfolding taken
taken_more card n m = ap (λ k. taken card k m) (add-one n)

-- The search goes back from the last line: what is left of it is the first i lines.
pub record Searched (card : List ℕ) (count m i : ℕ) : Type 0 where
  pub inside : i ≤ count
  pub left : taken card count m ≡ taken card i m

module _ (card : List ℕ) (count m i : ℕ) (s : Searched card count m i) where
  last_line : 0 < i → taken card count m ≡ either (eqb (number_due (due card (i - 1 + 2))) m) (taken card (i - 1) m)
  last_line l =
      let one : i ≡ i - 1 + 1 = omega arith in
      s.left ∙ ap (λ k. taken card k m) one ∙ taken_more card (i - 1) m

  pub searched_more : 0 < i → false ≡ eqb (number_due (due card (i - 1 + 2))) m → Searched card count m (i - 1)
  unfolding either
  searched_more l other =
      let within : i ≤ count = s.inside in
      record { inside = omega arith; left = last_line l ∙ (rw (← other)) }

  pub searched_stop : 0 < i → true ≡ eqb (number_due (due card (i - 1 + 2))) m → true ≡ taken card count m
  unfolding either
  searched_stop l found = sym (last_line l ∙ (rw (← found)))

  pub searched_end : i ≤ 0 → false ≡ taken card count m
  unfolding taken
  searched_end l =
      let none_left : i ≡ 0 = omega arith in
      sym (s.left ∙ ap (λ k. taken card k m) none_left)

-- The loop over the further lines, with the archive that the verdict has come to behind the first `count` of them: its
-- numbers are those of these lines, and the table has them.
pub record Judged (card : List ℕ) (s : Shape) (count : ℕ) (table : List ℕ) : Type 0 where
  pub so_far : Archive
  pub shape : so_far.shape ≡ s
  pub long : length so_far.rows ≡ count
  pub numbers : (m : ℕ) → held m (held_trials so_far) ≡ taken card count m
  pub noted : (m : ℕ) → taken card count m ≡ true → marked table m ≡ true
  pub sized : length table ≡ 1024
  pub inside : count ≤ line_count card
  pub left : judge_further (empty s) (lines (drop 33 card)) ≡ judge_further so_far (lines (drop (33 * (count + 1)) card))

pub judged_none : (card : List ℕ) (s : Shape) (table : List ℕ) → length table ≡ 1024 → Judged card s 0 table
unfolding empty trials held taken
judged_none card s table sized =
    record {
      so_far = empty s;
      shape = refl;
      long = refl;
      numbers = λ m. refl;
      noted = λ m e. absurd (true≢false (sym e));
      sized = sized;
      inside = omega arith;
      left = refl;
    }

module _ {card : List ℕ} {s : Shape} {count : ℕ} {table : List ℕ} (j : Judged card s count table) where
  -- A number whose bit is clear is not taken.
  pub judged_unmet : {met : Bool} {n m : ℕ} → n ≡ m → met ≡ marked table n → met ≡ false → taken card count m ≡ false
  judged_unmet {m = m} number e clear = go (taken card count m) refl
    where
      go : (t : Bool) → taken card count m ≡ t → t ≡ false
      go true q = absurd (true≢false (sym (j.noted m q) ∙ ap (marked table) (sym number) ∙ sym e ∙ clear))
      go false q = refl

  -- The rows are those of the archive.
  rows_alike : (v : Numbers) → further_rows s.capacity count (taken card count v.first) (some v) ≡ admission_rows j.so_far (trial_on v) 0
  unfolding further_rows admission_rows trial_on
  rows_alike v = rw (← j.numbers v.first, ← j.shape, ← j.long)

  line_refused : (l : Option Numbers) (ls : List (Option Numbers)) {k : ℕ} → k ≡ further_rows s.capacity count (taken card count (number_due (some l))) l
      → (k ≡ 0 → ⊥) → judge_further j.so_far (l ∷ ls) ≡ refusal k (count + 2)
  unfolding judge_further further_rows number_due
  line_refused none ls e other = rw (e, j.long)
  line_refused (some v) ls {k} e other =
      rw (← rows_alike v, ← e, j.long) (in_turn_refused k (count + 2) _ other)

  line_passed : (v : Numbers) (ls : List (Option Numbers)) → further_rows s.capacity count (taken card count v.first) (some v) ≡ 0
      → judge_further j.so_far (some v ∷ ls) ≡ judge_further (inserted j.so_far (trial_on v)) ls
  unfolding judge_further
  line_passed v ls e = in_turn_passed _ _ _ (sym (rows_alike v) ∙ e)

  lines_here : {l : Option Numbers} → some l ≡ due card (count + 2)
      → lines (drop (33 * (count + 1)) card) ≡ l ∷ lines (drop (33 * (count + 1 + 1)) card)
  lines_here e =
      let here : count + 2 - 1 ≡ count + 1 = omega arith in
      let next : count + 2 ≡ count + 1 + 1 = omega arith in
      rw (here, next) at (lines_due card (inside card e))

  pub judged_stop : {l : Option Numbers} {k : ℕ} {r : Loaded} → some l ≡ due card (count + 2)
      → k ≡ further_rows s.capacity count (taken card count (number_due (some l))) l → (k ≡ 0 → ⊥)
      → r ≡ record { refusal = k; line = count + 2; count = 0 } → r ≡ answer_of (judge_further (empty s) (lines (drop 33 card)))
  judged_stop {l} here e other said =
      answers_refusal (j.left ∙ ap (judge_further j.so_far) (lines_here here) ∙ line_refused l _ e other) said

  pub judged_end : none ≡ due card (count + 2)
      → record { refusal = 0; line = 0; count = count } ≡ answer_of (judge_further (empty s) (lines (drop 33 card)))
  unfolding judge_further answer_of
  judged_end e =
      let behind : count + 2 - 1 ≡ count + 1 = omega arith in
      let empty' : lines (drop (33 * (count + 1)) card) ≡ [] = (rw (← behind) (no_lines_due card (omega arith) e)) in
      let whole : judge_further (empty s) (lines (drop 33 card)) ≡ archive j.so_far = j.left ∙ ap (judge_further j.so_far) empty' in
      rw (whole, j.long)

  -- One line more.
  numbers_more : (v : Numbers) → some (some v) ≡ due card (count + 2) → (m : ℕ)
      → held m (held_trials (inserted j.so_far (trial_on v))) ≡ taken card (count + 1) m
  unfolding held trial_on number_due
  numbers_more v here m =
      ap (held m) (inserted_trials j.so_far (trial_on v))
      ∙ held_place m (trial_on v) (held_trials j.so_far)
      ∙ ap (either (eqb v.first m)) (j.numbers m)
      ∙ ap (λ d. either (eqb (number_due d) m) (taken card count m)) here
      ∙ sym (taken_more card count m)

  noted_more : {l : Option Numbers} {after : List ℕ} → some l ≡ due card (count + 2) → Marking table after (number_due (some l)) → (m : ℕ)
      → taken card (count + 1) m ≡ true → marked after m ≡ true
  unfolding either
  noted_more {l} {after} here marking m e =
      go (eqb (number_due (some l)) m) (equated (number_due (some l)) m)
      (sym e ∙ taken_more card count m ∙ ap (λ d. either (eqb (number_due d) m) (taken card count m)) (sym here))
    where
      go : (t : Bool) → Equated (number_due (some l)) m t → true ≡ either t (taken card count m) → marked after m ≡ true
      go true (same q) f = ap (marked after) (sym q) ∙ marking.set
      go false q f = marking.stays m (j.noted m (sym f))

  pub judged_more : {l : Option Numbers} {k n : ℕ} {after : List ℕ} → some l ≡ due card (count + 2)
      → k ≡ further_rows s.capacity count (taken card count (number_due (some l))) l → k ≡ 0
      → n ≡ number_due (some l) → Marking table after n → length after ≡ length table → Judged card s (count + 1) after
  unfolding further_rows number_due inserted
  judged_more {l} {k} {n} {after} here e done number marking sized =
      go l here (sym e ∙ done) (noted_more here (rw number at marking))
    where
      go : (l : Option Numbers) → some l ≡ due card (count + 2) → further_rows s.capacity count (taken card count (number_due (some l))) l ≡ 0
          → ((m : ℕ) → taken card (count + 1) m ≡ true → marked after m ≡ true) → Judged card s (count + 1) after
      go none here passed noted = absurd (let no : ⊥ = omega arith in no)
      go (some v) here passed noted =
          let last : count + 2 ≤ line_count card = (inside card here).last in
          record {
            so_far = inserted j.so_far (trial_on v);
            shape = j.shape;
            long = inserted_count j.so_far (trial_on v) ∙ ap (λ n. n + 1) j.long;
            numbers = numbers_more v here;
            noted = noted;
            sized = sized ∙ j.sized;
            inside = omega arith;
            left = j.left ∙ ap (judge_further j.so_far) (lines_here here) ∙ line_passed v _ passed;
          }
