-- A reduction of a counted archive strikes out what the book strikes out, and notes what the book notes.
use Prim.Native.Nat.{ℕ, zero, suc, ◌≤◌, ◌<◌}
use mathlib.Core.Path.{◌≡◌, refl, sym, ap, ◌∙◌}
use mathlib.Core.Bool.{Bool, true, false}
use mathlib.Core.Logic.{inl, inr}
use mathlib.Core.List.{List, ◌∷◌, map, []}
use native.Mathlib.Omega.{arith}
use lib.Dec.{ltb}
use lib.ListN.{length, length-map}
use borrow.Author.Tests.{le-ltb}
use Rattle.hypervolume.proofs.Tests.{Compared, below, above, compared}
use Rattle.hypervolume.proofs.Counting.{contribution_same}
use Rattle.words.specs.Archive.{Trial, Row, point, points}
use Rattle.slices.specs.Choices.{pick}
use Rattle.words.specs.Format.{held, distinct}
use Rattle.words.proofs.Passed.{Sound}
use Rattle.calls.specs.Calls.{held_trials, without, removed, number_first, least_row, dropped, note, after_drops, notes}
use Rattle.calls.specs.Counted.{IsCounted, counted_row, counted}
use Rattle.calls.proofs.Members.{map_on, map_members}
use Rattle.calls.proofs.Counted.{counted_trials, counted_is_counted, counted_remove}
use Rattle.calls.proofs.Ranking.{highest_first, less, ties, leads_self, Leader, LeastOf, least_alone, least_settled, least_row_is, least_one}
use Rattle.calls.proofs.Drops.{leaving, drop_keeps}
use Rattle.history.specs.Book.{Book, counted_contribution, rather, at_a_tie, least_of, least_trial, struck, struck_out, book_note, thinned, book_notes}
use Rattle.history.specs.History.{sorted, shape_of_book, fresh_archive}
use Rattle.history.proofs.Fronts.{book_front_is}
use Rattle.calls.proofs.InOrder.{in_order_length, in_order_distinct, in_order_cover, in_order_member, member_in_order}
use Rattle.history.proofs.Sorting.{struck_trials, sorted_struck}

-- A trial of the book as a record, with its contribution as the book counts it.
unfoldable pub book_row : Book → Trial → Row
book_row b t = record { trial = t; kept = counted_contribution b t }

-- The one of two alike that goes at a tie, and the other.
tie_leader : (rule : ℕ) (b : Book) (t u : Trial) → counted_contribution b t ≡ counted_contribution b u
    → Leader rule (book_row b (at_a_tie rule t u)) (book_row b t) (book_row b u)
unfolding at_a_tie pick book_row number_first
tie_leader zero b t u e = go (ltb t.number u.number) (compared (suc t.number) u.number)
  where
    go : (z : Bool) → Compared (suc t.number) u.number z → Leader zero (book_row b (pick z t u)) (book_row b t) (book_row b u)
    go true (below r) = record { one = inl refl; first = leads_self zero (book_row b t); second = ties e (le-ltb u.number t.number (omega arith)) }
    go false (above r) = record { one = inr refl; first = ties (sym e) (le-ltb t.number u.number (omega arith)); second = leads_self zero (book_row b u) }
tie_leader (suc rule) b t u e = go (ltb u.number t.number) (compared (suc u.number) t.number)
  where
    highest : (m n : ℕ) → number_first (suc rule) m n ≡ ltb n m
    highest m n = highest_first (suc rule) (λ z. omega (arith, z)) m n

    go : (z : Bool) → Compared (suc u.number) t.number z → Leader (suc rule) (book_row b (pick z t u)) (book_row b t) (book_row b u)
    go true (below r) = record { one = inl refl; first = leads_self (suc rule) (book_row b t); second = ties e (highest u.number t.number ∙ le-ltb t.number u.number (omega arith)) }
    go false (above r) = record { one = inr refl; first = ties (sym e) (highest t.number u.number ∙ le-ltb u.number t.number (omega arith)); second = leads_self (suc rule) (book_row b u) }

book_leader : (rule : ℕ) (b : Book) (t u : Trial) → Leader rule (book_row b (rather rule b t u)) (book_row b t) (book_row b u)
unfolding rather pick book_row
book_leader rule b t u = go (ltb k l) (ltb l k) (compared (suc k) l) (compared (suc l) k)
  where
    k : ℕ
    k = counted_contribution b t

    l : ℕ
    l = counted_contribution b u

    go : (x y : Bool) → Compared (suc k) l x → Compared (suc l) k y → Leader rule (book_row b (pick x t (pick y u (at_a_tie rule t u)))) (book_row b t) (book_row b u)
    go true y (below p) q = record { one = inl refl; first = leads_self rule (book_row b t); second = less p }
    go false true (above p) (below q) = record { one = inr refl; first = less q; second = leads_self rule (book_row b u) }
    go false false (above p) (above q) = tie_leader rule b t u (omega arith)

book_least_of : (rule : ℕ) (b : Book) (t : Trial) (ts : List Trial) → LeastOf rule (book_row b (least_of rule b t ts)) (map (book_row b) (t ∷ ts))
unfolding least_of
book_least_of rule b t [] = least_alone rule (book_row b t)
book_least_of rule b t (u ∷ ts) =
    least_settled rule _ (book_row b (rather rule b t u)) (book_row b t) (book_row b u) (map (book_row b) ts)
    (book_leader rule b t u) (book_least_of rule b (rather rule b t u) ts)

pub book_least : (rule : ℕ) (b : Book) (ts : List Trial) → 0 < length ts → LeastOf rule (book_row b (least_trial rule b ts)) (map (book_row b) ts)
unfolding least_trial
book_least rule b [] l = absurd (let no' : ⊥ = omega arith in no')
book_least rule b (t ∷ ts) l = book_least_of rule b t ts

-- The records of the fresh archive are the book's, in order.
pub fresh_rows : (b : Book) → (fresh_archive b).rows ≡ map (book_row b) (sorted b.trials)
unfolding fresh_archive counted counted_row book_row counted_contribution shape_of_book points
fresh_rows b =
    map_on _ (book_row b) (sorted b.trials)
    (λ t m. ap (λ k. record { trial = t; kept = k }) (contribution_same _ _ _ (point t) (in_order_cover b.trials)))

-- The front that the book counts is that of the counted archive.
pub fresh_is : (b : Book) → fresh_archive b ≡ counted (shape_of_book b) (sorted b.trials)
unfolding fresh_archive counted
fresh_is b =
    ap (λ n. record { shape = shape_of_book b; sum = (counted (shape_of_book b) (sorted b.trials)).sum; front = n; rows = (counted (shape_of_book b) (sorted b.trials)).rows })
    (book_front_is b)

pub fresh_counted : (b : Book) → IsCounted (fresh_archive b)
fresh_counted b = rw (fresh_is b) (counted_is_counted (shape_of_book b) (sorted b.trials))

pub fresh_count : (b : Book) → length (fresh_archive b).rows ≡ length b.trials
fresh_count b = rw (fresh_rows b, length-map (sorted b.trials) (book_row b)) (in_order_length (λ t. t) b.trials)

fresh_least : (rule : ℕ) (b : Book) → 0 < length b.trials
    → ((least_row rule (fresh_archive b).rows).kept ≡ counted_contribution b (least_trial rule b b.trials)) × (leaving rule (fresh_archive b) ≡ (least_trial rule b b.trials).number)
unfolding book_row
fresh_least rule b l =
    rw (fresh_rows b)
    (least_one rule _ (book_row b (least_trial rule b b.trials))
    (map (book_row b) (sorted b.trials)) (map (book_row b) b.trials)
    (map_members (book_row b) _ _ (λ t. in_order_member (λ t. t) t b.trials))
    (map_members (book_row b) _ _ (λ t. member_in_order (λ t. t) t b.trials))
    (least_row_is rule (map (book_row b) (sorted b.trials)) (omega (arith, length-map (sorted b.trials) (book_row b), in_order_length (λ t. t) b.trials)))
    (book_least rule b b.trials l))

pub fresh_trials : (b : Book) → held_trials (fresh_archive b) ≡ sorted b.trials
unfolding fresh_archive
fresh_trials b = counted_trials (shape_of_book b) (sorted b.trials)

-- Striking a held trial out of the book is removing it from the fresh archive.
pub fresh_remove : (b : Book) (n : ℕ) → Sound (fresh_archive b) → held n (held_trials (fresh_archive b)) ≡ true
    → removed (fresh_archive b) n ≡ fresh_archive (struck n b)
unfolding fresh_archive without shape_of_book struck
fresh_remove b n s h =
    let apart : distinct (sorted b.trials) ≡ true = rw (← fresh_trials b) s.apart in
    let left : held_trials (without (fresh_archive b) n) ≡ sorted (struck_out n b.trials) =
    struck_trials n (fresh_archive b).rows ∙ ap (struck_out n) (fresh_trials b)
    ∙ sym (sorted_struck n b.trials (sym (in_order_distinct b.trials) ∙ apart)) in
    ap (λ a. removed a n) (fresh_is b) ∙ counted_remove (shape_of_book b) (sorted b.trials) n (rw (← fresh_trials b) h) apart
    ∙ ap (counted (shape_of_book b)) left
    ∙ sym (fresh_is (struck n b))

-- One drop, on the archive and in the book.
pub record DropsAlike (rule : ℕ) (b : Book) : Type 0 where
  pub noted : note rule (fresh_archive b) ≡ book_note rule b
  pub left : dropped rule (fresh_archive b) ≡ fresh_archive (struck (least_trial rule b b.trials).number b)
  pub sound : Sound (fresh_archive (struck (least_trial rule b b.trials).number b))
  pub count : length b.trials ≡ suc (length (struck (least_trial rule b b.trials).number b).trials)

pub drops_alike : (rule : ℕ) (b : Book) → Sound (fresh_archive b) → 0 < length b.trials → DropsAlike rule b
unfolding note book_note
drops_alike rule b s l =
    let least = fresh_least rule b l in
    let kept = drop_keeps rule (fresh_archive b) s (fresh_counted b) (rw (fresh_count b) l) in
    let left : dropped rule (fresh_archive b) ≡ fresh_archive (struck (least_trial rule b b.trials).number b) =
    rw (← least.1) (unfold dropped in fresh_remove b (leaving rule (fresh_archive b)) s kept.known) in
    record {
      noted = rw (least.0, least.1);
      left = left;
      sound = rw (← left) kept.sound;
      count = sym (fresh_count b) ∙ kept.count ∙ ap suc (ap (λ a. length a.rows) left ∙ fresh_count _);
    }

pub struck_shape : (n : ℕ) (b : Book) → shape_of_book (struck n b) ≡ shape_of_book b
unfolding struck shape_of_book
struck_shape n b = refl

-- A whole reduction: n drops.
pub record Thins (rule n : ℕ) (b : Book) : Type 0 where
  pub left : after_drops rule n (fresh_archive b) ≡ fresh_archive (thinned rule n b)
  pub noted : notes rule n (fresh_archive b) ≡ book_notes rule n b
  pub sound : Sound (fresh_archive (thinned rule n b))
  pub shape : shape_of_book (thinned rule n b) ≡ shape_of_book b

pub thins : (rule n : ℕ) (b : Book) → Sound (fresh_archive b) → n ≤ length b.trials → Thins rule n b
unfolding after_drops notes thinned book_notes
thins rule zero b s l = record { left = refl; noted = refl; sound = s; shape = refl }
thins rule (suc n) b s l =
    let drop = drops_alike rule b s (omega arith) in
    let one = drop.count in
    let later = thins rule n (struck (least_trial rule b b.trials).number b) drop.sound (omega arith) in
    record {
      left = rw drop.left later.left;
      noted = rw (drop.noted, drop.left, later.noted);
      sound = later.sound;
      shape = later.shape ∙ struck_shape _ b;
    }
