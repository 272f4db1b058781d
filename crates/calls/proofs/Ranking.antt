-- The least contributor by a tie rule: it leads every record, it is one of them, and the rule leaves no choice of number or
-- contribution; so it does not depend on the order of the records. What is asked of a rule is said once (Ordering).
use Prim.Native.Nat.{ℕ, suc, ◌≤◌, ◌<◌}
use mathlib.Core.Path.{◌≡◌, refl, sym, ap, ◌∙◌}
use mathlib.Core.Bool.{Bool, true, false}
use mathlib.Core.Logic.{◌⊎◌, inl, inr}
use mathlib.Core.List.Memᴰ
use mathlib.Core.List.{List, ◌∷◌, Memᴰ, []}
use native.Mathlib.Omega.{arith}
use lib.Dec.{eqb, ltb}
use lib.ListN.{length}
use borrow.Author.Tests.{not-true, eq-eqb, ne_eqb, le-ltb, ltb-true, ltb-false}
use Rattle.slices.specs.Choices.{both, pick, either}
use Rattle.hypervolume.proofs.Tests.{Compared, below, above, compared, Equated, same, differs, equated}
use Rattle.slices.proofs.Choices.{both_true}
use Rattle.words.specs.Archive.{Row, trials}
use Rattle.words.specs.Format.{held, distinct}
use Rattle.calls.specs.Calls.{row_of, number_first, goes_first, least_from, least_row}
use Rattle.calls.proofs.Members.{row_of_here, row_of_later}
use Rattle.calls.proofs.Order.{not_held}

-- What the laws of least ask of an order by numbers: of two trials not both go before the other, "not before" goes through, and of two
-- different ones one goes before the other.
pub record Ordering (first : ℕ → ℕ → Bool) : Type 0 where
  pub never_both : (m n : ℕ) → first m n ≡ true → first n m ≡ false
  pub through : (l m n : ℕ) → first m l ≡ false → first n m ≡ false → first n l ≡ false
  pub apart : (m n : ℕ) → first m n ≡ false → first n m ≡ false → m ≡ n

less_ordering : Ordering ltb
less_ordering =
    record {
      never_both = λ m n e. le-ltb n m (let l : m < n = ltb-true m n e in omega (arith, l));
      through = λ l m n e f. le-ltb n l (let a : l ≤ m = ltb-false m l e in let b : m ≤ n = ltb-false n m f in omega (arith, a, b));
      apart = λ m n e f. let a : n ≤ m = ltb-false m n e in let b : m ≤ n = ltb-false n m f in omega (arith, a, b);
    }

-- Turned round it is such an order too.
turned_ordering : (first : ℕ → ℕ → Bool) → Ordering first → Ordering (λ m n. first n m)
turned_ordering first o =
    record {
      never_both = λ m n e. o.never_both n m e;
      through = λ l m n e f. o.through n m l f e;
      apart = λ m n e f. o.apart m n f e;
    }

-- Both rules are.
pub by_rule : (rule : ℕ) → Ordering (number_first rule)
unfolding number_first pick
by_rule rule = go (eqb rule 0)
  where
    go : (lowest : Bool) → Ordering (λ m n. pick lowest (ltb m n) (ltb n m))
    go true = less_ordering
    go false = turned_ordering ltb less_ordering

-- What they are.
pub lowest_first : (rule : ℕ) → rule ≡ 0 → (m n : ℕ) → number_first rule m n ≡ ltb m n
unfolding number_first pick
lowest_first rule e m n = rw (eq-eqb rule 0 e)

pub highest_first : (rule : ℕ) → (rule ≡ 0 → ⊥) → (m n : ℕ) → number_first rule m n ≡ ltb n m
unfolding number_first pick
highest_first rule e m n = rw (ne_eqb rule 0 e)

-- r goes no later than s: it contributes less, or as much and s does not go before it by its number.
pub data Leads (rule : ℕ) (r s : Row) : Type 0 where
  less : r.kept < s.kept → Leads rule r s
  ties : r.kept ≡ s.kept → number_first rule s.trial.number r.trial.number ≡ false → Leads rule r s

module _ (rule : ℕ) where
  pub leads_self : (r : Row) → Leads rule r r
  leads_self r = ties refl (go (number_first rule r.trial.number r.trial.number) refl)
    where
      go : (t : Bool) → number_first rule r.trial.number r.trial.number ≡ t → t ≡ false
      go true e = sym e ∙ (by_rule rule).never_both r.trial.number r.trial.number e
      go false e = refl

  pub leads_trans : (p q r : Row) → Leads rule p q → Leads rule q r → Leads rule p r
  leads_trans p q r (less x) (less y) = less (omega arith)
  leads_trans p q r (less x) (ties y m) = less (omega arith)
  leads_trans p q r (ties x l) (less y) = less (omega arith)
  leads_trans p q r (ties x l) (ties y m) = ties (x ∙ y) ((by_rule rule).through p.trial.number q.trial.number r.trial.number l m)

  -- Two that lead each other are alike in contribution and number.
  pub leads_both : (r s : Row) → Leads rule r s → Leads rule s r → (r.kept ≡ s.kept) × (r.trial.number ≡ s.trial.number)
  leads_both r s (less x) (less y) = absurd (let no' : ⊥ = omega arith in no')
  leads_both r s (less x) (ties y m) = absurd (let no' : ⊥ = omega arith in no')
  leads_both r s (ties x l) (less y) = absurd (let no' : ⊥ = omega arith in no')
  leads_both r s (ties x l) (ties y m) = (x, (by_rule rule).apart r.trial.number s.trial.number m l)

-- The one of two that goes leads both.
pub record Leader (rule : ℕ) (p r s : Row) : Type 0 where
  pub one : (p ≡ r) ⊎ (p ≡ s)
  pub first : Leads rule p r
  pub second : Leads rule p s

pub leader : (rule : ℕ) (r s : Row) → Leader rule (pick (goes_first rule s r) s r) r s
unfolding goes_first either both pick
leader rule r s =
    go (ltb s.kept r.kept) (eqb s.kept r.kept) (number_first rule s.trial.number r.trial.number)
    (compared (suc s.kept) r.kept) (equated s.kept r.kept) refl
  where
    go : (x y z : Bool) → Compared (suc s.kept) r.kept x → Equated s.kept r.kept y
        → number_first rule s.trial.number r.trial.number ≡ z → Leader rule (pick (either x (both y z)) s r) r s
    go true y z (below l) e m = record { one = inr refl; first = less l; second = leads_self rule s }
    go false true true (above l) (same e) m =
        record { one = inr refl; first = ties e ((by_rule rule).never_both s.trial.number r.trial.number m); second = leads_self rule s }
    go false true false (above l) (same e) m = record { one = inl refl; first = leads_self rule r; second = ties (sym e) m }
    go false false z (above l) (differs e) m =
        let apart : s.kept ≡ r.kept → ⊥ = e in
        record { one = inl refl; first = leads_self rule r; second = less (omega arith) }

-- The least of some records.
pub record LeastOf (rule : ℕ) (r : Row) (rows : List Row) : Type 0 where
  pub member : Memᴰ r rows
  pub leads : (s : Row) → Memᴰ s rows → Leads rule r s

pub least_alone : (rule : ℕ) (r : Row) → LeastOf rule r (r ∷ [])
least_alone rule r = record { member = Memᴰ.head refl; leads = λ s m. one s (Memᴰ.cases_cons m) }
  where
    one : (s : Row) → (s ≡ r) ⊎ Memᴰ s [] → Leads rule r s
    one s (inl e) = rw e (leads_self rule r)
    one s (inr m) = absurd (Memᴰ.not-nil m)

-- What is least after the first two have been settled between them is least of all.
pub least_settled : (rule : ℕ) (q p r s : Row) (rows : List Row) → Leader rule p r s → LeastOf rule q (p ∷ rows) → LeastOf rule q (r ∷ s ∷ rows)
least_settled rule q p r s rows l h =
    record { member = found (Memᴰ.cases_cons h.member); leads = λ u m. all u (Memᴰ.cases_cons m) }
  where
    either_of : q ≡ p → (p ≡ r) ⊎ (p ≡ s) → Memᴰ q (r ∷ s ∷ rows)
    either_of e (inl k) = Memᴰ.head (e ∙ k)
    either_of e (inr k) = Memᴰ.tail (Memᴰ.head (e ∙ k))

    found : (q ≡ p) ⊎ Memᴰ q rows → Memᴰ q (r ∷ s ∷ rows)
    found (inl e) = either_of e l.one
    found (inr m) = Memᴰ.tail (Memᴰ.tail m)

    to_p : Leads rule q p
    to_p = h.leads p (Memᴰ.head refl)

    later : (u : Row) → (u ≡ s) ⊎ Memᴰ u rows → Leads rule q u
    later u (inl e) = rw e (leads_trans rule q p s to_p l.second)
    later u (inr m) = h.leads u (Memᴰ.tail m)

    all : (u : Row) → (u ≡ r) ⊎ Memᴰ u (s ∷ rows) → Leads rule q u
    all u (inl e) = rw e (leads_trans rule q p r to_p l.first)
    all u (inr m) = later u (Memᴰ.cases_cons m)

pub least_from_is : (rule : ℕ) (r : Row) (rows : List Row) → LeastOf rule (least_from rule r rows) (r ∷ rows)
unfolding least_from
least_from_is rule r [] = least_alone rule r
least_from_is rule r (s ∷ rows) =
    least_settled rule _ (pick (goes_first rule s r) s r) r s rows (leader rule r s) (least_from_is rule (pick (goes_first rule s r) s r) rows)

pub least_row_is : (rule : ℕ) (rows : List Row) → 0 < length rows → LeastOf rule (least_row rule rows) rows
unfolding least_row
least_row_is rule [] l = absurd (let no' : ⊥ = omega arith in no')
least_row_is rule (r ∷ rows) l = least_from_is rule r rows

-- The rule leaves no choice, in whatever order the records stand.
pub least_one : (rule : ℕ) (r s : Row) (rows more : List Row) → ((q : Row) → Memᴰ q rows → Memᴰ q more)
    → ((q : Row) → Memᴰ q more → Memᴰ q rows) → LeastOf rule r rows → LeastOf rule s more
    → (r.kept ≡ s.kept) × (r.trial.number ≡ s.trial.number)
least_one rule r s rows more to back p q =
    leads_both rule r s (p.leads s (back s q.member)) (q.leads r (to r p.member))

-- Among distinct numbers a record is the record of its number.
pub row_of_member : (rows : List Row) → distinct (trials rows) ≡ true → (r : Row) → Memᴰ r rows → row_of r.trial.number rows ≡ r
unfolding distinct trials
row_of_member [] d r m = absurd (Memᴰ.not-nil m)
row_of_member (q ∷ rows) d r m =
    let parts = both_true _ _ d in
    go (not-true _ parts.0) (row_of_member rows parts.1 r) (Memᴰ.cases_cons m)
  where
    go : held q.trial.number (trials rows) ≡ false → (Memᴰ r rows → row_of r.trial.number rows ≡ r)
        → (r ≡ q) ⊎ Memᴰ r rows → row_of r.trial.number (q ∷ rows) ≡ r
    go once later (inl e) = row_of_here r.trial.number q rows (ap (λ p. p.trial.number) (sym e)) ∙ sym e
    go once later (inr k) =
        row_of_later r.trial.number q rows
        (λ e. not_held q.trial.number (trials rows) once r.trial (Memᴰ.map (λ p. p.trial) k) (sym e))
        ∙ later k
