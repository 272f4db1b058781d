-- Lists of records and of trials: maps and tests by members, the record in its place, the record of a number and the
-- others.
use Prim.Native.Nat.{ℕ, suc}
use mathlib.Core.Path.{◌≡◌, refl, sym, ap, ◌∙◌}
use mathlib.Core.Bool.{Bool, true, false, true≢false}
use mathlib.Core.Logic.{◌⊎◌, inl, inr}
use mathlib.Core.List.Memᴰ
use mathlib.Core.List.{List, ◌∷◌, map, Memᴰ, []}
use native.Mathlib.Omega.{arith}
use lib.Dec.{eqb}
use lib.ListN.{length}
use borrow.Author.Tests.{eq-eqb, ne_eqb, eqb-false, not-true}
use Rattle.hypervolume.specs.Counts.{cover}
use Rattle.hypervolume.proofs.Tests.{Equated, same, differs, equated}
use Rattle.slices.proofs.Choices.{both_true, either_false}
use Rattle.hypervolume.proofs.Counting.{SameCover}
use Rattle.words.specs.Archive.{Trial, Row, trials, points, before}
use Rattle.slices.specs.Choices.{pick, either}
use Rattle.words.specs.Format.{held, distinct}
use Rattle.calls.specs.Calls.{place, row_of, others}

-- Two functions that agree on the members of a list.
pub map_on : {A B : Type 0} (f g : A → B) (l : List A) → ((a : A) → Memᴰ a l → f a ≡ g a) → map f l ≡ map g l
map_on f g [] h = refl
map_on f g (a ∷ l) h =
    rw (h a (Memᴰ.head refl), map_on f g l (λ b m. h b (Memᴰ.tail m)))

pub map-map : {A B C : Type 0} (f : A → B) (g : B → C) (l : List A) → map g (map f l) ≡ map (λ a. g (f a)) l
map-map f g [] = refl
map-map f g (a ∷ l) = ap (λ m. g (f a) ∷ m) (map-map f g l)

pub map_id : {A : Type 0} (l : List A) → map (λ a. a) l ≡ l
map_id [] = refl
map_id (a ∷ l) = ap (λ m. a ∷ m) (map_id l)

pub map_members : {A B : Type 0} (f : A → B) (l m : List A) → ((a : A) → Memᴰ a l → Memᴰ a m) → (b : B)
    → Memᴰ b (map f l) → Memᴰ b (map f m)
map_members f l m h b k =
    let from = Memᴰ.of_map f l k in
    Memᴰ.cast (sym from.2) (Memᴰ.map f (h from.0 from.1))

-- A test of a list that goes through its members one by one, and what it tells of each.
module _ {A : Type 0} (test : List A → Bool) (good : Bool) (P : A → Type 0) where
  pub tested_each : ((a : A) (l : List A) → test (a ∷ l) ≡ good → P a × (test l ≡ good)) → (l : List A)
      → test l ≡ good → (a : A) → Memᴰ a l → P a
  tested_each h [] e a m = absurd (Memᴰ.not-nil m)
  tested_each h (b ∷ l) e a m =
      let parts = h b l e in
      go parts.0 (tested_each h l parts.1 a) (Memᴰ.cases_cons m)
    where
      go : P b → (Memᴰ a l → P a) → (a ≡ b) ⊎ Memᴰ a l → P a
      go here later (inl q) = rw q here
      go here later (inr n) = later n

  pub each_tested : test [] ≡ good → ((a : A) (l : List A) → P a → test l ≡ good → test (a ∷ l) ≡ good) → (l : List A)
      → ((a : A) → Memᴰ a l → P a) → test l ≡ good
  each_tested z h [] p = z
  each_tested z h (a ∷ l) p =
      h a l (p a (Memᴰ.head refl)) (each_tested z h l (λ b m. p b (Memᴰ.tail m)))

-- A change of records that leaves the trials.
pub trials_map : (f : Row → Row) (rows : List Row) → ((r : Row) → (f r).trial ≡ r.trial) → trials (map f rows) ≡ trials rows
unfolding trials
trials_map f rows h = map-map f (λ r. r.trial) rows ∙ map_on _ _ rows (λ r m. h r)

-- The record in its place: it is there, the others are there, and nothing else.
module _ {A : Type 0} (trial : A → Trial) where
  pub place_length : (a : A) (l : List A) → length (place trial a l) ≡ suc (length l)
  unfolding place pick
  place_length a [] = refl
  place_length a (b ∷ l) = go (before (trial a) (trial b)) (place_length a l)
    where
      go : (t : Bool) → length (place trial a l) ≡ suc (length l) → length (pick t (a ∷ b ∷ l) (b ∷ place trial a l)) ≡ suc (suc (length l))
      go true e = refl
      go false e = ap suc e

  pub place_map : {B : Type 0} (f : A → B) (trial' : B → Trial) → ((a : A) → trial' (f a) ≡ trial a)
      → (a : A) (l : List A) → map f (place trial a l) ≡ place trial' (f a) (map f l)
  unfolding place pick
  place_map f trial' h a [] = refl
  place_map f trial' h a (b ∷ l) =
      rw (h a, h b) (go (before (trial a) (trial b)) (place_map f trial' h a l))
    where
      go : (t : Bool) → map f (place trial a l) ≡ place trial' (f a) (map f l)
          → map f (pick t (a ∷ b ∷ l) (b ∷ place trial a l)) ≡ pick t (f a ∷ f b ∷ map f l) (f b ∷ place trial' (f a) (map f l))
      go true e = refl
      go false e = ap (λ m. f b ∷ m) e

  pub place_member : (b a : A) (l : List A) → Memᴰ b (place trial a l) → Memᴰ b (a ∷ l)
  unfolding place pick
  place_member b a [] m = m
  place_member b a (x ∷ l) m = go (before (trial a) (trial x)) (place_member b a l) m
    where
      turn : (b ≡ a) ⊎ Memᴰ b l → Memᴰ b (a ∷ x ∷ l)
      turn (inl e) = Memᴰ.head e
      turn (inr n) = Memᴰ.tail (Memᴰ.tail n)

      later : (Memᴰ b (place trial a l) → Memᴰ b (a ∷ l)) → (b ≡ x) ⊎ Memᴰ b (place trial a l) → Memᴰ b (a ∷ x ∷ l)
      later ih (inl e) = Memᴰ.tail (Memᴰ.head e)
      later ih (inr n) = turn (Memᴰ.cases_cons (ih n))

      go : (t : Bool) → (Memᴰ b (place trial a l) → Memᴰ b (a ∷ l))
          → Memᴰ b (pick t (a ∷ x ∷ l) (x ∷ place trial a l)) → Memᴰ b (a ∷ x ∷ l)
      go true ih n = n
      go false ih n = later ih (Memᴰ.cases_cons n)

  pub member_place : (b a : A) (l : List A) → Memᴰ b (a ∷ l) → Memᴰ b (place trial a l)
  unfolding place pick
  member_place b a [] m = m
  member_place b a (x ∷ l) m = go (before (trial a) (trial x)) (member_place b a l) m
    where
      inner : (Memᴰ b (a ∷ l) → Memᴰ b (place trial a l)) → (b ≡ x) ⊎ Memᴰ b l → Memᴰ b (x ∷ place trial a l)
      inner ih (inl e) = Memᴰ.head e
      inner ih (inr n) = Memᴰ.tail (ih (Memᴰ.tail n))

      later : (Memᴰ b (a ∷ l) → Memᴰ b (place trial a l)) → (b ≡ a) ⊎ Memᴰ b (x ∷ l) → Memᴰ b (x ∷ place trial a l)
      later ih (inl e) = Memᴰ.tail (ih (Memᴰ.head e))
      later ih (inr n) = inner ih (Memᴰ.cases_cons n)

      go : (t : Bool) → (Memᴰ b (a ∷ l) → Memᴰ b (place trial a l)) → Memᴰ b (a ∷ x ∷ l)
          → Memᴰ b (pick t (a ∷ x ∷ l) (x ∷ place trial a l))
      go true ih n = n
      go false ih n = later ih (Memᴰ.cases_cons n)

-- How often a cell is dominated does not depend on the place.
pub place_cover : (t : Trial) (ts : List Trial) (c : List ℕ) → cover (points (place (λ u. u) t ts)) c ≡ cover (points (t ∷ ts)) c
unfolding place pick points cover
place_cover t [] c = refl
place_cover t (u ∷ ts) c = go (before t u) (place_cover t ts c)
  where
    go : (b : Bool) → cover (points (place (λ v. v) t ts)) c ≡ cover (points (t ∷ ts)) c
        → cover (points (pick b (t ∷ u ∷ ts) (u ∷ place (λ v. v) t ts))) c ≡ cover (points (t ∷ u ∷ ts)) c
    go true e = refl
    go false e = omega arith

-- The record of a number and the others, at the front.
pub row_of_here : (n : ℕ) (r : Row) (rows : List Row) → r.trial.number ≡ n → row_of n (r ∷ rows) ≡ r
unfolding row_of pick
row_of_here n r rows e = rw (eq-eqb r.trial.number n e)

pub row_of_later : (n : ℕ) (r : Row) (rows : List Row) → (r.trial.number ≡ n → ⊥) → row_of n (r ∷ rows) ≡ row_of n rows
unfolding row_of pick
row_of_later n r rows e = rw (ne_eqb r.trial.number n e)

-- A number that is not held has the record of zeros.
pub row_of_none : (n : ℕ) (rows : List Row) → held n (trials rows) ≡ false → row_of n rows ≡ row_of 0 []
unfolding held trials
row_of_none n [] h = unfold row_of in refl
row_of_none n (r ∷ rows) h =
    let parts = either_false _ _ h in
    row_of_later n r rows (eqb-false _ _ parts.0) ∙ row_of_none n rows parts.1

pub others_here : (n : ℕ) (r : Row) (rows : List Row) → r.trial.number ≡ n → others n (r ∷ rows) ≡ others n rows
unfolding others pick
others_here n r rows e = rw (eq-eqb r.trial.number n e)

pub others_later : (n : ℕ) (r : Row) (rows : List Row) → (r.trial.number ≡ n → ⊥) → others n (r ∷ rows) ≡ r ∷ others n rows
unfolding others pick
others_later n r rows e = rw (ne_eqb r.trial.number n e)

-- A number that is not held: nothing to leave out.
pub others_none : (n : ℕ) (rows : List Row) → held n (trials rows) ≡ false → others n rows ≡ rows
unfolding others held trials pick either
others_none n [] h = refl
others_none n (r ∷ rows) h = go (eqb r.trial.number n) (others_none n rows) h
  where
    go : (t : Bool) → (held n (trials rows) ≡ false → others n rows ≡ rows) → either t (held n (trials rows)) ≡ false
        → pick t (others n rows) (r ∷ others n rows) ≡ r ∷ rows
    go true ih e = absurd (true≢false e)
    go false ih e = ap (λ l. r ∷ l) (ih e)

pub others_member : (n : ℕ) (rows : List Row) (r : Row) → Memᴰ r (others n rows) → Memᴰ r rows
unfolding others pick
others_member n [] r m = m
others_member n (q ∷ rows) r m = go (eqb q.trial.number n) (others_member n rows r) m
  where
    later : (Memᴰ r (others n rows) → Memᴰ r rows) → (r ≡ q) ⊎ Memᴰ r (others n rows) → Memᴰ r (q ∷ rows)
    later ih (inl e) = Memᴰ.head e
    later ih (inr k) = Memᴰ.tail (ih k)

    go : (t : Bool) → (Memᴰ r (others n rows) → Memᴰ r rows)
        → Memᴰ r (pick t (others n rows) (q ∷ others n rows)) → Memᴰ r (q ∷ rows)
    go true ih k = Memᴰ.tail (ih k)
    go false ih k = later ih (Memᴰ.cases_cons k)

pub member_others : (n : ℕ) (rows : List Row) (r : Row) → (r.trial.number ≡ n → ⊥) → Memᴰ r rows → Memᴰ r (others n rows)
unfolding others pick
member_others n [] r d m = m
member_others n (q ∷ rows) r d m =
    go (eqb q.trial.number n) (equated q.trial.number n) (member_others n rows r d) (Memᴰ.cases_cons m)
  where
    go : (t : Bool) → Equated q.trial.number n t → (Memᴰ r rows → Memᴰ r (others n rows))
        → (r ≡ q) ⊎ Memᴰ r rows → Memᴰ r (pick t (others n rows) (q ∷ others n rows))
    go true (same e) ih (inl k) = absurd (d (ap (λ p. p.trial.number) k ∙ e))
    go true (same e) ih (inr k) = ih k
    go false e ih (inl k) = Memᴰ.head k
    go false e ih (inr k) = Memᴰ.tail (ih k)

-- A held number among distinct ones: its record and the others are all the records.
pub record Split (n : ℕ) (rows : List Row) : Type 0 where
  pub number : (row_of n rows).trial.number ≡ n
  pub member : Memᴰ (row_of n rows) rows
  pub count : length rows ≡ suc (length (others n rows))
  pub covers : SameCover (points (trials rows)) (points ((row_of n rows).trial ∷ trials (others n rows)))

pub split : (n : ℕ) (rows : List Row) → held n (trials rows) ≡ true → distinct (trials rows) ≡ true → Split n rows
unfolding held distinct trials points either cover SameCover
split n [] h d = absurd (true≢false (sym h))
split n (r ∷ rows) h d =
    go (eqb r.trial.number n) (equated r.trial.number n)
    (λ k. split n rows k (both_true _ _ d).1) h
  where
    go : (t : Bool) → Equated r.trial.number n t → (held n (trials rows) ≡ true → Split n rows)
        → either t (held n (trials rows)) ≡ true → Split n (r ∷ rows)
    go true (same e) ih k =
        let here = row_of_here n r rows e in
        let once : held r.trial.number (trials rows) ≡ false = not-true _ (both_true _ _ d).0 in
        let rest : others n (r ∷ rows) ≡ rows = others_here n r rows e ∙ others_none n rows (rw e at once) in
        record {
          number = rw here e;
          member = rw here (Memᴰ.head refl);
          count = rw rest;
          covers = rw (here, rest) (λ c. refl);
        }
    go false (differs e) ih k =
        let later = row_of_later n r rows e in
        let rest = others_later n r rows e in
        let whole = ih k in
        record {
          number = rw later whole.number;
          member = rw later (Memᴰ.tail whole.member);
          count = rw rest (ap suc whole.count);
          covers = rw (later, rest) (λ c. let more = whole.covers c in omega arith);
        }
