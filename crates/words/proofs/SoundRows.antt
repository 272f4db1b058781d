-- Laws of the tests of row 3 on lists: one list behind the other, one trial more at the end, a first part.
use Prim.Native.Nat.{ℕ}
use mathlib.Core.Path.{◌≡◌, refl, sym, ap, ap₂, ◌∙◌}
use mathlib.Core.Bool.{Bool, true, false, not}
use mathlib.Core.List.{List, ◌∷◌, ◌++◌, []}
use lib.Dec.{eqb}
use Rattle.slices.specs.Choices.{both, either}
use Rattle.slices.proofs.Choices.{both_true, both_intro, both_comm, both_assoc}
use Rattle.words.specs.Archive.{Trial, Row, Shape, trials, ascends, key, before}
use Rattle.words.specs.Format.{row_allowed, rows_allowed, ordered, held, distinct, sound_rows}
use Rattle.words.proofs.Held.{eqb_sym, held_append, held_snoc}

-- The order of two trials, by their keys.
pub before_keys : (t u : Trial) {a b : List ℕ} {r : Bool} → a ≡ key t → b ≡ key u → r ≡ ascends a b → r ≡ before t u
unfolding before
before_keys t u e f g = g ∙ ap₂ ascends e f

pub trials_append : (a b : List Row) → trials (a ++ b) ≡ trials a ++ trials b
unfolding trials
trials_append [] b = refl
trials_append (r ∷ a) b = ap (λ l. r.trial ∷ l) (trials_append a b)

pub rows_allowed_append : (s : Shape) (a b : List Row) → rows_allowed s (a ++ b) ≡ both (rows_allowed s a) (rows_allowed s b)
unfolding rows_allowed both
rows_allowed_append s [] b = refl
rows_allowed_append s (r ∷ a) b =
    rw (rows_allowed_append s a b) (sym (both_assoc (row_allowed s r) (rows_allowed s a) (rows_allowed s b)))

-- No number twice, with one trial more at the end: no earlier trial has its number.
pub distinct_snoc : (a : List Trial) (t : Trial) → distinct (a ++ (t ∷ [])) ≡ both (distinct a) (not (held t.number a))
unfolding distinct held both either
distinct_snoc [] t = refl
distinct_snoc (u ∷ a) t =
    rw (distinct_snoc a t, held_snoc u.number a t, eqb_sym t.number u.number)
    (shuffle (held u.number a) (eqb u.number t.number) (distinct a) (held t.number a))
  where
    shuffle : (p q d h : Bool) → both (not (either p q)) (both d (not h)) ≡ both (both (not p) d) (not (either q h))
    shuffle true q d h = refl
    shuffle false true true h = refl
    shuffle false true false h = refl
    shuffle false false d h = refl

pub ordered_snoc : (a : List Trial) (t u : Trial) → ordered (a ++ (t ∷ (u ∷ []))) ≡ both (ordered (a ++ (t ∷ []))) (before t u)
unfolding ordered
ordered_snoc [] t u = both_comm (before t u) true
ordered_snoc (v ∷ []) t u = rw (ordered_snoc [] t u) (sym (both_assoc (before v t) true (before t u)))
ordered_snoc (v ∷ (w ∷ a)) t u =
    rw (ordered_snoc (w ∷ a) t u) (sym (both_assoc (before v w) (ordered (w ∷ a ++ (t ∷ []))) (before t u)))

-- A first part passes where the whole does.
pub rows_allowed_part : (s : Shape) (a b : List Row) → rows_allowed s (a ++ b) ≡ true → rows_allowed s a ≡ true
rows_allowed_part s a b e = (both_true _ _ (sym (rows_allowed_append s a b) ∙ e)).0

pub ordered_part : (a b : List Trial) → ordered (a ++ b) ≡ true → ordered a ≡ true
unfolding ordered
ordered_part [] b e = refl
ordered_part (t ∷ []) b e = refl
ordered_part (t ∷ (u ∷ a)) b e =
    let parts = both_true _ _ e in
    both_intro _ _ parts.0 (ordered_part (u ∷ a) b parts.1)

pub distinct_part : (a b : List Trial) → distinct (a ++ b) ≡ true → distinct a ≡ true
unfolding distinct either
distinct_part [] b e = refl
distinct_part (t ∷ a) b e =
    let parts = both_true _ _ e in
    both_intro _ _ (fewer (held t.number a) (held t.number b) (sym (ap not (held_append t.number a b)) ∙ parts.0))
    (distinct_part a b parts.1)
  where
    fewer : (p q : Bool) → not (either p q) ≡ true → not p ≡ true
    fewer true q e = e
    fewer false q e = refl

-- Records of which a first part breaks row 3.
sound_rows_front : (s : Shape) (a b : List Row) → sound_rows s (a ++ b) ≡ true → sound_rows s a ≡ true
unfolding sound_rows
sound_rows_front s a b e =
    let rows = both_true _ _ e in
    let rest = both_true _ _ rows.1 in
    both_intro _ _ (rows_allowed_part s a b rows.0)
    (both_intro _ _
    (ordered_part (trials a) (trials b) (ap ordered (sym (trials_append a b)) ∙ rest.0))
    (distinct_part (trials a) (trials b) (ap distinct (sym (trials_append a b)) ∙ rest.1)))

pub sound_rows_part : (s : Shape) (a b : List Row) → sound_rows s a ≡ false → sound_rows s (a ++ b) ≡ false
sound_rows_part s a b f = go (sound_rows s (a ++ b)) refl
  where
    go : (t : Bool) → sound_rows s (a ++ b) ≡ t → t ≡ false
    go true e = sym (sound_rows_front s a b e) ∙ f
    go false e = refl
