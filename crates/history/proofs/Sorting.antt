-- The book's trials in the archive's order: sorting commutes with striking out.
use Prim.Native.Nat.{ℕ}
use mathlib.Core.Path.{◌≡◌, refl, sym, ap, ◌∙◌}
use mathlib.Core.Bool.{Bool, true, false}
use mathlib.Core.Logic.{◌⊎◌, inl, inr}
use mathlib.Core.List.Memᴰ
use mathlib.Core.List.{List, ◌∷◌, map, Memᴰ, []}
use lib.Dec.{eqb}
use borrow.Author.Tests.{eq-eqb, ne_eqb}
use Rattle.hypervolume.proofs.Tests.{Equated, same, differs, equated}
use Rattle.slices.proofs.Choices.{both_true}
use Rattle.words.specs.Archive.{Trial, Row, trials, before}
use Rattle.slices.specs.Choices.{pick}
use Rattle.words.specs.Format.{held, distinct}
use Rattle.calls.specs.Calls.{place, in_order, others}
use Rattle.calls.proofs.Members.{map-map, map_id}
use Rattle.calls.proofs.Order.{AscendingTrials, before_trans, others_trial}
use Rattle.calls.proofs.InOrder.{place_front, in_order_ascending}
use Rattle.words.proofs.Held.{eqb_sym}
use Rattle.history.specs.Book.{has, struck_out}
use Rattle.history.specs.History.{sorted}

-- What the book has is what an archive of its trials holds.
pub has_held : (n : ℕ) (ts : List Trial) → has n ts ≡ held n ts
unfolding has held
has_held n [] = refl
has_held n (t ∷ ts) = rw (eqb_sym n t.number, has_held n ts)

-- Striking out.
pub struck_trials : (n : ℕ) (rows : List Row) → trials (others n rows) ≡ struck_out n (trials rows)
unfolding trials others struck_out pick
struck_trials n [] = refl
struck_trials n (r ∷ rows) =
    rw (eqb_sym n r.trial.number) (go (eqb r.trial.number n) (struck_trials n rows))
  where
    go : (b : Bool) → trials (others n rows) ≡ struck_out n (trials rows)
        → trials (pick b (others n rows) (r ∷ others n rows)) ≡ pick b (struck_out n (trials rows)) (r.trial ∷ struck_out n (trials rows))
    go true e = e
    go false e = ap (λ l. r.trial ∷ l) e

struck_here : (n : ℕ) (t : Trial) (ts : List Trial) → n ≡ t.number → struck_out n (t ∷ ts) ≡ struck_out n ts
unfolding struck_out pick
struck_here n t ts e = rw (eq-eqb n t.number e)

struck_later : (n : ℕ) (t : Trial) (ts : List Trial) → (n ≡ t.number → ⊥) → struck_out n (t ∷ ts) ≡ t ∷ struck_out n ts
unfolding struck_out pick
struck_later n t ts e = rw (ne_eqb n t.number e)

struck_cons : (n : ℕ) (t : Trial) (ts us : List Trial) → struck_out n ts ≡ struck_out n us → struck_out n (t ∷ ts) ≡ struck_out n (t ∷ us)
unfolding struck_out
struck_cons n t ts us e = rw e

struck_member : (n : ℕ) (ts : List Trial) (t : Trial) → Memᴰ t (struck_out n ts) → Memᴰ t ts
unfolding trials
struck_member n ts t m =
    let same : trials (map bare ts) ≡ ts = map-map bare (λ r. r.trial) ts ∙ map_id ts in
    rw same at (others_trial n (map bare ts) t (rw (struck_trials n (map bare ts), same) m))
  where
    bare : Trial → Row
    bare u = record { trial = u; kept = 0 }

-- Striking out of a list in order, with one more trial in its place.
struck_placed : (n : ℕ) (t : Trial) (ts : List Trial) → n ≡ t.number → struck_out n (place (λ u. u) t ts) ≡ struck_out n ts
unfolding place pick
struck_placed n t [] e = struck_here n t [] e
struck_placed n t (u ∷ ts) e = go (before t u) (struck_placed n t ts e)
  where
    go : (b : Bool) → struck_out n (place (λ v. v) t ts) ≡ struck_out n ts
        → struck_out n (pick b (t ∷ u ∷ ts) (u ∷ place (λ v. v) t ts)) ≡ struck_out n (u ∷ ts)
    go true later = struck_here n t (u ∷ ts) e
    go false later = struck_cons n u (place (λ v. v) t ts) ts later

place_behind : (t u : Trial) (ts : List Trial) → before t u ≡ false → place (λ v. v) t (u ∷ ts) ≡ u ∷ place (λ v. v) t ts
unfolding place pick
place_behind t u ts e = rw e

struck_place : (n : ℕ) (t : Trial) (ts : List Trial) → (n ≡ t.number → ⊥) → AscendingTrials ts
    → struck_out n (place (λ u. u) t ts) ≡ place (λ u. u) t (struck_out n ts)
unfolding AscendingTrials
struck_place n t [] e h = unfold place struck_out pick in rw (ne_eqb n t.number e)
struck_place n t (u ∷ ts) e h = go (before t u) refl (struck_place n t ts e h.1)
  where
    all : before t u ≡ true → (v : Trial) → (v ≡ u) ⊎ Memᴰ v ts → before t v ≡ true
    all b v (inl k) = rw k b
    all b v (inr m) = before_trans t u v b (h.0 v m)

    behind : before t u ≡ false → struck_out n (place (λ v. v) t ts) ≡ place (λ v. v) t (struck_out n ts) → (x : Bool)
        → Equated n u.number x → struck_out n (u ∷ place (λ v. v) t ts) ≡ place (λ v. v) t (struck_out n (u ∷ ts))
    behind b later true (same k) = rw (struck_here n u (place (λ v. v) t ts) k, struck_here n u ts k) later
    behind b later false (differs k) =
        rw (struck_later n u (place (λ v. v) t ts) k, struck_later n u ts k, place_behind t u (struck_out n ts) b, later)

    go : (b : Bool) → before t u ≡ b → struck_out n (place (λ v. v) t ts) ≡ place (λ v. v) t (struck_out n ts)
        → struck_out n (place (λ v. v) t (u ∷ ts)) ≡ place (λ v. v) t (struck_out n (u ∷ ts))
    go true b later =
        let first : (v : Trial) → Memᴰ v (u ∷ ts) → before t v ≡ true = λ v m. all b v (Memᴰ.cases_cons m) in
        ap (struck_out n) (place_front (λ v. v) t (u ∷ ts) first)
        ∙ struck_later n t (u ∷ ts) e
        ∙ sym (place_front (λ v. v) t (struck_out n (u ∷ ts)) (λ v m. first v (struck_member n (u ∷ ts) v m)))
    go false b later =
        ap (struck_out n) (place_behind t u ts b) ∙ behind b later (eqb n u.number) (equated n u.number)

pub sorted_struck : (n : ℕ) (ts : List Trial) → distinct ts ≡ true → sorted (struck_out n ts) ≡ struck_out n (sorted ts)
unfolding in_order distinct
sorted_struck n [] d = unfold struck_out in refl
sorted_struck n (t ∷ ts) d =
    let parts = both_true _ _ d in
    go (eqb n t.number) (equated n t.number) (sorted_struck n ts parts.1)
  where
    go : (b : Bool) → Equated n t.number b → sorted (struck_out n ts) ≡ struck_out n (sorted ts)
        → sorted (struck_out n (t ∷ ts)) ≡ struck_out n (sorted (t ∷ ts))
    go true (same e) later = ap sorted (struck_here n t ts e) ∙ later ∙ sym (struck_placed n t (sorted ts) e)
    go false (differs e) later =
        ap sorted (struck_later n t ts e) ∙ ap (place (λ u. u) t) later
        ∙ sym (struck_place n t (sorted ts) e (in_order_ascending ts (both_true _ _ d).1))
