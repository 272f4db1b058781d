-- Of two equal trials among these each contributes 0: their point stands twice among the points.
use Prim.Native.Nat.{ℕ}
use mathlib.Core.Path.{◌≡◌, sym, ap, ◌∙◌}
use mathlib.Core.Logic.{◌⊎◌, inl, inr}
use mathlib.Core.List.Memᴰ
use mathlib.Core.List.{List, ◌∷◌, ◌++◌, Memᴰ, []}
use Rattle.hypervolume.specs.Counts.{contribution}
use Rattle.hypervolume.proofs.Counting.{equal_trials_contribute_0}
use Rattle.words.specs.Archive.{Trial, point, points}

record Once (p : List ℕ) (l : List (List ℕ)) : Type 0 where
  front : List (List ℕ)
  more : List (List ℕ)
  parts : l ≡ front ++ (p ∷ more)

once : (p : List ℕ) (l : List (List ℕ)) → Memᴰ p l → Once p l
once p [] m = absurd (Memᴰ.not-nil m)
once p (q ∷ l) m = go (once p l) (Memᴰ.cases_cons m)
  where
    go : (Memᴰ p l → Once p l) → (p ≡ q) ⊎ Memᴰ p l → Once p (q ∷ l)
    go later (inl e) = record { front = []; more = l; parts = ap (λ x. x ∷ l) (sym e) }
    go later (inr n) =
        let o = later n in
        record { front = q ∷ o.front; more = o.more; parts = ap (λ k. q ∷ k) o.parts }

record Twice (p : List ℕ) (l : List (List ℕ)) : Type 0 where
  front : List (List ℕ)
  back : List (List ℕ)
  more : List (List ℕ)
  parts : l ≡ front ++ (p ∷ (back ++ (p ∷ more)))

-- One of them in front, the other later.
here_and_later : (p q : List ℕ) (l : List (List ℕ)) → q ≡ p → Memᴰ p l → Twice p (q ∷ l)
here_and_later p q l e m =
    let o = once p l m in
    record { front = []; back = o.front; more = o.more; parts = rw (e, ← o.parts) }

twice : (t u : Trial) (ts : List Trial) → Memᴰ t ts → Memᴰ u ts → (t.number ≡ u.number → ⊥) → point t ≡ point u
    → Twice (point t) (points ts)
unfolding points
twice t u [] m n d e = absurd (Memᴰ.not-nil m)
twice t u (x ∷ ts) m n d e = go (λ k j. twice t u ts k j d e) (Memᴰ.cases_cons m) (Memᴰ.cases_cons n)
  where
    go : (Memᴰ t ts → Memᴰ u ts → Twice (point t) (points ts)) → (t ≡ x) ⊎ Memᴰ t ts → (u ≡ x) ⊎ Memᴰ u ts
        → Twice (point t) (points (x ∷ ts))
    go later (inl p) (inl q) = absurd (d (ap (λ a. a.number) (p ∙ sym q)))
    go later (inl p) (inr k) =
        here_and_later (point t) (point x) (points ts) (ap point (sym p)) (rw e (Memᴰ.map point k))
    go later (inr k) (inl q) = here_and_later (point t) (point x) (points ts) (ap point (sym q) ∙ sym e) (Memᴰ.map point k)
    go later (inr k) (inr j) =
        let both = later k j in
        record { front = point x ∷ both.front; back = both.back; more = both.more; parts = ap (λ l. point x ∷ l) both.parts }

pub equal_contribute_0 : (r : List ℕ) (t u : Trial) (ts : List Trial) → Memᴰ t ts → Memᴰ u ts
    → (t.number ≡ u.number → ⊥) → point t ≡ point u → contribution r (points ts) (point t) ≡ 0
equal_contribute_0 r t u ts m n d e =
    let two = twice t u ts m n d e in
    ap (λ l. contribution r l (point t)) two.parts
    ∙ equal_trials_contribute_0 r two.front two.back two.more (point t)
