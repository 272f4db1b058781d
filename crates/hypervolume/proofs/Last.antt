-- The last axis, for any number of axes: a sum over cells layer by layer along it; law 7 on it; and that the axes behind
-- those of the reference are not seen.
use Prim.Native.Nat.{ℕ, zero, suc, ◌-◌, ◌*◌, ◌≤◌, ◌<◌, zero-le}
use mathlib.Core.Path.{◌≡◌, refl, ap, ◌∙◌, fun_ext}
use mathlib.Core.Bool.{Bool, true, false}
use mathlib.Core.List.{List, ◌∷◌, ◌++◌, map, []}
use native.Mathlib.Nat.{le_trans}
use native.Mathlib.Omega.{arith}
use lib.Dec.{leb}
use lib.ListN.{length, take, get_or}
use borrow.Author.Tests.{le-leb, lt-leb}
use Rattle.slices.specs.Choices.{both}
use Rattle.slices.proofs.Choices.{both_comm}
use Rattle.hypervolume.specs.Cells.{holds, dominates, sum, cells, count}
use Rattle.hypervolume.specs.Counts.{cover, gain, joint}
use Rattle.hypervolume.proofs.Sums.{sum_ext, sum_swap, sum_cut, cells_none}

-- On the last axis of a cell a point is compared like on any other.
pub dominates_last : (p c : List ℕ) (z : ℕ) → dominates p (c ++ (z ∷ [])) ≡ both (dominates p c) (leb (get_or p (length c) 0) z)
unfolding dominates both
dominates_last [] c z = rw (le-leb 0 z zero-le)
dominates_last (x ∷ []) [] z = both_comm (leb x z) true
dominates_last (x ∷ y ∷ p) [] z = both_comm (leb x z) true
dominates_last (x ∷ p) (i ∷ c) z = go (leb x i) (dominates_last p c z)
  where
    go : (b : Bool) → dominates p (c ++ (z ∷ [])) ≡ both (dominates p c) (leb (get_or p (length c) 0) z) → both b (dominates p (c ++ (z ∷ []))) ≡ both (both b (dominates p c)) (leb (get_or p (length c) 0) z)
    go true e = e
    go false e = refl

-- A sum over cells, layer by layer along the last axis.
pub cells_last : (rs : List ℕ) (r : ℕ) (f : List ℕ → ℕ) → cells (rs ++ (r ∷ [])) f ≡ sum r (λ z. cells rs (λ c. f (c ++ (z ∷ []))))
unfolding cells
cells_last [] r f = refl
cells_last (a ∷ rs) r f =
    ap (sum a) (fun_ext (λ i. cells_last rs r (λ c. f (i ∷ c))))
    ∙ sum_swap a r (λ i z. cells rs (λ c. f (i ∷ (c ++ (z ∷ [])))))

-- Two sums over cells that agree on the cells of so many axes.
pub cells_alike : (rs : List ℕ) (f g : List ℕ → ℕ) → ((c : List ℕ) → length c ≡ length rs → f c ≡ g c) → cells rs f ≡ cells rs g
unfolding cells
cells_alike [] f g h = h [] refl
cells_alike (r ∷ rs) f g h =
    sum_ext r (λ i. cells rs (λ c. f (i ∷ c))) (λ i. cells rs (λ c. g (i ∷ c)))
    (λ i l. cells_alike rs (λ c. f (i ∷ c)) (λ c. g (i ∷ c)) (λ c e. h (i ∷ c) (ap suc e)))

-- Nothing in the layers before z, and from z on the same in each.
pub layered_last : (rs : List ℕ) (r z : ℕ) (f g : List ℕ → ℕ) → ((c : List ℕ) (i : ℕ) → length c ≡ length rs → i < z → f (c ++ (i ∷ [])) ≡ 0) → ((c : List ℕ) (i : ℕ) → length c ≡ length rs → z ≤ i → f (c ++ (i ∷ [])) ≡ g c) → cells (rs ++ (r ∷ [])) f ≡ (r - z) * cells rs g
layered_last rs r z f g low high =
    cells_last rs r f
    ∙ sum_cut r z (cells rs g) (λ i. cells rs (λ c. f (c ++ (i ∷ []))))
    (λ i l. cells_alike rs (λ c. f (c ++ (i ∷ []))) (λ c. 0) (λ c e. low c i e l) ∙ cells_none rs)
    (λ i l. cells_alike rs (λ c. f (c ++ (i ∷ []))) g (λ c e. high c i e l))

-- Law 7, on the last axis: among points that are at most p there, each count of p is the edge on that axis times the
-- count below the reference without it. The points stay as they are: the shorter reference does not see their last axis.

-- Every point is at most z on the axis.
abbrev pub Under : (axis z : ℕ) → List (List ℕ) → Type 0
Under axis z trials = (j : ℕ) → j < length trials → get_or (get_or trials j []) axis 0 ≤ z

-- From its own coordinate on, a point dominates what it dominates on the other axes; before it, nothing.
module _ (axis : ℕ) (c : List ℕ) (i : ℕ) (e : length c ≡ axis) where
  pub dominates_from : (p : List ℕ) → get_or p axis 0 ≤ i → dominates p (c ++ (i ∷ [])) ≡ dominates p c
  unfolding both
  dominates_from p l = rw (dominates_last p c i, e, le-leb (get_or p axis 0) i l) (both_comm (dominates p c) true)

  pub dominates_before : (p : List ℕ) → i < get_or p axis 0 → dominates p (c ++ (i ∷ [])) ≡ false
  unfolding both
  dominates_before p l = rw (dominates_last p c i, e, lt-leb (get_or p axis 0) i l) (both_comm (dominates p c) false)

  pub cover_from : (z : ℕ) → z ≤ i → (trials : List (List ℕ)) → Under axis z trials → cover trials (c ++ (i ∷ [])) ≡ cover trials c
  unfolding cover
  cover_from z l [] h = refl
  cover_from z l (t ∷ trials) h =
      rw (dominates_from t (le_trans (h 0 (omega arith)) l), cover_from z l trials (λ j m. h (suc j) (omega arith)))

pub gain_last : (rs : List ℕ) (r : ℕ) (trials : List (List ℕ)) (p : List ℕ) → Under (length rs) (get_or p (length rs) 0) trials → gain (rs ++ (r ∷ [])) trials p ≡ (r - get_or p (length rs) 0) * gain rs trials p
unfolding gain count both holds
gain_last rs r trials p h =
    layered_last rs r (get_or p (length rs) 0) _ _
    (λ c i e l. rw (dominates_before (length rs) c i e p l))
    (λ c i e l. rw (dominates_from (length rs) c i e p l, cover_from (length rs) c i e (get_or p (length rs) 0) l trials h))

pub joint_last : (rs : List ℕ) (r : ℕ) (trials : List (List ℕ)) (p t : List ℕ) → Under (length rs) (get_or p (length rs) 0) trials → get_or t (length rs) 0 ≤ get_or p (length rs) 0 → joint (rs ++ (r ∷ [])) (p ∷ trials) p t ≡ (r - get_or p (length rs) 0) * joint rs (p ∷ trials) p t
unfolding joint count both holds cover
joint_last rs r trials p t h ht =
    layered_last rs r (get_or p (length rs) 0) _ _
    (λ c i e l. rw (dominates_before (length rs) c i e p l))
    (λ c i e l. rw (dominates_from (length rs) c i e p l, dominates_from (length rs) c i e t (le_trans ht l), cover_from (length rs) c i e (get_or p (length rs) 0) l trials h))

-- Axes behind those of the reference are not seen.
pub dominates_seen : (k : ℕ) (p c : List ℕ) → length c ≤ k → dominates (take k p) c ≡ dominates p c
unfolding dominates
dominates_seen zero [] [] l = refl
dominates_seen zero (x ∷ p) [] l = refl
dominates_seen zero p (i ∷ c) l = absurd (let no' : ⊥ = omega arith in no')
dominates_seen (suc k) [] c l = refl
dominates_seen (suc k) (x ∷ p) [] l = refl
dominates_seen (suc k) (x ∷ p) (i ∷ c) l = ap (both (leb x i)) (dominates_seen k p c (omega arith))

pub cover_seen : (k : ℕ) (trials : List (List ℕ)) (c : List ℕ) → length c ≤ k → cover (map (take k) trials) c ≡ cover trials c
unfolding cover
cover_seen k [] c l = refl
cover_seen k (t ∷ trials) c l = rw (dominates_seen k t c l, cover_seen k trials c l)

pub gain_seen : (rs : List ℕ) (trials : List (List ℕ)) (p : List ℕ) → gain rs (map (take (length rs)) trials) (take (length rs) p) ≡ gain rs trials p
unfolding gain count
gain_seen rs trials p =
    cells_alike rs _ _ (λ c e. rw (dominates_seen (length rs) p c (omega arith), cover_seen (length rs) trials c (omega arith)))

pub joint_seen : (rs : List ℕ) (trials : List (List ℕ)) (p t : List ℕ) → joint rs (map (take (length rs)) trials) (take (length rs) p) (take (length rs) t) ≡ joint rs trials p t
unfolding joint count
joint_seen rs trials p t =
    cells_alike rs _ _
    (λ c e. rw (dominates_seen (length rs) p c (omega arith), dominates_seen (length rs) t c (omega arith), cover_seen (length rs) trials c (omega arith)))
