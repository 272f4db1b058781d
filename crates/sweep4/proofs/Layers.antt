-- One more point among points that are at most it on the last axis, for any number of axes: the counts with it, by those on the
-- other axes. And a box of four small edges fits a word.
use Prim.Native.Nat.{ℕ, suc, zero, ◌+◌, ◌-◌, ◌*◌, ◌^◌, ◌≤◌, ◌<◌}
use mathlib.Core.Path.{◌≡◌, refl, sym, ap, subst, ◌∙◌}
use mathlib.Core.List.{List, ◌∷◌, ◌++◌, map, []}
use native.Mathlib.Nat.{mul_comm, mul-le-mul, mul-one, pow-suc}
use native.Mathlib.Omega.{arith}
use lib.ListN.{length, take, get_or, length-map}
use lib.Seq.{ext_get_or}
use Rattle.slices.specs.Amounts.{moved}
use Rattle.slices.proofs.Amounts.{length_moved, moved_at}
use Rattle.hypervolume.specs.Cells.{box}
use Rattle.hypervolume.specs.Counts.{cover, total, contribution, gain, joint, contributions, joints}
use Rattle.hypervolume.proofs.Dominance.{among_at}
use Rattle.hypervolume.proofs.Counting.{SameCover, total_same, total_more, contribution_same, contribution_new, contribution_more}
use Rattle.hypervolume.proofs.Last.{Under, gain_last, joint_last, gain_seen, joint_seen}
use Rattle.sweep.proofs.Front.{getD_mapped}
use Rattle.held.specs.Held.{entered}
use Rattle.held.proofs.Entering.{map_entered}

-- Entered anywhere, a point counts as in front.
pub same_entered : (k : ℕ) (p : List ℕ) (points : List (List ℕ)) → SameCover (entered k p points) (p ∷ points)
unfolding SameCover entered cover
same_entered zero p points c = refl
same_entered (suc k) p [] c = refl
same_entered (suc k) p (q ∷ points) c = omega (arith, same_entered k p points c)

-- The other axes are the first n.
module _ (rs : List ℕ) (r n : ℕ) (axes : length rs ≡ n) (points : List (List ℕ)) (p : List ℕ) (under : Under n (get_or p n 0) points) where
  abbrev all : List ℕ
  all = rs ++ (r ∷ [])

  abbrev height : ℕ
  height = r - get_or p n 0

  abbrev seen : List (List ℕ)
  seen = map (take n) points

  pub layered_gain : gain (rs ++ (r ∷ [])) points p ≡ (r - get_or p n 0) * gain rs (map (take n) points) (take n p)
  layered_gain =
      subst (λ m. Under m (get_or p m 0) points → gain (rs ++ (r ∷ [])) points p ≡ (r - get_or p m 0) * gain rs (map (take m) points) (take m p)) axes
      (λ u. gain_last rs r points p u ∙ ap (λ k. (r - get_or p (length rs) 0) * k) (sym (gain_seen rs points p)))
      under

  layered_joint : (t : List ℕ) → get_or t n 0 ≤ get_or p n 0 → joint all (p ∷ points) p t ≡ height * joint rs (take n p ∷ seen) (take n p) (take n t)
  layered_joint t l =
      subst (λ m. Under m (get_or p m 0) points → get_or t m 0 ≤ get_or p m 0 → joint (rs ++ (r ∷ [])) (p ∷ points) p t ≡ (r - get_or p m 0) * joint rs (take m p ∷ map (take m) points) (take m p) (take m t)) axes
      (λ u v. joint_last rs r points p t u v ∙ ap (λ k. (r - get_or p (length rs) 0) * k) (sym (joint_seen rs (p ∷ points) p t)))
      under l

  seen_many : length seen ≡ length points
  seen_many = length-map points (take n)

  joints_at : (j : ℕ) → j < length points → get_or (joints rs seen (take n p)) j 0 ≡ joint rs (take n p ∷ seen) (take n p) (take n (get_or points j []))
  unfolding joints
  joints_at j l =
      getD_mapped (λ t. joint rs (take n p ∷ seen) (take n p) t) [] 0 seen j (omega (arith, seen_many))
      ∙ ap (joint rs (take n p ∷ seen) (take n p)) (getD_mapped (take n) [] [] points j l)

  pub falls : (j : ℕ) → j < length points → contribution (rs ++ (r ∷ [])) points (get_or points j []) ≡ contribution (rs ++ (r ∷ [])) (p ∷ points) (get_or points j []) + (r - get_or p n 0) * get_or (joints rs (map (take n) points) (take n p)) j 0
  falls j l =
      contribution_more all points p (get_or points j []) (among_at points j l)
      ∙ ap (λ k. contribution all (p ∷ points) (get_or points j []) + k)
      (layered_joint (get_or points j []) (under j l) ∙ ap (λ k. height * k) (sym (joints_at j l)))

  abbrev counts : List ℕ
  counts = contributions all points

  abbrev shares : List ℕ
  shares = joints rs seen (take n p)

  counts_many : length counts ≡ length points
  unfolding contributions
  counts_many = length-map points (λ t. contribution all points t)

  shares_many : length shares ≡ length points
  unfolding joints
  shares_many = length-map seen (λ t. joint rs (take n p ∷ seen) (take n p) t) ∙ seen_many

  counts_at : (j : ℕ) → j < length points → get_or counts j 0 ≡ contribution all points (get_or points j [])
  unfolding contributions
  counts_at j l = getD_mapped (λ t. contribution all points t) [] 0 points j l

  -- No contribution is below what it falls by.
  pub enough : (j : ℕ) → j < length points → (r - get_or p n 0) * get_or (joints rs (map (take n) points) (take n p)) j 0 ≤ get_or (contributions (rs ++ (r ∷ [])) points) j 0
  enough j l = omega (arith, falls j l, counts_at j l)

  lowered : map (contribution all (p ∷ points)) points ≡ moved (λ v m. v - height * m) counts shares
  lowered =
      ext_get_or 0 (map (contribution all (p ∷ points)) points) (moved (λ v m. v - height * m) counts shares)
      (length-map points (contribution all (p ∷ points)) ∙ sym (length_moved (λ v m. v - height * m) counts shares (shares_many ∙ sym counts_many) ∙ counts_many))
      (λ j l. at j (omega (arith, length-map points (contribution all (p ∷ points)))))
    where
      at : (j : ℕ) → j < length points → get_or (map (contribution all (p ∷ points)) points) j 0 ≡ get_or (moved (λ v m. v - height * m) counts shares) j 0
      at j l =
          getD_mapped (contribution all (p ∷ points)) [] 0 points j l
          ∙ sym
          (moved_at (λ v m. v - height * m) counts shares j (shares_many ∙ sym counts_many) (omega (arith, counts_many))
          ∙ (let due : get_or counts j 0 ≡ contribution all (p ∷ points) (get_or points j []) + height * get_or shares j 0 = counts_at j l ∙ falls j l in omega arith))

  pub entered_total : (k : ℕ) → total (rs ++ (r ∷ [])) (entered k p points) ≡ total (rs ++ (r ∷ [])) points + gain (rs ++ (r ∷ [])) points p
  entered_total k = total_same all (entered k p points) (p ∷ points) (same_entered k p points) ∙ total_more all points p

  pub entered_contributions : (k : ℕ) → contributions (rs ++ (r ∷ [])) (entered k p points) ≡ entered k (gain (rs ++ (r ∷ [])) points p) (moved (λ v m. v - (r - get_or p n 0) * m) (contributions (rs ++ (r ∷ [])) points) (joints rs (map (take n) points) (take n p)))
  unfolding contributions
  entered_contributions k = alike ∙ map_entered (contribution all (p ∷ points)) k p points ∙ rw (contribution_new all points p, lowered)
    where
      contributions_same : (q : List ℕ) (s t l : List (List ℕ)) → SameCover s t → map (contribution q s) l ≡ map (contribution q t) l
      contributions_same q s t [] h = refl
      contributions_same q s t (x ∷ l) h = rw (contribution_same q s t x h, contributions_same q s t l h)

      alike : contributions all (entered k p points) ≡ map (contribution all (p ∷ points)) (entered k p points)
      alike = contributions_same all (entered k p points) (p ∷ points) (entered k p points) (same_entered k p points)

-- A box whose edges are at most 32,768.
pub small_box : (rs : List ℕ) (r : ℕ) → ((axis : ℕ) → get_or rs axis 0 ≤ 32768) → r ≤ 32768 → box (rs ++ (r ∷ [])) ≤ 32768 ^ suc (length rs)
unfolding box
small_box [] r h l = rw (mul-one r) (omega arith)
small_box (a ∷ rs) r h l =
    rw (pow-suc 32768 (suc (length rs)), mul_comm (32768 ^ suc (length rs)) 32768)
    (mul-le-mul (h 0) (small_box rs r (λ axis. h (suc axis)) l))
