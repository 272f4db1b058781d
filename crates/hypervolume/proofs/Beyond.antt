-- A point at the reference or beyond it on some axis counts for nothing: a factor of its edge product is 0.
use Prim.Native.Nat.{ℕ, zero, suc, ◌-◌, ◌≤◌, ◌<◌}
use mathlib.Core.Path.{◌≡◌, sym, ◌∙◌}
use mathlib.Core.Bool.{Bool, true}
use mathlib.Core.List.{List, ◌∷◌, []}
use native.Mathlib.Nat.{add-zero, mul-zero, zero-mul}
use native.Mathlib.Omega.{arith}
use lib.ListN.{length, get_or}
use Rattle.slices.proofs.Choices.{both_true}
use Rattle.hypervolume.specs.Cells.{dominates, count, edges}
use Rattle.hypervolume.specs.Counts.{contribution, joint, gain}
use Rattle.hypervolume.specs.Beyond.{Beyond, CountsForNothing, BeyondCountsForNothing}
use Rattle.hypervolume.proofs.Tests.{holds_implied}
use Rattle.hypervolume.proofs.Dominance.{among_member}
use Rattle.hypervolume.proofs.Counting.{count_le, total_more, contribution_more, edges_count}

no_edge : (r p : List ℕ) (axis : ℕ) → axis < length r → get_or r axis 0 ≤ get_or p axis 0 → edges r p ≡ 0
unfolding edges
no_edge [] p axis k l = absurd (let no : ⊥ = omega arith in no)
no_edge (r ∷ rs) [] zero k l = let none : r ≡ 0 = omega arith in rw (none, zero-mul)
no_edge (r ∷ rs) [] (suc axis) k l = rw (no_edge rs [] axis (omega arith) l, mul-zero)
no_edge (r ∷ rs) (x ∷ p) zero k l = let none : r - x ≡ 0 = omega arith in rw (none, zero-mul)
no_edge (r ∷ rs) (x ∷ p) (suc axis) k l = rw (no_edge rs p axis (omega arith) l, mul-zero)

module _ (r p : List ℕ) (b : Beyond r p) where
  no_cell : count r (dominates p) ≡ 0
  no_cell = edges_count r p ∙ no_edge r p b.axis b.known b.reached

  -- No cell passes a test that asks for domination by the point.
  none_of : (test : List ℕ → Bool) → ((c : List ℕ) → test c ≡ true → dominates p c ≡ true) → count r test ≡ 0
  none_of test h =
      let few : count r test ≤ count r (dominates p) = count_le r test (dominates p) (λ c. holds_implied (test c) (dominates p c) (h c)) in
      omega (arith, no_cell)

  no_gain : (trials : List (List ℕ)) → gain r trials p ≡ 0
  unfolding gain
  no_gain trials = none_of _ (λ c e. (both_true _ _ e).0)

  no_joint : (trials : List (List ℕ)) (t : List ℕ) → joint r trials p t ≡ 0
  unfolding joint
  no_joint trials t = none_of _ (λ c e. (both_true _ _ e).0)

  no_joint_back : (trials : List (List ℕ)) (t : List ℕ) → joint r trials t p ≡ 0
  unfolding joint
  no_joint_back trials t = none_of _ (λ c e. (both_true _ _ (both_true _ _ e).1).0)

  no_contribution : (trials : List (List ℕ)) → contribution r trials p ≡ 0
  unfolding contribution
  no_contribution trials = none_of _ (λ c e. (both_true _ _ e).0)

  counts_for_nothing : CountsForNothing r p
  counts_for_nothing =
      record {
        no_cell = no_cell;
        no_gain = no_gain;
        no_contribution = no_contribution;
        no_joint = λ trials t. (no_joint trials t, no_joint_back trials t);
        same_total = λ trials. total_more r trials p ∙ rw (no_gain trials, add-zero);
        same_contribution = λ trials t m.
            sym (contribution_more r trials p t (among_member m) ∙ rw (no_joint (p ∷ trials) t, add-zero));
      }

-- "Beyond it on any axis a point dominates no cell."
pub beyond : BeyondCountsForNothing
beyond r p b = counts_for_nothing r p b
