-- Only the points that pass a test are counted: what the others, left out, are to be for that (law 6).
use Prim.Native.Nat.{ℕ, zero, suc, ◌+◌, ◌≤◌, ◌<◌}
use mathlib.Core.Path.{◌≡◌, refl, sym, ap, ◌∙◌}
use mathlib.Core.Bool.{Bool, true, false, not}
use mathlib.Core.List.{List, ◌∷◌, ◌++◌, map, []}
use native.Mathlib.Omega.{arith}
use lib.ListN.{length, get_or, set}
use Rattle.slices.specs.Choices.{both, pick}
use Rattle.hypervolume.specs.Cells.{holds, dominates, join}
use Rattle.hypervolume.specs.Counts.{cover, total, contribution}
use Rattle.slices.proofs.Choices.{both_true}
use Rattle.hypervolume.proofs.Dominance.{dominates_join, cover_append}
use Rattle.hypervolume.proofs.Counting.{SameCover, total_same, contribution_same, Twice}
use Rattle.hypervolume.proofs.Skips.{Spare, total_skips, contribution_skips, contribution_spare, Beyond, beyond, moved_corner}
use Rattle.corners.specs.Limits.{Limits, passing}

-- Points joined, and points that all fail.
pub passing_append : (test : List ℕ → Bool) (s t : List (List ℕ)) → passing test (s ++ t) ≡ passing test s ++ passing test t
unfolding passing pick
passing_append test [] t = refl
passing_append test (a ∷ s) t = go (test a) (passing_append test s t)
  where
    go : (b : Bool) → passing test (s ++ t) ≡ passing test s ++ passing test t → pick b (a ∷ passing test (s ++ t)) (passing test (s ++ t)) ≡ pick b (a ∷ passing test s) (passing test s) ++ passing test t
    go true e = ap (λ l. a ∷ l) e
    go false e = e

pub passing_none : (test : List ℕ → Bool) (t : List (List ℕ)) → ((j : ℕ) → j < length t → test (get_or t j []) ≡ false) → passing test t ≡ []
unfolding passing pick
passing_none test [] h = refl
passing_none test (a ∷ t) h = rw (h 0 (omega arith)) (passing_none test t (λ j l. h (suc j) (omega arith)))

-- The points that fail the test.
abbrev failing : (List ℕ → Bool) → List (List ℕ) → List (List ℕ)
failing test trials = passing (λ t. not (test t)) trials

parted : (test : List ℕ → Bool) (trials : List (List ℕ)) → SameCover trials (failing test trials ++ passing test trials)
unfolding SameCover cover passing pick
parted test trials c = go trials ∙ sym (cover_append (failing test trials) (passing test trials) c)
  where
    one : (b : Bool) (t : List ℕ) (r k : List (List ℕ)) → holds (dominates t c) + (cover r c + cover k c) ≡ cover (pick (not b) (t ∷ r) r) c + cover (pick b (t ∷ k) k) c
    one true t r k = omega arith
    one false t r k = omega arith

    go : (trials : List (List ℕ)) → cover trials c ≡ cover (failing test trials) c + cover (passing test trials) c
    go [] = refl
    go (t ∷ trials) = ap (λ n. holds (dominates t c) + n) (go trials) ∙ one (test t) t (failing test trials) (passing test trials)

-- Every point that fails is one that law 6 leaves out.
failing_spare : (test : List ℕ → Bool) (stay trials : List (List ℕ)) → ((j : ℕ) → j < length trials → test (get_or trials j []) ≡ false → Twice stay (get_or trials j [])) → Spare stay (failing test trials)
unfolding Spare passing pick
failing_spare test stay [] h = λ j l. absurd (let no' : ⊥ = omega arith in no')
failing_spare test stay (t ∷ trials) h = go (test t) refl (failing_spare test stay trials (λ j l. h (suc j) (omega arith)))
  where
    go : (b : Bool) → test t ≡ b → Spare stay (failing test trials) → (j : ℕ) → j < length (pick (not b) (t ∷ failing test trials) (failing test trials)) → Twice stay (get_or (pick (not b) (t ∷ failing test trials) (failing test trials)) j [])
    go true e later j l = later j l
    go false e later zero l = h 0 (omega arith) e
    go false e later (suc j) l = later j (omega arith)

module _ (r : List ℕ) (test : List ℕ → Bool) (trials : List (List ℕ)) (h : (j : ℕ) → j < length trials → test (get_or trials j []) ≡ false → Twice (passing test trials) (get_or trials j [])) where
  spare : Spare (passing test trials) (failing test trials)
  spare = failing_spare test (passing test trials) trials h

  pub passing_total : total r (passing test trials) ≡ total r trials
  passing_total =
      sym (total_same r trials (failing test trials ++ passing test trials) (parted test trials) ∙ total_skips r (passing test trials) (failing test trials) spare)

  pub passing_contribution : (t : List ℕ) → contribution r (passing test trials) t ≡ contribution r trials t
  passing_contribution t =
      sym (contribution_same r trials (failing test trials ++ passing test trials) t (parted test trials) ∙ contribution_skips r (passing test trials) (failing test trials) t spare)

  pub failing_contribution : (j : ℕ) → j < length trials → test (get_or trials j []) ≡ false → contribution r trials (get_or trials j []) ≡ 0
  failing_contribution j l e = sym (passing_contribution (get_or trials j [])) ∙ contribution_spare r (passing test trials) (get_or trials j []) (h j l e)

-- A limit: what is within it covers a cell as often as the points that lie close enough to u.
corners_cover : (test : List ℕ → Bool) (u : List ℕ) (trials : List (List ℕ)) (s c : List ℕ) → ((j : ℕ) → j < length trials → dominates (get_or trials j []) s ≡ true → (test (join u (get_or trials j [])) ≡ true) × (dominates (join u (get_or trials j [])) c ≡ true)) → cover trials s ≤ cover (passing test (map (join u) trials)) c
unfolding cover passing pick holds
corners_cover test u [] s c h = omega arith
corners_cover test u (t ∷ trials) s c h =
    go (dominates t s) refl (test (join u t)) refl (corners_cover test u trials s c (λ j l. h (suc j) (omega arith)))
  where
    k : List (List ℕ)
    k = passing test (map (join u) trials)

    go : (d : Bool) → dominates t s ≡ d → (b : Bool) → test (join u t) ≡ b → cover trials s ≤ cover k c → holds d + cover trials s ≤ cover (pick b (join u t ∷ k) k) c
    go false p true q later = omega arith
    go false p false q later = omega arith
    go true p true q later = rw (h 0 (omega arith) p).1 (omega arith)
    go true p false q later =
        let never : false ≡ true = sym q ∙ (h 0 (omega arith) p).0 in
        absurd (let z : ◌≡◌ {A = ℕ} 0 1 = cc in omega arith)

-- u is within the limit, so a corner is within it just where its point is.
pub corner_within : (u t limit : List ℕ) → dominates u limit ≡ true → dominates (join u t) limit ≡ dominates t limit
unfolding both
corner_within u t limit e = rw (dominates_join u t limit, e)

-- So a corner beyond the limit may be left out.
pub limit_twice : {trials : List (List ℕ)} {u limit : List ℕ} → Limits trials u limit → ((j : ℕ) → j < length trials → length (get_or trials j []) ≤ length u) → (t : List ℕ) → ((a : ℕ) → get_or t a 0 ≤ 1048576) → dominates (join u t) limit ≡ false → Twice (passing (λ p. dominates p limit) (map (join u) trials)) (join u t)
unfolding Twice
limit_twice {trials} {u} {limit} h long t small e c d =
    let on : Beyond t limit = beyond t limit (sym (corner_within u t limit h.above) ∙ e) in
    let parts = both_true (dominates u c) (dominates t c) (sym (dominates_join u t c) ∙ d) in
    let two : 2 ≤ cover trials (set u on.axis (get_or limit on.axis 0)) =
    h.twice on.axis on.within (omega (arith, on.above, small on.axis)) in
    omega (
      arith,
      corners_cover (λ p. dominates p limit) u trials (set u on.axis (get_or limit on.axis 0)) c
          (λ j l q. moved_corner u limit t (get_or trials j []) c on.axis (long j l) h.above (omega (arith, on.above)) parts.0 parts.1 q),
    )
