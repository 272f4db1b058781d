-- One more point u: the trials' corners with u are counted in their stead (laws 3 and 4), and of these only the ones
-- within the limits (law 6).
use Prim.Native.Nat.{ℕ, suc, ◌+◌, ◌-◌, ◌≤◌, ◌<◌, max}
use mathlib.Core.Path.{◌≡◌, refl, sym, ap, ◌∙◌, fun_ext}
use mathlib.Core.Bool.{Bool, true, false}
use mathlib.Core.List.{List, ◌++◌, map, map-map, []}
use mathlib.Core.Logic.{◌⊎◌, inl, inr}
use native.Mathlib.Decide.{dec_le}
use native.Mathlib.Omega.{arith}
use lib.ListN.{length, take, drop, get_or, replicate, length-map, length-replicate, get_or-replicate, get_or-eq_default}
use lib.Seq.{take_at, take_all, length-take-le, get_or-take}
use Rattle.slices.specs.Spread.{Sparse, Stands}
use Rattle.slices.proofs.Due.{Due, due_spread}
use Rattle.hypervolume.specs.Cells.{dominates, join, edges}
use Rattle.hypervolume.specs.Counts.{total, contribution, gain, contributions, joints}
use Rattle.hypervolume.specs.Sorted.{Small, Sorted}
use Rattle.hypervolume.proofs.Counting.{joint_corner, gain_edges, Twice}
use Rattle.sweep.specs.Points.{Ready}
use Rattle.sweep.proofs.Coordinates.{ascending_at}
use Rattle.sweep.proofs.Front.{getD_mapped}
use Rattle.corners.specs.Limits.{Limits, passing, Collected}
use Rattle.corners.specs.Updating.{Updating}
use Rattle.corners.proofs.Passing.{passing_total, passing_contribution, failing_contribution, limit_twice}
use Rattle.corners.proofs.limits.LimitsLaws.{join_at, join_length}
use Rattle.corners.proofs.limits.CollectLaws.{corner_at}

-- The joint contributions with u are the corners' contributions.
corners_joints : (r u : List ℕ) (trials : List (List ℕ)) → contributions r (map (join u) trials) ≡ joints r trials u
unfolding contributions joints
corners_joints r u trials =
    map-map (λ t. contribution r (map (join u) trials) t) (join u) trials
    ∙ ap (λ f. map f trials) (fun_ext (λ t. sym (joint_corner r trials u t)))

-- All that is known once the corners have been collected.
pub record Prepared (points : List (List ℕ)) (u r : List ℕ) (corners₀ : List (List ℕ)) (places₀ line counts limit : List ℕ) (corners : List (List ℕ)) (places : List ℕ) (m : ℕ) : Type 0 where
  pub asked : Updating points u r corners₀ places₀ line counts
  pub axes : length u ≡ 3
  pub limits : Limits points u limit
  pub corners_long : length corners ≡ length corners₀
  pub places_long : length places ≡ length places₀
  pub collected : Collected points u limit (length points) corners places m

module _ {points : List (List ℕ)} {u r : List ℕ} {corners₀ : List (List ℕ)} {places₀ line counts₀ limit : List ℕ} {corners : List (List ℕ)} {places : List ℕ} {m : ℕ} (h : Prepared points u r corners₀ places₀ line counts₀ limit corners places m) where
  abbrev all : List (List ℕ)
  all = map (join u) points

  abbrev some : List (List ℕ)
  some = take m corners

  abbrev test : List ℕ → Bool
  test t = dominates t limit

  sorted : Sorted points
  sorted = h.asked.ready.sorted

  all_many : length all ≡ length points
  all_many = length-map points (join u)

  pub prepared_fits : m ≤ length corners
  prepared_fits = omega (arith, h.collected.few, h.corners_long, h.asked.corners_room)

  pub some_many : length some ≡ m
  some_many = length-take-le m corners prepared_fits

  -- A corner collected, by its point.
  some_at : (k : ℕ) → k < m → get_or some k [] ≡ join u (get_or points (get_or places k 0) [])
  some_at k l = get_or-take m corners k [] l ∙ h.collected.corner k l

  some_axis : (k a : ℕ) → k < m → get_or (get_or some k []) a 0 ≡ max (get_or u a 0) (get_or (get_or points (get_or places k 0) []) a 0)
  some_axis k a l = rw (some_at k l) (join_at u (get_or points (get_or places k 0) []) a)

  -- The corners collected are as the sweep asks.
  some_sorted : Sorted some
  some_sorted =
      record {
        few = omega (arith, some_many, h.collected.few, sorted.few);
        axes = λ k l. axes k (omega (arith, some_many));
        small = λ k. small k (dec_le (suc k) m);
        rising = λ k l. rising k (omega (arith, some_many));
      }
    where
      axes : (k : ℕ) → k < m → length (get_or some k []) ≡ 3
      axes k l =
          rw (some_at k l)
          (join_length u (get_or points (get_or places k 0) []) (sorted.axes (get_or places k 0) (h.collected.inside k l) ∙ sym h.axes)
          ∙ h.axes)

      small : (k : ℕ) → Dec (k < m) → Small (get_or some k [])
      small k (yes l) a = rw (some_axis k a l) (omega (arith, h.asked.small a, sorted.small (get_or places k 0) a))
      small k (no l) a = rw (get_or-eq_default some [] {n = k} (omega (arith, some_many))) (omega arith)

      rising : (k : ℕ) → suc k < m → get_or (get_or some k []) 2 0 ≤ get_or (get_or some (suc k) []) 2 0
      rising k l =
          rw (some_axis k 2 (omega arith), some_axis (suc k) 2 l)
          (omega (arith, ascending_at sorted (get_or places k 0) (get_or places (suc k) 0) (omega (arith, h.collected.rising k l)) (h.collected.inside (suc k) l)))

  pub prepared_ready : Ready some r line counts₀
  prepared_ready =
      record {
        sorted = some_sorted;
        reference_small = h.asked.ready.reference_small;
        line_room = omega (arith, some_many, h.collected.few, h.asked.ready.line_room);
        room = omega (arith, some_many, h.collected.few, h.asked.ready.room);
      }

  -- They are those within the limits; the others may be left out.
  passing_all : some ≡ passing test all
  passing_all = h.collected.all ∙ ap (passing test) (take_all (length points) all (omega (arith, all_many)))

  left_out : (j : ℕ) → j < length all → test (get_or all j []) ≡ false → Twice (passing test all) (get_or all j [])
  left_out j l e =
      let corner = corner_at u points j (omega (arith, all_many)) in
      rw corner
      (limit_twice h.limits (λ i q. omega (arith, sorted.axes i q, h.axes)) (get_or points j []) (sorted.small j) (rw corner at e))

  whole : edges r u ≡ total r some + gain r points u
  whole = rw (passing_all, passing_total r test all left_out) (gain_edges r points u)

  pub prepared_enough : {covered product : ℕ} → covered ≡ total r some → product ≡ edges r u → covered ≤ product
  prepared_enough e f = omega (arith, whole)

  pub prepared_gain : {covered product : ℕ} → covered ≡ total r some → product ≡ edges r u → product - covered ≡ gain r points u
  prepared_gain e f = omega (arith, whole)

  -- The joint contributions, by the corners.
  joints_many : length (joints r points u) ≡ length points
  unfolding joints
  joints_many = length-map points _

  joints_at : (j : ℕ) → j < length points → get_or (joints r points u) j 0 ≡ contribution r all (get_or all j [])
  unfolding contributions
  joints_at j l =
      rw (← (corners_joints r u points))
      (getD_mapped (λ t. contribution r all t) [] 0 all j (omega (arith, all_many)))

  -- What the sweep leaves.
  module _ {counts : List ℕ} (e : counts ≡ contributions r some ++ drop (length some) counts₀) where
    counts_many : length (contributions r some) ≡ m
    unfolding contributions
    counts_many = length-map some (λ t. contribution r some t) ∙ some_many

    lent : take m counts ≡ contributions r some
    lent = rw e (take_at (contributions r some) (drop (length some) counts₀) m counts_many)

    lent_at : (k : ℕ) → k < m → get_or (take m counts) k 0 ≡ get_or (joints r points u) (get_or places k 0) 0
    unfolding contributions
    lent_at k l =
        let inside : get_or places k 0 < length points = h.collected.inside k l in
        rw (lent, joints_at (get_or places k 0) inside, corner_at u points (get_or places k 0) inside)
        (getD_mapped (λ t. contribution r some t) [] 0 some k (omega (arith, some_many))
        ∙ rw (some_at k l, passing_all) (passing_contribution r test all left_out (join u (get_or points (get_or places k 0) []))))

    places_many : length (take m places) ≡ m
    places_many = length-take-le m places (omega (arith, h.collected.few, h.places_long, h.asked.places_room))

    due : Due (joints r points u) (replicate (length points) 0) (take m places) (take m counts)
    due =
        record {
          long = length-replicate (length points) 0 ∙ sym joints_many;
          many = ap length lent ∙ counts_many ∙ sym places_many;
          inside = λ k l. inside k (omega (arith, places_many));
          right = λ k l. right k (omega (arith, places_many));
          every = λ j l. every j (omega (arith, joints_many)) (test (get_or all j [])) refl;
        }
      where
        inside : (k : ℕ) → k < m → get_or (take m places) k 0 < length (joints r points u)
        inside k l = rw (get_or-take m places k 0 l, joints_many) (h.collected.inside k l)

        right : (k : ℕ) → k < m → get_or (take m counts) k 0 ≡ get_or (joints r points u) (get_or (take m places) k 0) 0
        right k l = rw (get_or-take m places k 0 l) (lent_at k l)

        every : (j : ℕ) → j < length points → (b : Bool) → test (get_or all j []) ≡ b → (get_or (replicate (length points) 0) j 0 ≡ get_or (joints r points u) j 0) ⊎ Stands (take m places) (length (take m places)) j
        every j l true q =
            let s = h.collected.every j l q in
            inr
            (record {
              k = s.k;
              within = omega (arith, s.within, places_many);
              here = get_or-take m places s.k 0 s.within ∙ s.here;
            })
        every j l false q =
            inl
            (get_or-replicate (length points) j 0 0 l
            ∙ sym (joints_at j l ∙ failing_contribution r test all left_out j (omega (arith, all_many)) q))

    pub prepared_joints : Sparse (length points) (joints r points u) places counts m
    prepared_joints =
        record {
          few = h.collected.few;
          inside = h.collected.inside;
          rising = h.collected.rising;
          is_spread = due_spread (joints r points u) (replicate (length points) 0) (take m places) (take m counts) due;
        }
