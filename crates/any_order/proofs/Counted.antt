-- No count depends on the order of the axes: one swap of two adjacent axes changes none, and an order is such swaps. So an
-- archive that is counted is counted with its axes in another order.
use Prim.Native.Nat.{ℕ, ◌<◌}
use mathlib.Core.Path.{◌≡◌, refl, sym, ap, ◌∙◌}
use mathlib.Core.List.Memᴰ
use mathlib.Core.List.{List, map, Memᴰ}
use lib.ListN.{length}
use Rattle.hypervolume.specs.Counts.{total, contribution}
use Rattle.hypervolume.specs.Front.{front}
use Rattle.hypervolume.proofs.Counting.{total_same, contribution_same}
use Rattle.hypervolume.proofs.Axes.{swapped, Swaps, total_swaps, contribution_swaps, joint_swaps, gain_swaps}
use Rattle.hypervolume.proofs.Front.{front_swaps}
use Rattle.words.specs.Archive.{Trial, Row, Archive, point, points}
use Rattle.calls.specs.Calls.{held_trials, held_points, reference_of}
use Rattle.calls.specs.Counted.{IsCounted, counted}
use Rattle.calls.proofs.Members.{map_on, map-map}
use Rattle.calls.proofs.InOrder.{in_order_cover}
use Rattle.calls.proofs.Counted.{is_counted}
use Rattle.history.specs.History.{shape_of_book, fresh_archive}
use Rattle.history.proofs.Fronts.{sorted_front}
use Rattle.history.proofs.Thinning.{fresh_is}
use Rattle.axes.specs.Orders.{rearranged}
use Rattle.axes.specs.Rearranging.{rearranged_trial, rearranged_shape, rearranged_row, rearranged_archive}
use Rattle.axes.proofs.Swaps.{swaps, swaps_here, rearranged_swaps}
use Rattle.axes.proofs.Arrangements.{point_rearranged}
use Rattle.any_order.specs.Rearranged.{rearranged_book, AnyOrder}
use Rattle.any_order.proofs.Sound.{trials_rearranged, row_from, reference_rearranged}

pub any_order : (order : ℕ) (r : List ℕ) (trials : List (List ℕ)) → order < 6 → length r ≡ 3
    → ((t : List ℕ) → Memᴰ t trials → length t ≡ 3) → AnyOrder order r trials
any_order order r trials known e each =
    record {
      total = rw (at r e, all) (total_swaps (swaps order) r trials here);
      contribution = λ t l. rw (at r e, all, at t l) (contribution_swaps (swaps order) r trials t here);
      joint = λ s t k l. rw (at r e, all, at s k, at t l) (joint_swaps (swaps order) r trials s t here);
      gain = λ p l. rw (at r e, all, at p l) (gain_swaps (swaps order) r trials p here);
      front = rw all (front_swaps (swaps order) trials (λ t m. swaps_here order known t (each t m)));
    }
  where
    at : (p : List ℕ) → length p ≡ 3 → rearranged order p ≡ swapped (swaps order) p
    at = rearranged_swaps order known

    all : map (rearranged order) trials ≡ map (swapped (swaps order)) trials
    all = map_on _ _ trials (λ t m. at t (each t m))

    here : Swaps (length r) (swaps order)
    here = swaps_here order known r e

module _ (order : ℕ) (known : order < 6) where
  points_rearranged : (ts : List Trial) → points (map (rearranged_trial order) ts) ≡ map (rearranged order) (points ts)
  unfolding points
  points_rearranged ts =
      map-map (rearranged_trial order) point ts ∙ map_on _ _ ts (λ t m. point_rearranged order known t) ∙ sym (map-map point (rearranged order) ts)

  module _ (a : Archive) where
    counts : AnyOrder order (reference_of a) (held_points a)
    unfolding points
    counts =
        any_order order (reference_of a) (held_points a) known refl
        (λ p m. let from = Memᴰ.of_map point (held_trials a) m in ap length (sym from.2))

    -- The records stand in another order then, and no count depends on that either.
    pub total_rearranged : total (reference_of (rearranged_archive order a)) (held_points (rearranged_archive order a)) ≡ total (reference_of a) (held_points a)
    unfolding rearranged_archive
    total_rearranged =
        rw (trials_rearranged order a, reference_rearranged order known a.shape)
        (total_same _ _ _ (in_order_cover (map (rearranged_trial order) (held_trials a)))
        ∙ rw (points_rearranged (held_trials a)) counts.total)

    pub front_rearranged : front (held_points (rearranged_archive order a)) ≡ front (held_points a)
    front_rearranged =
        rw (trials_rearranged order a, sorted_front (map (rearranged_trial order) (held_trials a)), points_rearranged (held_trials a)) counts.front

    contribution_rearranged : (t : Trial) → contribution (reference_of (rearranged_archive order a)) (held_points (rearranged_archive order a)) (point (rearranged_trial order t)) ≡ contribution (reference_of a) (held_points a) (point t)
    unfolding rearranged_archive
    contribution_rearranged t =
        rw (trials_rearranged order a, reference_rearranged order known a.shape, point_rearranged order known t)
        (contribution_same _ _ _ _ (in_order_cover (map (rearranged_trial order) (held_trials a)))
        ∙ rw (points_rearranged (held_trials a)) (counts.contribution (point t) refl))

    pub rearranged_counted : IsCounted a → IsCounted (rearranged_archive order a)
    unfolding rearranged_archive
    rearranged_counted h =
        record {
          sum = h.sum ∙ sym total_rearranged;
          front = h.front ∙ sym front_rearranged;
          rows = λ r m. each r (row_from order a r m);
        }
      where
        each : (r : Row) → (q : Row) × Memᴰ q a.rows × (rearranged_row order q ≡ r)
            → r.kept ≡ contribution (reference_of (rearranged_archive order a)) (held_points (rearranged_archive order a)) (point r.trial)
        each r w = rw (← w.2) (unfold rearranged_row in h.rows w.0 w.1 ∙ sym (contribution_rearranged w.0.trial))

    -- A counted archive rearranged is the fresh one of its trials rearranged.
    pub rearranged_fresh : IsCounted a → rearranged_archive order a ≡ fresh_archive (rearranged_book order a)
    unfolding rearranged_archive rearranged_shape rearranged_book shape_of_book
    rearranged_fresh h =
        is_counted (rearranged_archive order a) (rearranged_counted h)
        ∙ ap (counted (rearranged_archive order a).shape) (trials_rearranged order a)
        ∙ sym (fresh_is (rearranged_book order a))
