-- An archive that rows 2 and 3 let pass still does with its axes in another order.
use Prim.Native.Nat.{ℕ, zero, suc, ◌+◌, ◌≤◌, ◌<◌}
use mathlib.Core.Path.{◌≡◌, refl, sym, ap, ◌∙◌}
use mathlib.Core.Bool.{Bool, true}
use mathlib.Core.List.Memᴰ
use mathlib.Core.List.{List, ◌∷◌, map, Memᴰ, []}
use native.Mathlib.Omega.{arith}
use lib.Dec.{eqb}
use lib.ListN.{length}
use Rattle.slices.specs.Choices.{both, either}
use Rattle.slices.proofs.Choices.{both_turn}
use Rattle.hypervolume.specs.Cells.{box}
use Rattle.hypervolume.proofs.Dominance.{first, rest}
use Rattle.hypervolume.proofs.Axes.{swap_at, swaps_keep, box_swaps}
use Rattle.words.specs.Archive.{Trial, Row, Shape, Archive, point, reference, trials}
use Rattle.words.specs.Format.{each, within, shape_allowed, coordinates_allowed, held, distinct}
use Rattle.words.proofs.Passed.{Sound, RowBounds}
use Rattle.calls.specs.Calls.{held_trials, in_order}
use Rattle.calls.proofs.Members.{map-map}
use Rattle.calls.proofs.Order.{ascending_ordered}
use Rattle.calls.proofs.InOrder.{in_order_member, in_order_trials, in_order_distinct, in_order_ascending}
use Rattle.calls.proofs.Sound.{rows_each, each_rows}
use Rattle.axes.specs.Orders.{place_of, along, rearranged}
use Rattle.axes.specs.Rearranging.{rearranged_trial, rearranged_shape, rearranged_row, rearranged_archive}
use Rattle.axes.proofs.Swaps.{three_of, swaps, swaps_here, rearranged_swaps, length_rearranged}
use Rattle.axes.proofs.Arrangements.{point_rearranged}
use Rattle.axes.proofs.Rows.{rearranged_count}

-- A test that every coordinate meets is met in any order.
each_swap : (test : ℕ → Bool) (k : ℕ) (p : List ℕ) → k + 2 ≤ length p → each test (swap_at k p) ≡ each test p
unfolding swap_at first rest each
each_swap test k [] l = absurd (let no' : ⊥ = omega arith in no')
each_swap test zero (a ∷ []) l = absurd (let no' : ⊥ = omega arith in no')
each_swap test zero (a ∷ b ∷ p) l = both_turn (test b) (test a) (each test p)
each_swap test (suc k) (a ∷ p) l = ap (both (test a)) (each_swap test k p (omega arith))

-- A trial keeps its number, so the same numbers are held, and none twice.
pub held_rearranged : (order n : ℕ) (ts : List Trial) → held n (map (rearranged_trial order) ts) ≡ held n ts
unfolding held rearranged_trial
held_rearranged order n [] = refl
held_rearranged order n (t ∷ ts) = ap (either (eqb t.number n)) (held_rearranged order n ts)

distinct_rearranged : (order : ℕ) (ts : List Trial) → distinct (map (rearranged_trial order) ts) ≡ distinct ts
unfolding distinct rearranged_trial
distinct_rearranged order [] = refl
distinct_rearranged order (t ∷ ts) = rw (held_rearranged order t.number ts, distinct_rearranged order ts)

-- The trials of an archive rearranged are its trials rearranged, in order.
pub trials_rearranged : (order : ℕ) (a : Archive) → held_trials (rearranged_archive order a) ≡ in_order (λ t. t) (map (rearranged_trial order) (held_trials a))
unfolding rearranged_archive rearranged_row trials
trials_rearranged order a =
    in_order_trials (map (rearranged_row order) a.rows)
    ∙ ap (in_order (λ t. t)) (map-map (rearranged_row order) (λ r. r.trial) a.rows ∙ sym (map-map (λ r. r.trial) (rearranged_trial order) a.rows))

-- Each of its records is one of the archive's, rearranged.
pub row_from : (order : ℕ) (a : Archive) (r : Row) → Memᴰ r (rearranged_archive order a).rows → (q : Row) × Memᴰ q a.rows × (rearranged_row order q ≡ r)
unfolding rearranged_archive
row_from order a r m = Memᴰ.of_map (rearranged_row order) a.rows (in_order_member (λ q. q.trial) r (map (rearranged_row order) a.rows) m)

module _ (order : ℕ) (known : order < 6) where
  pub reference_rearranged : (s : Shape) → reference (rearranged_shape order s) ≡ rearranged order (reference s)
  unfolding rearranged_shape along place_of
  reference_rearranged s = sym (three_of 0 (rearranged order (reference s)) (length_rearranged order known (reference s) refl))

  each_rearranged : (test : ℕ → Bool) (p : List ℕ) → length p ≡ 3 → each test (rearranged order p) ≡ each test p
  each_rearranged test p e =
      ap (each test) (rearranged_swaps order known p e) ∙ swaps_keep (each test) (each_swap test) (swaps order) p (swaps_here order known p e)

  box_rearranged : (s : Shape) → box (reference (rearranged_shape order s)) ≡ box (reference s)
  box_rearranged s =
      ap box (reference_rearranged s ∙ rearranged_swaps order known (reference s) refl)
      ∙ box_swaps (swaps order) (reference s) (swaps_here order known (reference s) refl)

  shape_kept : (s : Shape) → shape_allowed (rearranged_shape order s) ≡ shape_allowed s
  unfolding shape_allowed rearranged_shape
  shape_kept s =
      ap (both (within 1 512 s.capacity))
      (ap (each (within 1 1048576)) (reference_rearranged s) ∙ each_rearranged (within 1 1048576) (reference s) refl)

  coordinates_kept : (t : Trial) → coordinates_allowed (rearranged_trial order t) ≡ coordinates_allowed t
  unfolding coordinates_allowed
  coordinates_kept t = ap (each (within 0 1048576)) (point_rearranged order known t) ∙ each_rearranged (within 0 1048576) (point t) refl

  bounds_kept : (s : Shape) (r : Row) → RowBounds s r → RowBounds (rearranged_shape order s) (rearranged_row order r)
  unfolding rearranged_row rearranged_trial
  bounds_kept s r b =
      record {
        number_low = b.number_low;
        number_high = b.number_high;
        coordinates = coordinates_kept r.trial ∙ b.coordinates;
        kept_high = rw (box_rearranged s) b.kept_high;
      }

  pub rearranged_sound : (a : Archive) → Sound a → Sound (rearranged_archive order a)
  unfolding rearranged_archive rearranged_shape
  rearranged_sound a s =
      let apart : distinct (map (rearranged_trial order) (held_trials a)) ≡ true = distinct_rearranged order (held_trials a) ∙ s.apart in
      record {
        shaped = shape_kept a.shape ∙ s.shaped;
        within_box = rw (box_rearranged a.shape) s.within_box;
        front_within = rw (rearranged_count order a) s.front_within;
        held_within = rw (rearranged_count order a) s.held_within;
        rows_fit = each_rows _ (rearranged_archive order a).rows (λ r m. fits r (row_from order a r m));
        in_order = rw (trials_rearranged order a) (ascending_ordered _ (in_order_ascending _ apart));
        apart = rw (trials_rearranged order a) (in_order_distinct _ ∙ apart);
      }
    where
      fits : (r : Row) → (q : Row) × Memᴰ q a.rows × (rearranged_row order q ≡ r) → RowBounds (rearranged_shape order a.shape) r
      fits r w = rw (← w.2) (bounds_kept a.shape w.0 (rows_each a.shape a.rows s.rows_fit w.0 w.1))
