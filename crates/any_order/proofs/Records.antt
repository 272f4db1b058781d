-- The records of an archive rearranged: the inverse order gives the archive back, and each number keeps its record.
use Prim.Native.Nat.{ℕ, ◌<◌}
use mathlib.Core.Path.{◌≡◌, refl, sym, ap, ◌∙◌}
use mathlib.Core.Bool.{Bool, true, false}
use mathlib.Core.List.Memᴰ
use mathlib.Core.List.{List, ◌∷◌, map, []}
use Rattle.words.specs.Archive.{Trial, Row, Shape, Archive, point, reference}
use Rattle.words.specs.Format.{held}
use Rattle.words.proofs.Passed.{Sound}
use Rattle.calls.specs.Calls.{held_trials, row_of}
use Rattle.calls.proofs.Members.{map_on, map-map, map_id, map_members, row_of_none, split}
use Rattle.calls.proofs.Order.{ordered_ascending}
use Rattle.calls.proofs.InOrder.{in_order_member, member_in_order, in_order_held, same_rows}
use Rattle.calls.proofs.Ranking.{row_of_member}
use Rattle.axes.specs.Orders.{x, y, z, place_of, along, rearranged, inverse}
use Rattle.axes.specs.Rearranging.{rearranged_trial, rearranged_shape, rearranged_row, rearranged_archive}
use Rattle.axes.proofs.Swaps.{three_of, inverse_known, rearranged_map, length_rearranged, rearranged_back}
use Rattle.axes.proofs.Arrangements.{point_rearranged}
use Rattle.any_order.proofs.Sound.{held_rearranged, trials_rearranged, reference_rearranged, rearranged_sound}

-- ---- back by the inverse order

module _ (order : ℕ) (known : order < 6) where
  point_back : (t : Trial) → rearranged (inverse order) (point (rearranged_trial order t)) ≡ point t
  point_back t = ap (rearranged (inverse order)) (point_rearranged order known t) ∙ rearranged_back order known (point t) refl

  reference_back : (s : Shape) → rearranged (inverse order) (reference (rearranged_shape order s)) ≡ reference s
  reference_back s = ap (rearranged (inverse order)) (reference_rearranged order known s) ∙ rearranged_back order known (reference s) refl

  row_back : (r : Row) → rearranged_row (inverse order) (rearranged_row order r) ≡ r
  unfolding rearranged_row rearranged_trial along place_of
  row_back r =
      ap (λ p. record { trial = record { number = r.trial.number; x = along p x; y = along p y; z = along p z }; kept = r.kept }) (point_back r.trial)

  shape_back : (s : Shape) → rearranged_shape (inverse order) (rearranged_shape order s) ≡ s
  unfolding rearranged_shape along place_of
  shape_back s =
      ap (λ p. record { capacity = s.capacity; rx = along p x; ry = along p y; rz = along p z }) (reference_back s)

  pub archive_back : (a : Archive) → Sound a → rearranged_archive (inverse order) (rearranged_archive order a) ≡ a
  unfolding rearranged_archive
  archive_back a s = λ i. record { shape = shape_back a.shape i; sum = a.sum; front = a.front; rows = rows i }
    where
      all : map (rearranged_row (inverse order)) (map (rearranged_row order) a.rows) ≡ a.rows
      all = map-map (rearranged_row order) (rearranged_row (inverse order)) a.rows ∙ map_on _ _ a.rows (λ r m. row_back r) ∙ map_id a.rows

      rows : (rearranged_archive (inverse order) (rearranged_archive order a)).rows ≡ a.rows
      rows =
          same_rows _ _
          (ordered_ascending _ (rearranged_sound (inverse order) (inverse_known order known) _ (rearranged_sound order known a s)).in_order)
          (ordered_ascending _ s.in_order)
          (λ r m. rw all at (map_members (rearranged_row (inverse order)) _ _ (λ q. in_order_member (λ r. r.trial) q _) r (in_order_member (λ r. r.trial) r _ m)))
          (λ r m. member_in_order (λ r. r.trial) r _ (map_members (rearranged_row (inverse order)) _ _ (λ q. member_in_order (λ r. r.trial) q _) r (rw all m)))

-- ---- the record of each number

pub numbers_rearranged : (order : ℕ) (a : Archive) (n : ℕ) → held n (held_trials (rearranged_archive order a)) ≡ held n (held_trials a)
numbers_rearranged order a n =
    ap (held n) (trials_rearranged order a)
    ∙ in_order_held n (map (rearranged_trial order) (held_trials a))
    ∙ held_rearranged order n (held_trials a)

module _ (order : ℕ) (known : order < 6) where
  -- Zeros rearranged are zeros.
  none_rearranged : rearranged_row order (row_of 0 []) ≡ row_of 0 []
  unfolding row_of rearranged_row rearranged_trial along place_of
  none_rearranged =
      ap (λ p. record { trial = record { number = 0; x = along p x; y = along p y; z = along p z }; kept = 0 })
      (rearranged_map order known (λ k. 0) none refl
      ∙ ap (map (λ k. 0)) (three_of 0 (rearranged order none) (length_rearranged order known none refl)))
    where
      none : List ℕ
      none = 0 ∷ 0 ∷ 0 ∷ []

  pub row_rearranged : (a : Archive) → Sound a → (n : ℕ) → row_of n (rearranged_archive order a).rows ≡ rearranged_row order (row_of n a.rows)
  unfolding rearranged_archive rearranged_row rearranged_trial
  row_rearranged a s n = go (held n (held_trials a)) refl
    where
      go : (b : Bool) → held n (held_trials a) ≡ b → row_of n (rearranged_archive order a).rows ≡ rearranged_row order (row_of n a.rows)
      go true h =
          let found = split n a.rows h s.apart in
          ap (λ k. row_of k (rearranged_archive order a).rows) (sym found.number)
          ∙ row_of_member (rearranged_archive order a).rows (rearranged_sound order known a s).apart (rearranged_row order (row_of n a.rows))
          (member_in_order (λ r. r.trial) _ _ (Memᴰ.map (rearranged_row order) found.member))
      go false h =
          row_of_none n (rearranged_archive order a).rows (numbers_rearranged order a n ∙ h)
          ∙ sym none_rearranged
          ∙ ap (rearranged_row order) (sym (row_of_none n a.rows h))
