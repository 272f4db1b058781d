-- The drops of a reduction on a counted archive: each takes a least contributor, the archive stays sound and counted
-- and holds one record fewer, and the total falls by the contribution that is noted.
use Prim.Native.Nat.{ℕ, zero, suc, ◌+◌, ◌*◌, ◌≤◌, ◌<◌}
use mathlib.Core.Path.{◌≡◌, refl, sym, ap, ◌∙◌}
use mathlib.Core.Bool.{true}
use mathlib.Core.List.Memᴰ
use native.Mathlib.Omega.{arith}
use lib.ListN.{length, length-map}
use borrow.Author.Tests.{ltb-false}
use Rattle.words.specs.Archive.{Row, Archive, trials}
use Rattle.words.specs.Format.{held}
use Rattle.words.proofs.Passed.{Sound}
use Rattle.calls.specs.Calls.{held_trials, row_of, others, without, removal_loss, raised, removed, least_row, dropped, note, after_drops, notes}
use Rattle.calls.specs.Counted.{IsCounted}
use Rattle.calls.specs.Drops.{LeastHeld, Drops, none, noted_sum}
use Rattle.calls.proofs.Members.{split}
use Rattle.calls.proofs.Order.{held_of}
use Rattle.calls.proofs.Counted.{removed_counted, total_removed, loss_kept, remove_fits}
use Rattle.calls.proofs.Sound.{removed_sound}
use Rattle.calls.proofs.Ranking.{Leads, less, ties, least_row_is, row_of_member, lowest_first, highest_first}

-- The number of the record that goes.
abbrev pub leaving : (rule : ℕ) → Archive → ℕ
leaving rule a = (least_row rule a.rows).trial.number

pub record DropKeeps (rule : ℕ) (a : Archive) : Type 0 where
  pub known : held (leaving rule a) (held_trials a) ≡ true
  pub sound : Sound (dropped rule a)
  pub counted : IsCounted (dropped rule a)
  pub count : length a.rows ≡ suc (length (dropped rule a).rows)
  pub sum : a.sum ≡ (dropped rule a).sum + (least_row rule a.rows).kept

pub drop_keeps : (rule : ℕ) (a : Archive) → Sound a → IsCounted a → 0 < length a.rows → DropKeeps rule a
unfolding dropped removed trials
drop_keeps rule a s h l =
    let least = least_row_is rule a.rows l in
    let known : held (leaving rule a) (held_trials a) ≡ true =
    held_of (least_row rule a.rows).trial (held_trials a) (Memᴰ.map (λ r. r.trial) least.member) in
    let parts = split (leaving rule a) a.rows known s.apart in
    let noted : (least_row rule a.rows).kept ≡ removal_loss a (leaving rule a) =
    ap (λ r. r.kept) (sym (row_of_member a.rows s.apart (least_row rule a.rows) least.member))
    ∙ loss_kept a (leaving rule a) h parts in
    let was = h.sum in
    let now = total_removed a (leaving rule a) parts in
    record {
      known = known;
      sound = removed_sound a (leaving rule a) s (record { known = known; fits = remove_fits a (leaving rule a) h parts });
      counted = removed_counted a (leaving rule a) h parts;
      count =
          parts.count
          ∙ ap suc (sym (length-map (others (leaving rule a) a.rows) (raised (without a (leaving rule a)) (row_of (leaving rule a) a.rows).trial)));
      sum = rw noted (omega arith);
    }

-- The least contributor by a rule, in plain terms.
pub least_held : (rule : ℕ) (a : Archive) → IsCounted a → 0 < length a.rows → LeastHeld rule a (least_row rule a.rows)
least_held rule a h l =
    let is = least_row_is rule a.rows l in
    record {
      counted = h;
      member = is.member;
      least = λ s m. low s (is.leads s m);
      lowest = λ e s m f. not_lower e s (is.leads s m) f;
      highest = λ e s m f. not_higher e s (is.leads s m) f;
    }
  where
    low : (s : Row) → Leads rule (least_row rule a.rows) s → (least_row rule a.rows).kept ≤ s.kept
    low s (less k) = omega arith
    low s (ties k n) = omega arith

    not_lower : rule ≡ 0 → (s : Row) → Leads rule (least_row rule a.rows) s → s.kept ≡ (least_row rule a.rows).kept → (least_row rule a.rows).trial.number ≤ s.trial.number
    not_lower e s (less k) f = absurd (let no' : ⊥ = omega arith in no')
    not_lower e s (ties k n) f = ltb-false s.trial.number (least_row rule a.rows).trial.number (sym (lowest_first rule e s.trial.number (least_row rule a.rows).trial.number) ∙ n)

    not_higher : rule ≡ 1 → (s : Row) → Leads rule (least_row rule a.rows) s → s.kept ≡ (least_row rule a.rows).kept → s.trial.number ≤ (least_row rule a.rows).trial.number
    not_higher e s (less k) f = absurd (let no' : ⊥ = omega arith in no')
    not_higher e s (ties k n) f = ltb-false (least_row rule a.rows).trial.number s.trial.number (sym (highest_first rule (λ z. omega (arith, e, z)) s.trial.number (least_row rule a.rows).trial.number) ∙ n)

-- All the drops of a reduction.
pub record DropsDown (rule n : ℕ) (a : Archive) : Type 0 where
  pub drops : Drops rule a (notes rule n a) (after_drops rule n a)
  pub sound : Sound (after_drops rule n a)
  pub counted : IsCounted (after_drops rule n a)
  pub left : length a.rows ≡ n + length (after_drops rule n a).rows
  pub sum : a.sum ≡ (after_drops rule n a).sum + noted_sum (notes rule n a)
  pub size : length (notes rule n a) ≡ 2 * n

pub drops_down : (rule n : ℕ) (a : Archive) → Sound a → IsCounted a → n ≤ length a.rows → DropsDown rule n a
unfolding after_drops notes note noted_sum dropped
drops_down rule zero a s h l = record { drops = none; sound = s; counted = h; left = omega arith; sum = omega arith; size = refl }
drops_down rule (suc n) a s h l =
    let one = drop_keeps rule a s h (omega arith) in
    let fewer : length a.rows ≡ suc (length (dropped rule a).rows) = one.count in
    let falls : a.sum ≡ (dropped rule a).sum + (least_row rule a.rows).kept = one.sum in
    let later = drops_down rule n (dropped rule a) one.sound one.counted (omega arith) in
    let left : length (dropped rule a).rows ≡ n + length (after_drops rule n (dropped rule a)).rows = later.left in
    let sum : (dropped rule a).sum ≡ (after_drops rule n (dropped rule a)).sum + noted_sum (notes rule n (dropped rule a)) = later.sum in
    let size : length (notes rule n (dropped rule a)) ≡ 2 * n = later.size in
    record {
      drops = Drops.drop (least_row rule a.rows) (least_held rule a h (omega arith)) later.drops;
      sound = later.sound;
      counted = later.counted;
      left = omega arith;
      sum = omega arith;
      size = omega arith;
    }
