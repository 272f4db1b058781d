-- The theorems of specs/Rearranged: a rearranging that is done, over words.
use Prim.Native.Nat.{ℕ, ◌≤◌}
use mathlib.Core.Path.{◌≡◌, refl, sym, ap, ◌∙◌}
use mathlib.Core.List.{List, ◌++◌}
use lib.ListN.{length, take, drop}
use lib.Seq.{take_at, drop_at}
use Rattle.hypervolume.specs.Cells.{holds}
use Rattle.words.specs.Layout.{word, extent, layout, read_shape, read}
use Rattle.words.specs.Format.{archive_rows}
use Rattle.words.proofs.Reading.{read_layout}
use Rattle.words.proofs.Passed.{Sound, passed, passed_front, sound_passes}
use Rattle.calls.specs.Calls.{row_of}
use Rattle.calls.specs.Counted.{IsCounted}
use Rattle.calls.specs.Lent.{answer, audit}
use Rattle.calls.proofs.Counted.{audited_counted, counted_audited}
use Rattle.calls.proofs.Lent.{leaves_refusal}
use Rattle.history.specs.History.{fresh}
use Rattle.axes.specs.Orders.{inverse}
use Rattle.axes.specs.Rearranging.{rearranged_shape, rearranged_row, rearranged_archive, rearrange}
use Rattle.axes.proofs.Swaps.{inverse_known}
use Rattle.axes.proofs.Arrangements.{point_rearranged}
use Rattle.axes.proofs.Rows.{Rearrangeable, rearrangeable, rearranged_long, done}
use Rattle.any_order.specs.Rearranged.{second_left, Restores, Rearranged, AxesLaws}
use Rattle.any_order.proofs.Sound.{rearranged_sound}
use Rattle.any_order.proofs.Counted.{any_order, total_rearranged, front_rearranged, rearranged_counted, rearranged_fresh}
use Rattle.any_order.proofs.Records.{archive_back, numbers_rearranged, row_rearranged}

-- The words that a call leaves that its rows let pass.
module _ (w : List ℕ) (order : ℕ) (second : List ℕ) (h : Rearrangeable w order (length second)) where
  left : second_left w order second ≡ layout (rearranged_archive order (read w)) ++ drop (extent (word w 1)) second
  left = ap (λ o. o.log) (done w order second h)

  left_front : take (extent (word w 1)) (second_left w order second) ≡ layout (rearranged_archive order (read w))
  left_front = rw left (take_at (layout (rearranged_archive order (read w))) _ (extent (word w 1)) (rearranged_long w order h.passes))

  left_behind : drop (extent (word w 1)) (second_left w order second) ≡ drop (extent (word w 1)) second
  left_behind = rw left (drop_at (layout (rearranged_archive order (read w))) _ (extent (word w 1)) (rearranged_long w order h.passes))

  -- Read again, these words are the archive rearranged, and the inverse order undoes it.
  abbrev v : List ℕ
  v = second_left w order second

  reads : read v ≡ rearranged_archive order (read w)
  reads = ap read left ∙ read_layout (rearranged_archive order (read w)) _

  sound : Sound (read w)
  sound = (passed w h.passes).sound

  passes_still : (rest : ℕ) → archive_rows v rest ≡ rest
  passes_still rest = rw left (sound_passes (rearranged_archive order (read w)) _ rest (rearranged_sound order h.known (read w) sound))

  was_counted : IsCounted (read w)
  was_counted = audited_counted (read w) h.counted

  counted_still : IsCounted (read v)
  counted_still = rw reads (rearranged_counted order h.known (read w) was_counted)

  capacity : word v 1 ≡ word w 1
  unfolding read read_shape rearranged_archive rearranged_shape
  capacity = ap (λ a. a.shape.capacity) reads

module _ (w : List ℕ) (order : ℕ) (second : List ℕ) (h : Rearrangeable w order (length second)) where
  back : (third : List ℕ) → extent (word w 1) ≤ length third → Restores (second_left w order second) order third w
  back third l =
      let again : Rearrangeable (second_left w order second) (inverse order) (length third) =
      record {
        passes = passes_still w order second h 0;
        known = inverse_known order h.known;
        counted = counted_audited _ (counted_still w order second h);
        long = rw (capacity w order second h) l;
      } in
      record {
        done = ap (λ o. o.refusal) (done (second_left w order second) (inverse order) third again);
        words =
            ap (λ n. take (extent n) (second_left (second_left w order second) (inverse order) third)) (sym (capacity w order second h))
            ∙ left_front (second_left w order second) (inverse order) third again
            ∙ ap (λ a. layout (rearranged_archive (inverse order) a)) (reads w order second h)
            ∙ ap layout (archive_back order h.known (read w) (sound w order second h))
            ∙ sym (passed_front w (passed w h.passes));
      }

  rearranged_words : Rearranged w order second (second_left w order second)
  rearranged_words =
      let is = reads w order second h in
      let row = row_rearranged order h.known (read w) (sound w order second h) in
      record {
        source = ap (λ o. o.words) (done w order second h);
        words_behind = left_behind w order second h;
        total = unfold read rearranged_archive in ap (λ a. a.sum) (reads w order second h);
        total_counted = rw is (total_rearranged order h.known (read w));
        front = unfold read rearranged_archive in ap (λ a. a.front) (reads w order second h);
        front_counted = rw is (front_rearranged order h.known (read w));
        numbers = λ n. rw is (numbers_rearranged order (read w) n);
        points = λ n. rw (is, row n) (unfold rearranged_row in point_rearranged order h.known (row_of n (read w).rows).trial);
        contributions = λ n. rw (is, row n) (unfold rearranged_row in refl);
        passes = passes_still w order second h;
        audited = unfold audit answer holds in rw (passes_still w order second h 0, counted_audited (read (second_left w order second)) (counted_still w order second h));
        restores = back;
        whole = left_front w order second h ∙ unfold fresh in ap layout (rearranged_fresh order h.known (read w) (was_counted w order second h));
      }

pub axes_laws : AxesLaws
unfolding rearrange
axes_laws =
    record {
      any_order = any_order;
      rearranges =
          λ w order second e.
          rearranged_words w order second (rearrangeable w order (length second) (sym (leaves_refusal _ _ _ _ _ _) ∙ e));
    }
