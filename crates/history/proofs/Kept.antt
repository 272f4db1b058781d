-- Words that hold the fresh archive of a book keep counts on the book's trials.
use Prim.Native.Nat.{ℕ}
use mathlib.Core.Path.{◌≡◌, ap, ◌∙◌}
use mathlib.Core.Bool.{true}
use mathlib.Core.List.Memᴰ
use mathlib.Core.List.{List, Memᴰ}
use Rattle.hypervolume.specs.Cells.{holds}
use Rattle.hypervolume.specs.Counts.{total, contribution, joint, gain}
use Rattle.hypervolume.specs.Front.{front}
use Rattle.hypervolume.proofs.Counting.{SameCover, total_same, joint_same, gain_same}
use Rattle.words.specs.Archive.{Trial, Shape, point, reference, points, trials}
use Rattle.words.specs.Layout.{read}
use Rattle.words.specs.Format.{guard, coordinates_allowed, held, archive_rows}
use Rattle.words.proofs.Reading.{read_layout}
use Rattle.words.proofs.Passed.{sound_passes}
use Rattle.calls.specs.Calls.{held_trials, held_points, row_of, insert_gain, gain_rows, joint_of}
use Rattle.calls.specs.Counted.{IsCounted, counted}
use Rattle.calls.specs.Lent
use Rattle.calls.specs.Lent.{answer}
use Rattle.calls.proofs.Counted.{counted_audited}
use Rattle.calls.proofs.Order.{held_of}
use Rattle.calls.proofs.Ranking.{row_of_member}
use Rattle.history.specs.Book.{Book, counted_contribution}
use Rattle.history.specs.History.{sorted, shape_of_book, fresh_archive, fresh}
use Rattle.history.specs.Kept.{HoldsJust, KeepsCounts}
use Rattle.calls.proofs.InOrder.{in_order_cover, in_order_member, member_in_order}
use Rattle.history.proofs.Fronts.{sorted_front}
use Rattle.history.proofs.Thinning.{book_row, fresh_rows, fresh_count, fresh_counted, fresh_trials}
use Rattle.history.proofs.Steps.{Holds}
use Rattle.history.proofs.Moves.{joint_answers}
use Rattle.history.proofs.EqualTrials.{equal_contribute_0}

module _ (s : Shape) (rest w : List ℕ) (b : Book) (h : Holds s rest b w) where
  reads : read w ≡ fresh_archive b
  unfolding fresh
  reads = rw h.words (read_layout (fresh_archive b) rest)

  passes : (more : ℕ) → archive_rows w more ≡ more
  unfolding fresh
  passes more = rw h.words (sound_passes (fresh_archive b) rest more h.sound)

  -- the record of a survivor
  survivor : (t : Trial) → Memᴰ t b.trials → row_of t.number (read w).rows ≡ book_row b t
  unfolding book_row
  survivor t m =
      rw reads
      (row_of_member (fresh_archive b).rows h.sound.apart (book_row b t)
      (rw (fresh_rows b) (Memᴰ.map (book_row b) (member_in_order (λ t. t) t b.trials m))))

  shape_is : (read w).shape ≡ s
  unfolding fresh_archive counted
  shape_is = rw (reads, h.shape)

  trials_are : held_trials (read w) ≡ sorted b.trials
  trials_are = rw reads (fresh_trials b)

  same_points : SameCover (held_points (read w)) (points b.trials)
  same_points = rw trials_are (in_order_cover b.trials)

  pub holds_just : HoldsJust w s b.trials
  unfolding trials book_row
  holds_just =
      record {
        passes = passes 0;
        shape = shape_is;
        count = rw reads (fresh_count b);
        held = λ t m. ap (λ r. r.trial) (survivor t m);
        no_other = λ r m. in_order_member (λ t. t) r.trial b.trials (rw (← trials_are) (Memᴰ.map (λ q. q.trial) m));
      }

  survivor_held : (t : Trial) → Memᴰ t b.trials → held t.number (held_trials (read w)) ≡ true
  survivor_held t m = rw trials_are (held_of t (sorted b.trials) (member_in_order (λ t. t) t b.trials m))

  total_is : (read w).sum ≡ total (reference s) (points b.trials)
  total_is =
      let kept : IsCounted (read w) = rw reads (fresh_counted b) in
      kept.sum ∙ total_same _ _ _ same_points ∙ ap (λ q. total (reference q) (points b.trials)) shape_is

  front_is : (read w).front ≡ front (points b.trials)
  front_is =
      let kept : IsCounted (read w) = rw reads (fresh_counted b) in
      kept.front ∙ ap (λ ts. front (points ts)) trials_are ∙ sorted_front b.trials

  contribution_is : (t : Trial) → Memᴰ t b.trials
      → (row_of t.number (read w).rows).kept ≡ contribution (reference s) (points b.trials) (point t)
  unfolding book_row counted_contribution shape_of_book points
  contribution_is t m =
      ap (λ r. r.kept) (survivor t m) ∙ ap (λ q. contribution (reference q) (points b.trials) (point t)) h.shape

  joint_is : (t u : Trial) → Memᴰ t b.trials → Memᴰ u b.trials
      → joint_of (read w) t.number u.number ≡ joint (reference s) (points b.trials) (point t) (point u)
  unfolding joint_of book_row
  joint_is t u mt mu =
      rw (survivor t mt, survivor u mu)
      (joint_same _ _ _ (point t) (point u) same_points ∙ ap (λ q. joint (reference q) (points b.trials) (point t) (point u)) shape_is)

  gain_is : (p : Trial) → insert_gain (read w) p ≡ gain (reference s) (points b.trials) (point p)
  unfolding insert_gain
  gain_is p =
      gain_same _ _ _ (point p) same_points ∙ ap (λ q. gain (reference q) (points b.trials) (point p)) shape_is

  gain_passes : (p : Trial) → coordinates_allowed p ≡ true → gain_rows p ≡ 0
  unfolding gain_rows guard
  gain_passes p c = rw c

  pub keeps_counts : KeepsCounts w s b.trials
  keeps_counts =
      record {
        total = total_is;
        front = front_is;
        contribution = contribution_is;
        equal_trials = λ t u mt mu d e. contribution_is t mt ∙ equal_contribute_0 (reference s) t u b.trials mt mu d e;
        joint = λ t u mt mu d.
            joint_answers w passes t.number u.number (survivor_held t mt) (survivor_held u mu) d
            ∙ ap (λ k. record { refusal = 0; value = k }) (joint_is t u mt mu);
        gain = λ p c. unfold Lent.gain_answer answer in rw (passes (gain_rows p), gain_passes p c, gain_is p);
        audit = unfold Lent.audit answer holds in rw (passes 0, reads, counted_audited (fresh_archive b) (fresh_counted b));
      }
