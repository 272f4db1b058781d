-- What holds of an archive with its axes in another order (document 02, W-212). Rearranging is the definition that the contract
-- cites, on any slices.
use Rattle.std.specs.Prelude.{ℕ, ◌≤◌, ◌<◌, ◌≡◌, length, take, drop}
use mathlib.Core.List.{List, map, Memᴰ}
use Rattle.hypervolume.specs.Counts
use Rattle.hypervolume.specs.Front
use Rattle.words.specs.Archive.{Archive, point}
use Rattle.words.specs.Layout.{word, extent, read}
use Rattle.words.specs.Format.{archive_rows, held}
use Rattle.calls.specs.Calls.{held_trials, held_points, reference_of, row_of}
use Rattle.calls.specs.Lent.{audit}
use Rattle.history.specs.Book.{Book}
use Rattle.history.specs.History.{fresh}
use Rattle.axes.specs.Orders.{rearranged, inverse}
use Rattle.axes.specs.Rearranging.{rearranged_trial, rearranged_shape, rearrange}

-- The second slice after the call.
abbrev pub second_left : (w : List ℕ) (order : ℕ) (second : List ℕ) → List ℕ
second_left w order second = (rearrange w order second).log

-- A book of the trials that an archive holds, rearranged.
unfoldable pub rearranged_book : (order : ℕ) → Archive → Book
rearranged_book order a =
    record {
      capacity = a.shape.capacity;
      rx = (rearranged_shape order a.shape).rx;
      ry = (rearranged_shape order a.shape).ry;
      rz = (rearranged_shape order a.shape).rz;
      trials = map (rearranged_trial order) (held_trials a);
    }

-- The inverse order, applied to the archive v, is done, and leaves the words before 8 + 5 × capacity that w has.
pub record Restores (v : List ℕ) (order : ℕ) (third w : List ℕ) : Type 0 where
  pub done : (rearrange v (inverse order) third).refusal ≡ 0
  pub words : take (extent (word w 1)) (second_left v (inverse order) third) ≡ take (extent (word w 1)) w

-- A rearranging of w that left v in the second slice.
pub record Rearranged (w : List ℕ) (order : ℕ) (second v : List ℕ) : Type 0 where
  -- the source stays, and so do the second slice's words behind
  pub source : (rearrange w order second).words ≡ w
  pub words_behind : drop (extent (word w 1)) v ≡ drop (extent (word w 1)) second
  -- "Its total equals the old one": the kept one, and the count; and so does the front
  pub total : word v 5 ≡ word w 5
  pub total_counted : Counts.total (reference_of (read v)) (held_points (read v)) ≡ Counts.total (reference_of (read w)) (held_points (read w))
  pub front : word v 6 ≡ word w 6
  pub front_counted : Front.front (held_points (read v)) ≡ Front.front (held_points (read w))
  -- "each trial number keeps its contribution": it is held where it was, with its point rearranged and its contribution
  pub numbers : (n : ℕ) → held n (held_trials (read v)) ≡ held n (held_trials (read w))
  pub points : (n : ℕ) → point (row_of n (read v).rows).trial ≡ rearranged order (point (row_of n (read w).rows).trial)
  pub contributions : (n : ℕ) → (row_of n (read v).rows).kept ≡ (row_of n (read w).rows).kept
  -- it passes rows 1 to 3, whatever rows a call adds, and "its audit says yes"
  pub passes : (rest : ℕ) → archive_rows v rest ≡ rest
  pub audited : audit v ≡ record { refusal = 0; value = 1 }
  -- "applying the inverse order restores the original words"
  pub restores : (third : List ℕ) → extent (word w 1) ≤ length third → Restores v order third w
  -- the whole is the fresh archive of the rearranged trials
  pub whole : take (extent (word w 1)) v ≡ fresh (rearranged_book order (read w))

-- A count of points of three axes, in any order of the axes.
pub record AnyOrder (order : ℕ) (r : List ℕ) (trials : List (List ℕ)) : Type 0 where
  pub total : Counts.total (rearranged order r) (map (rearranged order) trials) ≡ Counts.total r trials
  pub contribution : (t : List ℕ) → length t ≡ 3 → Counts.contribution (rearranged order r) (map (rearranged order) trials) (rearranged order t) ≡ Counts.contribution r trials t
  pub joint : (s t : List ℕ) → length s ≡ 3 → length t ≡ 3 → Counts.joint (rearranged order r) (map (rearranged order) trials) (rearranged order s) (rearranged order t) ≡ Counts.joint r trials s t
  pub gain : (p : List ℕ) → length p ≡ 3 → Counts.gain (rearranged order r) (map (rearranged order) trials) (rearranged order p) ≡ Counts.gain r trials p
  pub front : Front.front (map (rearranged order) trials) ≡ Front.front trials

-- What is proved of the definition besides the contract (proofs/Rearrangings).
pub record AxesLaws : Type 0 where
  pub any_order : (order : ℕ) (r : List ℕ) (trials : List (List ℕ)) → order < 6 → length r ≡ 3 → ((t : List ℕ) → Memᴰ t trials → length t ≡ 3) → AnyOrder order r trials
  pub rearranges : (w : List ℕ) (order : ℕ) (second : List ℕ) → (rearrange w order second).refusal ≡ 0 → Rearranged w order second (second_left w order second)
