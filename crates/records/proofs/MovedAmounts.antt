-- The archive's moves of contributions as values moved by amounts: what the loops over plain slices compute.
use Prim.Native.Nat.{suc, ◌+◌, ◌-◌}
use mathlib.Core.Path.{◌≡◌, refl, ap}
use mathlib.Core.List.{List, ◌∷◌, [], map}
use lib.Dec.{ltb}
use lib.ListN.{length}
use Rattle.slices.specs.Choices.{either}
use Rattle.slices.specs.Amounts.{moved, some_pair}
use Rattle.hypervolume.specs.Counts.{joint, joints}
use Rattle.words.specs.Archive.{Trial, Row, Archive, point, trials, points}
use Rattle.words.specs.Layout.{record_words}
use Rattle.calls.specs.Calls.{joint_with, lowered, falls_below, raised, exceeds, reference_of, held_points, box_of}
use Rattle.records.specs.Columns.{field_of, column, rekept}
use Rattle.records.specs.Amounts.{shares}

pub length_shares : (a : Archive) (t : Trial) (rows : List Row) → length (shares a t rows) ≡ length rows
unfolding shares
length_shares a t [] = refl
length_shares a t (r ∷ rows) = ap suc (length_shares a t rows)

shares_part : (a : Archive) (t : Trial) (rows : List Row) → map (λ q. joint (reference_of a) (point t ∷ held_points a) (point t) q) (points (trials rows)) ≡ shares a t rows
unfolding shares joint_with trials points
shares_part a t [] = refl
shares_part a t (r ∷ rows) = ap (λ l. joint_with a t r ∷ l) (shares_part a t rows)

pub joints_shares : (a : Archive) (t : Trial) → joints (reference_of a) (held_points a) (point t) ≡ shares a t a.rows
unfolding joints
joints_shares a t = shares_part a t a.rows

pub falls_below_pairs : (a : Archive) (t : Trial) (rows : List Row) → falls_below a t rows ≡ some_pair (λ v m. ltb v m) (column 4 rows) (shares a t rows)
unfolding falls_below some_pair column shares field_of record_words
falls_below_pairs a t [] = refl
falls_below_pairs a t (r ∷ rows) = ap (either (ltb r.kept (joint_with a t r))) (falls_below_pairs a t rows)

pub exceeds_pairs : (a : Archive) (t : Trial) (rows : List Row) → exceeds a t rows ≡ some_pair (λ v m. ltb (box_of a) (v + m)) (column 4 rows) (shares a t rows)
unfolding exceeds some_pair column shares field_of record_words
exceeds_pairs a t [] = refl
exceeds_pairs a t (r ∷ rows) = ap (either (ltb (box_of a) (r.kept + joint_with a t r))) (exceeds_pairs a t rows)

pub lowered_rows : (a : Archive) (t : Trial) (rows : List Row) → rekept rows (moved (λ v m. v - m) (column 4 rows) (shares a t rows)) ≡ map (lowered a t) rows
unfolding rekept moved column shares field_of record_words lowered
lowered_rows a t [] = refl
lowered_rows a t (r ∷ rows) = ap (λ l. lowered a t r ∷ l) (lowered_rows a t rows)

pub raised_rows : (a : Archive) (t : Trial) (rows : List Row) → rekept rows (moved (λ v m. v + m) (column 4 rows) (shares a t rows)) ≡ map (raised a t) rows
unfolding rekept moved column shares field_of record_words raised
raised_rows a t [] = refl
raised_rows a t (r ∷ rows) = ap (λ l. raised a t r ∷ l) (raised_rows a t rows)
