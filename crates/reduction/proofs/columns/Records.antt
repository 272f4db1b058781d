-- The loop that writes records from their columns.
use Prim.Native.Nat.{ℕ, ◌+◌, ◌*◌, ◌≤◌, ◌<◌}
use mathlib.Core.Path.{◌≡◌, refl, sym, ap, ◌∙◌}
use mathlib.Core.List.{List, []}
use native.Mathlib.Omega.{arith}
use lib.ListN.{length, take, get_or}
use lib.Seq.{take_all, get_or-take}
use Rattle.slices.specs.Put.{put}
use Rattle.slices.proofs.Put.{put_none}
use Rattle.words.specs.Archive.{Row, point}
use Rattle.words.specs.Layout.{record_words, records}
use Rattle.words.specs.Places.{as_trial}
use Rattle.records.proofs.HeldPoints.{points_at}
use Rattle.records.proofs.RowAt.{blank}
use Rattle.records.proofs.Stored.{row_put}
use Rattle.reduction.specs.Columns.{RowsInColumns}
use Rattle.reduction.proofs.columns.Ranking.{number_in, kept_in}

-- A record at its place in the columns.
pub record RowInColumns (r : Row) (number : ℕ) (p : List ℕ) (kept : ℕ) : Type 0 where
  pub number_is : number ≡ r.trial.number
  pub point_is : p ≡ point r.trial
  pub kept_is : kept ≡ r.kept

pub row_in : {rows : List Row} {n : ℕ} {numbers : List ℕ} {coordinates : List (List ℕ)} {kept : List ℕ} (i : ℕ) → RowsInColumns rows n numbers coordinates kept → i < n → RowInColumns (get_or rows i blank) (get_or numbers i 0) (get_or coordinates i []) (get_or kept i 0)
row_in {rows} {n} {numbers} {coordinates} {kept} i h l =
    let many : length rows ≡ n = h.many in
    record {
      number_is = sym (get_or-take n numbers i 0 l) ∙ ap (λ x. get_or x i 0) h.numbered ∙ number_in rows i;
      point_is = sym (get_or-take n coordinates i [] l) ∙ ap (λ x. get_or x i []) h.placed ∙ points_at rows i blank (omega arith);
      kept_is = sym (get_or-take n kept i 0 l) ∙ ap (λ x. get_or x i 0) h.contributed ∙ kept_in rows i;
    }

-- The record of a number, a point and a contribution.
abbrev pub row_from : ℕ → List ℕ → ℕ → Row
row_from number p kept = record { trial = as_trial number p; kept = kept }

row_same : (r : Row) (number : ℕ) (p : List ℕ) (kept : ℕ) → RowInColumns r number p kept → row_from number p kept ≡ r
row_same r number p kept h = rw (h.number_is, h.point_is, h.kept_is)

pub record RecordsPut (old : List ℕ) (n : ℕ) (numbers : List ℕ) (coordinates : List (List ℕ)) (kept : List ℕ) (i : ℕ) (now : List ℕ) : Type 0 where
  pub part : i ≤ n
  pub long : length now ≡ length old
  pub is : (rows : List Row) → RowsInColumns rows n numbers coordinates kept → now ≡ put old 8 (records (take i rows))

pub records_none : (old : List ℕ) (n : ℕ) (numbers : List ℕ) (coordinates : List (List ℕ)) (kept : List ℕ) → RecordsPut old n numbers coordinates kept 0 old
unfolding records
records_none old n numbers coordinates kept = record { part = omega arith; long = refl; is = λ rows h. sym (put_none old 8) }

pub records_more : {old : List ℕ} {n : ℕ} {numbers : List ℕ} {coordinates : List (List ℕ)} {kept : List ℕ} {i : ℕ} {now : List ℕ} (after p : List ℕ) → RecordsPut old n numbers coordinates kept i now → i < n → 8 + 5 * n ≤ length old
    → p ≡ get_or coordinates i [] → after ≡ put now (8 + 5 * i) (record_words (row_from (get_or numbers i 0) p (get_or kept i 0))) → length after ≡ length now
    → RecordsPut old n numbers coordinates kept (i + 1) after
unfolding records
records_more {old} {n} {numbers} {coordinates} {kept} {i} {now} after p h l room ep e same =
    record { part = omega arith; long = same ∙ h.long; is = next }
  where
    next : (rows : List Row) → RowsInColumns rows n numbers coordinates kept → after ≡ put old 8 (records (take (i + 1) rows))
    next rows g =
        let many : length rows ≡ n = g.many in
        let r = get_or rows i blank in
        let words : record_words (row_from (get_or numbers i 0) p (get_or kept i 0)) ≡ record_words r =
        ap record_words (ap (λ x. row_from (get_or numbers i 0) x (get_or kept i 0)) ep ∙ row_same r _ _ _ (row_in i g l)) in
        row_put old now after rows i blank (omega arith) (omega arith) (h.is rows g) (e ∙ ap (put now (8 + 5 * i)) words)

pub records_end : {old : List ℕ} {n : ℕ} {numbers : List ℕ} {coordinates : List (List ℕ)} {kept : List ℕ} {i : ℕ} {now : List ℕ} → RecordsPut old n numbers coordinates kept i now → n ≤ i
    → (rows : List Row) → RowsInColumns rows n numbers coordinates kept → now ≡ put old 8 (records rows)
records_end {old} {n} {numbers} {coordinates} {kept} {i} {now} h l rows g =
    let many : length rows ≡ n = g.many in
    h.is rows g ∙ ap (λ x. put old 8 (records x)) (take_all i rows (omega arith))
