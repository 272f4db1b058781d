-- A report can be read back: equal reports are reports of equal archives, apart from the capacity.
use Prim.Native.Nat.{ℕ, ◌^◌, ◌≤◌, ◌<◌}
use mathlib.Core.Path.{◌≡◌, refl, sym, ap, ◌∙◌}
use mathlib.Core.Bool.{true}
use mathlib.Core.List.{List, ◌∷◌, ◌++◌, append_assoc, []}
use native.Mathlib.Omega.{arith}
use native.Mathlib.Nat.{le_trans, lt_of_le_of_lt}
use lib.Dec.{lit≤, lit<}
use lib.ListN.{length, take, drop}
use lib.Seq.{take_at, drop_at}
use Rattle.slices.proofs.Choices.{both_true}
use Rattle.text.specs.Justified.{justified}
use Rattle.text.proofs.Justified.{length_justified, justified_injective}
use Rattle.words.specs.Archive.{Row, Shape, Archive}
use Rattle.words.specs.Layout.{read}
use Rattle.words.specs.Format.{archive_rows, rows_allowed}
use Rattle.words.proofs.Passed.{passed, Sound, ShapeBounds, shape_bounds, RowBounds, row_bounds, box_bound, coordinates_small}
use Rattle.printing.specs.Texts.{lines_of}
use Rattle.reports.specs.Report.{report_line, head_line, record_line, report_text}
use Rattle.reports.specs.Theorems.{ReportedAlike}

-- A column, and what is behind it.
column_read : (width m n : ℕ) {p q : List ℕ} → 1 ≤ width → m < 10 ^ width → n < 10 ^ width
    → justified width m ++ p ≡ justified width n ++ q → (m ≡ n) × (p ≡ q)
column_read width m n {p} {q} wide a b e =
    let front : justified width m ≡ justified width n =
    sym (take_at (justified width m) p width (length_justified width m)) ∙ ap (take width) e ∙ take_at (justified width n) q width (length_justified width n) in
    let behind : p ≡ q =
    sym (drop_at (justified width m) p width (length_justified width m)) ∙ ap (drop width) e ∙ drop_at (justified width n) q width (length_justified width n) in
    (justified_injective width m n wide a b front, behind)

-- Numbers that fit a line of the report.
record LineFits (a b c d e : ℕ) : Type 0 where
  first : a < 10 ^ 8
  second : b < 10 ^ 8
  third : c < 10 ^ 8
  fourth : d < 10 ^ 8
  last : e < 10 ^ 20

-- A line, and what is behind it.
line_back : {a b c d e a' b' c' d' e' : ℕ} {p q : List ℕ} → LineFits a b c d e → LineFits a' b' c' d' e'
    → report_line a b c d e ++ p ≡ report_line a' b' c' d' e' ++ q
    → (a ≡ a') × (b ≡ b') × (c ≡ c') × (d ≡ d') × (e ≡ e') × (p ≡ q)
unfolding report_line
line_back {a} {b} {c} {d} {e} {a'} {b'} {c'} {d'} {e'} {p} {q} s t same =
    let first = column_read 8 a a' (lit≤ tt) s.first t.first (simp append_assoc at same) in
    let second = column_read 8 b b' (lit≤ tt) s.second t.second first.1 in
    let third = column_read 8 c c' (lit≤ tt) s.third t.third second.1 in
    let fourth = column_read 8 d d' (lit≤ tt) s.fourth t.fourth third.1 in
    let last = column_read 20 e e' (lit≤ tt) s.last t.last fourth.1 in
    (first.0, second.0, third.0, fourth.0, last.0, ap (drop 1) last.1)

row_shown : (s : Shape) → ShapeBounds s → (r : Row) → RowBounds s r
    → LineFits r.trial.number r.trial.x r.trial.y r.trial.z r.kept
row_shown s b r h =
    let kept : r.kept ≤ 2 ^ 60 = le_trans h.kept_high (box_bound s b) in
    let small = coordinates_small r.trial h.coordinates in
    record { first = omega arith; second = omega (arith, small 0); third = omega (arith, small 1); fourth = omega (arith, small 2); last = lt_of_le_of_lt kept (lit< tt) }

head_shown : (a : Archive) → Sound a → LineFits (length a.rows) a.shape.rx a.shape.ry a.shape.rz a.sum
head_shown a s =
    let b : ShapeBounds a.shape = shape_bounds a.shape s.shaped in
    let held : length a.rows ≤ a.shape.capacity = s.held_within in
    let sum : a.sum ≤ 2 ^ 60 = le_trans s.within_box (box_bound a.shape b) in
    record { first = omega arith; second = omega (arith, b.reference_high 0); third = omega (arith, b.reference_high 1); fourth = omega (arith, b.reference_high 2); last = lt_of_le_of_lt sum (lit< tt) }

rows_back : (s t : Shape) → ShapeBounds s → ShapeBounds t → (rows others : List Row) → length rows ≡ length others
    → rows_allowed s rows ≡ true → rows_allowed t others ≡ true → lines_of record_line rows ≡ lines_of record_line others → rows ≡ others
unfolding rows_allowed lines_of record_line
rows_back s t b c [] [] long p q e = refl
rows_back s t b c [] (r ∷ others) long p q e = absurd (let no' : ⊥ = omega arith in no')
rows_back s t b c (r ∷ rows) [] long p q e = absurd (let no' : ⊥ = omega arith in no')
rows_back s t b c (r ∷ rows) (u ∷ others) long p q e =
    let here = both_true _ _ p in
    let there = both_true _ _ q in
    let back = line_back (row_shown s b r (row_bounds s r here.0)) (row_shown t c u (row_bounds t u there.0)) e in
    let more : rows ≡ others = rows_back s t b c rows others (omega arith) here.1 there.1 back.5 in
    λ i. record {
      trial = record { number = back.0 i; x = back.1 i; y = back.2 i; z = back.3 i };
      kept = back.4 i;
    } ∷ more i

alike : (a b : Archive) → Sound a → Sound b → report_text a ≡ report_text b → ReportedAlike a b
unfolding report_text head_line
alike a b s t e =
    let back = line_back (head_shown a s) (head_shown b t) e in
    record {
      count = back.0;
      reference = λ i. back.1 i ∷ back.2 i ∷ back.3 i ∷ [];
      total = back.4;
      records =
          rows_back a.shape b.shape (shape_bounds a.shape s.shaped) (shape_bounds b.shape t.shaped) a.rows b.rows
          back.0 s.rows_fit t.rows_fit back.5;
    }

pub read_back : (v w : List ℕ) → archive_rows v 0 ≡ 0 → archive_rows w 0 ≡ 0 → report_text (read v) ≡ report_text (read w)
    → ReportedAlike (read v) (read w)
read_back v w p q = alike (read v) (read w) (passed v p).sound (passed w q).sound
