-- Laws of texts of an archive: their lines as they are written, one behind the other, and what the call that writes them
-- answers and leaves.
use Prim.Native.Nat.{ℕ, zero, suc, ◌+◌, ◌*◌, ◌≤◌, ◌<◌}
use mathlib.Core.Path.{◌≡◌, refl, sym, ap, ◌∙◌}
use mathlib.Core.Logic.{◌⊎◌, inl, inr}
use mathlib.Core.List.{List, ◌∷◌, ◌++◌, append_assoc, append-nil, []}
use native.Mathlib.Nat.{zero-add, add_assoc, mul-suc, mul-zero, mul-le-mul, mul-le-mul_left}
use native.Mathlib.Numerals.{add-one}
use native.Mathlib.Omega.{arith}
use lib.Dec.{ltb, lit≤}
use lib.ListN.{length, get_or, set, length-append}
use lib.Seq.{get_or-take}
use borrow.Author.Tests.{lt-ltb, le-ltb}
use Rattle.slices.specs.Put.{put}
use Rattle.slices.proofs.Put.{put_none}
use Rattle.text.specs.Lines.{newline}
use Rattle.text.specs.Justified.{digits, justified}
use Rattle.text.proofs.Justified.{length_justified}
use Rattle.words.specs.Archive.{Row, Archive, reference}
use Rattle.words.specs.Layout.{header, word, read, read_shape, read_rows}
use Rattle.words.specs.Format.{guard, archive_rows}
use Rattle.words.specs.Places.{as_trial, row_at, rows_before}
use Rattle.words.proofs.Reading.{header_read}
use Rattle.words.proofs.Passed.{header_facts, unrefused}
use Rattle.words.proofs.Places.{rows_before_more}
use Rattle.calls.specs.declared.Answer.{Answer}
use Rattle.calls.specs.Lent.{answer}
use Rattle.calls.proofs.Known.{count_rows, known}
use Rattle.calls.proofs.Answers.{rows_refused, rows_passed}
use Rattle.printing.specs.Texts.{lines_of, text_rows, output}
use Rattle.printing.specs.Forms.{text_line, text_row, text_of, LastColumn, TextForm, TextRoom}
use Rattle.printing.proofs.Laid.{Laid, laid_more, laid_column, laid_byte}

-- The two forms.
pub card_form : (first : ℕ) → first < 8 → TextForm first 0
card_form first h = record { header = h; column = record { narrow = lit≤ tt; either = inl refl } }

pub report_form : (first : ℕ) → first < 8 → TextForm first 20
report_form first h = record { header = h; column = record { narrow = lit≤ tt; either = inr refl } }

-- A last column of no bytes.
pub no_column : (old : List ℕ) (at wide last : ℕ) → wide ≡ 0 → old ≡ put old at (justified wide last)
unfolding justified digits
no_column old at wide last e = rw e (sym (put_none old at))

-- One of twenty bytes.
pub twenty : {wide : ℕ} → LastColumn wide → (wide ≡ 0 → ⊥) → wide ≡ 20
twenty {wide} l some = go l.either
  where
    go : (wide ≡ 0) ⊎ (wide ≡ 20) → wide ≡ 20
    go (inl e) = absurd (some e)
    go (inr e) = e

pub some_column : (old : List ℕ) (at last : ℕ) {wide : ℕ} {out : List ℕ} → LastColumn wide → (wide ≡ 0 → ⊥) → out ≡ put old at (justified 20 last)
    → out ≡ put old at (justified wide last)
some_column old at last l some e = rw (twenty l some) e

-- Texts with a last column of so many bytes.
module _ (wide : ℕ) where
  length_text_line : (a b c d e : ℕ) → length (text_line wide a b c d e) ≡ 33 + wide
  unfolding text_line
  length_text_line a b c d e = simp (length-append, length_justified) (omega arith)

  -- A line, written column by column.
  pub put_line : (old : List ℕ) (at : ℕ) (r : Row) {o₁ o₂ o₃ o₄ o₅ : List ℕ} → at + 33 + wide ≤ length old → length o₅ ≡ length old
      → o₁ ≡ put old at (justified 8 r.trial.number)
      → o₂ ≡ put o₁ (at + 8) (justified 8 r.trial.x)
      → o₃ ≡ put o₂ (at + 16) (justified 8 r.trial.y)
      → o₄ ≡ put o₃ (at + 24) (justified 8 r.trial.z)
      → o₅ ≡ put o₄ (at + 32) (justified wide r.kept)
      → set o₅ (at + 32 + wide) newline ≡ put old at (text_row wide r)
  unfolding text_row text_line
  put_line old at r {o₁} {o₂} {o₃} {o₄} {o₅} room same e₁ e₂ e₃ e₄ e₅ =
      let one : Laid old at (justified 8 r.trial.number) 8 o₁ = record { long = length_justified 8 r.trial.number; is = e₁ } in
      let two = laid_column one (omega arith) 8 r.trial.x e₂ in
      let three = laid_column two (omega arith) 8 r.trial.y e₃ in
      let four = laid_column three (omega arith) 8 r.trial.z e₄ in
      let five = laid_column four (omega arith) wide r.kept e₅ in
      ap (λ k. set o₅ k newline) (add_assoc at 32 wide) ∙ (laid_byte five (omega arith) newline (omega arith)).is ∙ simp append_assoc

  length_text_row : (r : Row) → length (text_row wide r) ≡ 33 + wide
  unfolding text_row
  length_text_row r = length_text_line _ _ _ _ _

  -- So many bytes for each of one line more.
  line_more : (i : ℕ) → (33 + wide) * (i + 1) ≡ (33 + wide) * i + (33 + wide)
  line_more i = ap (λ k. (33 + wide) * k) (add-one i) ∙ mul-suc (33 + wide) i

  length_rows : (rows : List Row) → length (lines_of (text_row wide) rows) ≡ (33 + wide) * length rows
  unfolding lines_of
  length_rows [] = sym (mul-zero (33 + wide))
  length_rows (r ∷ rows) =
      let here : length (text_row wide r) ≡ 33 + wide = length_text_row r in
      let later : length (lines_of (text_row wide) rows) ≡ (33 + wide) * length rows = length_rows rows in
      length-append (text_row wide r) (lines_of (text_row wide) rows) ∙ (omega (arith, mul-suc (33 + wide) (length rows)))

  rows_snoc : (rows : List Row) (r : Row) → lines_of (text_row wide) (rows ++ (r ∷ [])) ≡ lines_of (text_row wide) rows ++ text_row wide r
  unfolding lines_of
  rows_snoc [] r = append-nil (text_row wide r)
  rows_snoc (q ∷ rows) r =
      ap (λ l. text_row wide q ++ l) (rows_snoc rows r) ∙ sym (append_assoc (text_row wide q) (lines_of (text_row wide) rows) (text_row wide r))

  -- The loop over the n records: the lines of the first i stand behind the first line.
  pub record Listing (w old : List ℕ) (n i : ℕ) (out : List ℕ) : Type 0 where
    pub asked : TextRoom wide w old
    pub all : n ≡ word w 0
    pub upto : i ≤ n
    pub same : length out ≡ length old
    pub written : Laid old (33 + wide) (lines_of (text_row wide) (rows_before w i)) ((33 + wide) * i) out

  pub listing_none : (w old : List ℕ) → TextRoom wide w old → Listing w old (word w 0) 0 old
  unfolding lines_of read_rows
  listing_none w old asked =
      record {
        asked = asked;
        all = refl;
        upto = omega arith;
        same = refl;
        written = record { long = sym (mul-zero (33 + wide)); is = sym (put_none old (33 + wide)) };
      }

  -- Where the next line is written.
  pub record NextLine (i : ℕ) (old : List ℕ) : Type 0 where
    pub after : (33 + wide) * (i + 1) ≡ 33 + wide + (33 + wide) * i
    pub within : (33 + wide) * (i + 1) + 33 + wide ≤ length old

  pub next_line : {w old out : List ℕ} {n i : ℕ} → Listing w old n i out → i < n → NextLine i old
  next_line {w} {old} {n = n} {i = i} l below =
      let all : n ≡ word w 0 = l.all in
      let room : (33 + wide) * (word w 0 + 1) ≤ length old = l.asked.room in
      let more : (33 + wide) * (i + 1) ≡ (33 + wide) * i + (33 + wide) = line_more i in
      let again : (33 + wide) * (i + 1 + 1) ≡ (33 + wide) * (i + 1) + (33 + wide) = line_more (i + 1) in
      let most : (33 + wide) * (i + 1 + 1) ≤ (33 + wide) * (word w 0 + 1) = mul-le-mul_left (33 + wide) (omega arith) in
      record { after = omega arith; within = omega arith }

  pub listing_more : {w old out out' : List ℕ} {n i : ℕ} {r : Row} → Listing w old n i out → i < n → r ≡ row_at w i
      → length out' ≡ length out → out' ≡ put out ((33 + wide) * (i + 1)) (text_row wide r) → Listing w old n (i + 1) out'
  listing_more {w} {old} {out} {out'} {n} {i} {r} l below same_row same e =
      let next : NextLine i old = next_line l below in
      let place : (33 + wide) * (i + 1) ≡ 33 + wide + (33 + wide) * i = next.after in
      let within : (33 + wide) * (i + 1) + 33 + wide ≤ length old = next.within in
      let rows : lines_of (text_row wide) (rows_before w (i + 1)) ≡ lines_of (text_row wide) (rows_before w i) ++ text_row wide r =
      (rw (rows_before_more w i, ← same_row) (rows_snoc (rows_before w i) r)) in
      let one : Laid old (33 + wide) (lines_of (text_row wide) (rows_before w i) ++ text_row wide r) ((33 + wide) * i + (33 + wide)) out' =
      laid_more l.written (omega arith) (text_row wide r) (33 + wide) (length_text_row r) (e ∙ ap (λ k. put out k (text_row wide r)) place) in
      record {
        asked = l.asked;
        all = l.all;
        upto = omega arith;
        same = same ∙ l.same;
        written = rw (line_more i, rows) one;
      }

  pub listing_end : {w old out : List ℕ} {n i : ℕ} → Listing w old n i out → n ≤ i → out ≡ put old (33 + wide) (lines_of (text_row wide) (read w).rows)
  unfolding read
  listing_end {w} {old} {out} {n} {i} l done =
      let upto : i ≤ n = l.upto in
      let all : i ≡ n = omega arith in
      rw (← l.all, ← all) l.written.is

-- A text: what the call that writes it has to answer, and to leave in the output.
module _ (first wide : ℕ) where
  abbrev pub Told : List ℕ → List ℕ → Answer → List ℕ → Type 0
  Told w out r after =
      (r ≡ answer (text_rows (33 + wide) w out) (length (text_of first wide (read w)))) × (after ≡ output (text_rows (33 + wide) w out) (text_of first wide (read w)) out)

  told_refused : (w out : List ℕ) (k : ℕ) → text_rows (33 + wide) w out ≡ k → (k ≡ 0 → ⊥) → Told w out (record { refusal = k; value = 0 }) out
  unfolding answer output
  told_refused w out zero e some = absurd (some refl)
  told_refused w out (suc k) e some = (rw e, rw e)

  pub told_row : (w out : List ℕ) {k : ℕ} → k ≡ archive_rows w 0 → (k ≡ 0 → ⊥) → Told w out (record { refusal = k; value = 0 }) out
  unfolding text_rows
  told_row w out {k} e some = told_refused w out k (rows_refused w k _ e some) some

  -- Row 16, and the text, on words that have passed.
  text_rows_passed : (w out : List ℕ) → archive_rows w 0 ≡ 0 → text_rows (33 + wide) w out ≡ guard (ltb (length out) ((33 + wide) * (word w 0 + 1))) 16 0
  unfolding text_rows
  text_rows_passed w out p = rows_passed w _ p ∙ (rw (count_rows w))

  pub told_short : (w out : List ℕ) → archive_rows w 0 ≡ 0 → length out < (33 + wide) * (word w 0 + 1) → Told w out (record { refusal = 16; value = 0 }) out
  unfolding guard
  told_short w out p short =
      told_refused w out 16 (text_rows_passed w out p ∙ (rw (lt-ltb (length out) ((33 + wide) * (word w 0 + 1)) short))) (λ e. omega arith)

  pub text_done : (w out : List ℕ) → archive_rows w 0 ≡ 0 → (33 + wide) * (word w 0 + 1) ≤ length out
      → Told w out (record { refusal = 0; value = length (text_of first wide (read w)) }) (put out 0 (text_of first wide (read w)))
  unfolding guard answer output
  text_done w out p room =
      let rows : text_rows (33 + wide) w out ≡ 0 = text_rows_passed w out p ∙ (rw (le-ltb (length out) ((33 + wide) * (word w 0 + 1)) room)) in
      (rw rows, rw rows)

  pub length_text : (a : Archive) → length (text_of first wide a) ≡ (33 + wide) * (length a.rows + 1)
  unfolding text_of
  length_text a =
      length-append (text_line wide _ _ _ _ _) (lines_of (text_row wide) a.rows)
      ∙ omega (arith, length_text_line wide (word (header a) first) a.shape.rx a.shape.ry a.shape.rz a.sum, length_rows wide a.rows, line_more wide (length a.rows))

  -- The bytes that are asked for and answered fit a word.
  pub bytes_few : (w : List ℕ) → TextForm first wide → archive_rows w 0 ≡ 0 → (33 + wide) * (word w 0 + 1) ≤ 53 * 513
  bytes_few w f h =
      let narrow : wide ≤ 20 = f.column.narrow in
      let few : word w 0 ≤ 512 = (known w h).few in
      mul-le-mul (let l : 33 + wide ≤ 53 = omega arith in l) (let l : word w 0 + 1 ≤ 513 = omega arith in l)

  -- The header's word, and the reference, as the first line has them.
  header_word : (w : List ℕ) → TextForm first wide → archive_rows w 0 ≡ 0 → word (header (read w)) first ≡ word w first
  header_word w f h =
      let long : 8 + 5 * word w 0 ≤ length w = (known w h).records_long in
      ap (λ l. word l first) (header_read w (omega arith) (header_facts w (unrefused w 0 h).headed).seven) ∙ get_or-take 8 w first 0 f.header

  -- The first line, and the lines of the records behind it.
  pub told_text : (w out p : List ℕ) {out₁ out₂ : List ℕ} → TextForm first wide → archive_rows w 0 ≡ 0 → (33 + wide) * (word w 0 + 1) ≤ length out
      → p ≡ reference (read_shape w)
      → out₁ ≡ put out 0 (text_row wide (record { trial = as_trial (word w first) p; kept = word w 5 }))
      → out₂ ≡ put out₁ (33 + wide) (lines_of (text_row wide) (read w).rows)
      → Told w out (record { refusal = 0; value = (33 + wide) * (word w 0 + 1) }) out₂
  unfolding text_of text_row read
  told_text w out p {out₁} {out₂} f h room is e₁ e₂ =
      let a : Archive = read w in
      let head : List ℕ = text_line wide (word (header a) first) a.shape.rx a.shape.ry a.shape.rz a.sum in
      let lines : List ℕ = lines_of (text_row wide) a.rows in
      let said : head ≡ text_line wide (word w first) (get_or p 0 0) (get_or p 1 0) (get_or p 2 0) (word w 5) = (rw (is, header_word w f h)) in
      let count : length a.rows ≡ word w 0 = count_rows w in
      let all : (33 + wide) * (word w 0 + 1) ≡ (33 + wide) * word w 0 + (33 + wide) = line_more wide (word w 0) in
      let many : length lines ≡ (33 + wide) * word w 0 = length_rows wide a.rows ∙ ap (λ n. (33 + wide) * n) count in
      let one : Laid out 0 head (33 + wide) out₁ = record { long = length_text_line wide _ _ _ _ _; is = rw said e₁ } in
      let both = laid_more one (omega arith) lines ((33 + wide) * word w 0) many (e₂ ∙ ap (λ k. put out₁ k lines) (sym (zero-add (33 + wide)))) in
      let long : length (text_of first wide a) ≡ (33 + wide) * (word w 0 + 1) = length_text a ∙ ap (λ n. (33 + wide) * (n + 1)) count in
      let done = text_done w out h room in
      (rw (← long) done.0, both.is ∙ done.1)
