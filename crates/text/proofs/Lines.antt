-- Laws of lines: a line of four columns reads back, and every line of the form is the line of its values.
use Prim.Native.Nat.{ℕ, ◌+◌, ◌-◌, ◌^◌, ◌≤◌, ◌<◌}
use mathlib.Core.Path.{◌≡◌, refl, sym, ap, ◌∙◌}
use mathlib.Core.Bool.{Bool, true, false}
use mathlib.Core.List.{List, ◌∷◌, ◌++◌, append_assoc}
use mathlib.Core.Option.{Option, none, some}
use native.Mathlib.Nat.{add-zero}
use native.Mathlib.Decide.{dec_le}
use native.Mathlib.Omega.{arith}
use lib.Dec.{eqb, lit≤}
use lib.ListN.{length, take, drop, get_or, length-append, length-drop, take-append-drop, get_or-eq_default}
use lib.Seq.{drop-drop, get_or-drop, take_at, drop-cons, drop-append-add, get_or-append-add, length-take-le}
use borrow.Author.Tests.{eqb-true, eqb-false, eq-eqb, ne_eqb}
use Rattle.slices.specs.Choices.{pick}
use Rattle.text.specs.Fields.{field_from}
use Rattle.text.specs.Lines.{Numbers, newline, four, line, line_from}
use Rattle.text.specs.Justified.{justified, line_of}
use Rattle.text.proofs.Justified.{length_justified, field_justified, Shown, justified_field}

-- A field from a place of the bytes behind another place.
field_from_drop : (at k : ℕ) (bytes : List ℕ) → field_from k (drop at bytes) ≡ field_from (at + k) bytes
unfolding field_from
field_from_drop at k bytes = rw (drop-drop k at bytes)

-- A line whose byte 10 is in its place, and one where it is not.
line_ended : (bytes : List ℕ) → get_or bytes 32 0 ≡ newline
    → line bytes ≡ four (field_from 0 bytes) (field_from 8 bytes) (field_from 16 bytes) (field_from 24 bytes)
unfolding line pick
line_ended bytes e = rw (eq-eqb (get_or bytes 32 0) 10 e)

line_open : (bytes : List ℕ) → (get_or bytes 32 0 ≡ newline → ⊥) → line bytes ≡ none
unfolding line pick
line_open bytes e = rw (ne_eqb (get_or bytes 32 0) 10 e)

-- The same at a byte of a card, as the code tests it.
pub line_short : (card : List ℕ) (at : ℕ) → length card - at ≤ 32 → none ≡ line_from at card
unfolding line_from
line_short card at short =
    let missing : get_or (drop at card) 32 0 ≡ 0 = get_or-eq_default (drop at card) 0 (rw length-drop short) in
    sym (line_open (drop at card) (λ e. omega arith))

pub line_unended : (card : List ℕ) (at : ℕ) → (get_or card (at + 32) 0 ≡ newline → ⊥) → none ≡ line_from at card
unfolding line_from
line_unended card at other = sym (line_open (drop at card) (λ e. other (sym (get_or-drop at card 32 0) ∙ e)))

pub line_fields : (card : List ℕ) (at : ℕ) {a b c d : Option ℕ} → get_or card (at + 32) 0 ≡ newline
    → a ≡ field_from at card → b ≡ field_from (at + 8) card → c ≡ field_from (at + 16) card → d ≡ field_from (at + 24) card
    → four a b c d ≡ line_from at card
unfolding line_from
line_fields card at end ea eb ec ed =
    let first : field_from 0 (drop at card) ≡ field_from at card = field_from_drop at 0 card ∙ ap (λ k. field_from k card) (add-zero at) in
    rw (ea, eb, ec, ed)
    (sym
    (line_ended (drop at card) (get_or-drop at card 32 0 ∙ end)
    ∙ (rw (first, field_from_drop at 8 card, field_from_drop at 16 card, field_from_drop at 24 card))))

-- Each of the numbers fits a field of eight bytes.
pub record Fitting (v : Numbers) : Type 0 where
  pub first : v.first < 10 ^ 8
  pub second : v.second < 10 ^ 8
  pub third : v.third < 10 ^ 8
  pub fourth : v.fourth < 10 ^ 8

-- What is behind a column of eight bytes.
module _ (n : ℕ) (rest : List ℕ) where
  front_field : n < 10 ^ 8 → field_from 0 (justified 8 n ++ rest) ≡ some n
  unfolding field_from
  front_field fits = rw (take_at (justified 8 n) rest 8 (length_justified 8 n)) (field_justified 8 n (lit≤ tt) fits)

  behind_column : (k : ℕ) → drop (8 + k) (justified 8 n ++ rest) ≡ drop k rest
  behind_column k = rw (length_justified 8 n) at (drop-append-add (justified 8 n) rest k)

  behind_field : (k : ℕ) → field_from (8 + k) (justified 8 n ++ rest) ≡ field_from k rest
  unfolding field_from
  behind_field k = rw (behind_column k)

  behind_byte : (k : ℕ) → get_or (justified 8 n ++ rest) (8 + k) 0 ≡ get_or rest k 0
  behind_byte k = rw (length_justified 8 n) at (get_or-append-add (justified 8 n) rest k 0)

pub length_line_of : (v : Numbers) → length (line_of v) ≡ 33
unfolding line_of
length_line_of v = simp (length-append, length_justified)

line_of_append : (v : Numbers) (rest : List ℕ)
    → line_of v ++ rest
    ≡ justified 8 v.first ++ (justified 8 v.second ++ (justified 8 v.third ++ (justified 8 v.fourth ++ (newline ∷ rest))))
unfolding line_of
line_of_append v rest = simp append_assoc

-- A line of four columns reads back, whatever is behind it.
pub line_line_of : (v : Numbers) (rest : List ℕ) → Fitting v → line (line_of v ++ rest) ≡ some v
unfolding four
line_line_of v rest f =
    let d : List ℕ = justified 8 v.fourth ++ (newline ∷ rest) in
    let c : List ℕ = justified 8 v.third ++ d in
    let b : List ℕ = justified 8 v.second ++ c in
    let a : List ℕ = justified 8 v.first ++ b in
    let first : field_from 0 a ≡ some v.first = front_field v.first b f.first in
    let second : field_from 8 a ≡ some v.second = behind_field v.first b 0 ∙ front_field v.second c f.second in
    let third : field_from 16 a ≡ some v.third =
    behind_field v.first b 8 ∙ behind_field v.second c 0 ∙ front_field v.third d f.third in
    let fourth : field_from 24 a ≡ some v.fourth =
    behind_field v.first b 16
    ∙ behind_field v.second c 8
    ∙ behind_field v.third d 0
    ∙ front_field v.fourth (newline ∷ rest) f.fourth in
    let end : get_or a 32 0 ≡ newline =
    behind_byte v.first b 24
    ∙ behind_byte v.second c 16
    ∙ behind_byte v.third d 8
    ∙ behind_byte v.fourth (newline ∷ rest) 0 in
    rw (line_of_append v rest, line_ended a end, first, second, third, fourth)

-- The other way: what a line of the form consists of.
record Parts (bytes : List ℕ) (v : Numbers) : Type 0 where
  first : field_from 0 bytes ≡ some v.first
  second : field_from 8 bytes ≡ some v.second
  third : field_from 16 bytes ≡ some v.third
  fourth : field_from 24 bytes ≡ some v.fourth
  end : get_or bytes 32 0 ≡ newline

four_parts : (a b c d : Option ℕ) (v : Numbers) → four a b c d ≡ some v
    → (a ≡ some v.first) × (b ≡ some v.second) × (c ≡ some v.third) × (d ≡ some v.fourth)
unfolding four
four_parts none b c d v e = absurd (let z : ◌≡◌ {A = ℕ} 0 1 = cc in omega arith)
four_parts (some a) none c d v e = absurd (let z : ◌≡◌ {A = ℕ} 0 1 = cc in omega arith)
four_parts (some a) (some b) none d v e = absurd (let z : ◌≡◌ {A = ℕ} 0 1 = cc in omega arith)
four_parts (some a) (some b) (some c) none v e = absurd (let z : ◌≡◌ {A = ℕ} 0 1 = cc in omega arith)
four_parts (some a) (some b) (some c) (some d) v e =
    let same : v ≡ record { first = a; second = b; third = c; fourth = d } = cc in
    rw same (refl, refl, refl, refl)

line_parts : (bytes : List ℕ) (v : Numbers) → line bytes ≡ some v → Parts bytes v
line_parts bytes v e = go (eqb (get_or bytes 32 0) newline) refl
  where
    go : (t : Bool) → eqb (get_or bytes 32 0) newline ≡ t → Parts bytes v
    go true e₁ =
        let end : get_or bytes 32 0 ≡ newline = eqb-true (get_or bytes 32 0) newline e₁ in
        let parts = four_parts (field_from 0 bytes) (field_from 8 bytes) (field_from 16 bytes) (field_from 24 bytes) v (sym (line_ended bytes end) ∙ e) in
        record { first = parts.0; second = parts.1; third = parts.2; fourth = parts.3; end = end }
    go false e₁ =
        absurd (let z : ◌≡◌ {A = ℕ} 0 1 = cc (line_open bytes (eqb-false (get_or bytes 32 0) newline e₁)) in omega arith)

ended_long : (bytes : List ℕ) → get_or bytes 32 0 ≡ newline → 33 ≤ length bytes
ended_long bytes end = go (dec_le 33 (length bytes))
  where
    go : Dec (33 ≤ length bytes) → 33 ≤ length bytes
    go (yes long) = long
    go (no short) =
        let missing : get_or bytes 32 0 ≡ 0 = get_or-eq_default bytes 0 (omega arith) in
        absurd (let z : ⊥ = omega arith in z)

-- The bytes from a field of the form on: the column of its value, and what is behind.
record Begun (bytes : List ℕ) (k n : ℕ) : Type 0 where
  column : drop k bytes ≡ justified 8 n ++ drop (k + 8) bytes
  fits : n < 10 ^ 8

begun : (bytes : List ℕ) (k n : ℕ) → k + 8 ≤ length bytes → field_from k bytes ≡ some n → Begun bytes k n
unfolding field_from
begun bytes k n long e =
    let enough : 8 ≤ length (drop k bytes) = rw length-drop (omega arith) in
    let eight : length (take 8 (drop k bytes)) ≡ 8 = length-take-le 8 (drop k bytes) enough in
    let shown : Shown (take 8 (drop k bytes)) n = justified_field (take 8 (drop k bytes)) n e in
    let column : take 8 (drop k bytes) ≡ justified 8 n = shown.column ∙ ap (λ w. justified w n) eight in
    record {
      column = sym (take-append-drop 8 (drop k bytes)) ∙ (rw (column, drop-drop 8 k bytes));
      fits = rw eight at shown.fits;
    }

-- A line of the form, at a byte of a card: it is there whole, it is the line of its values, and each of them fits.
pub record WholeLine (card : List ℕ) (at : ℕ) (v : Numbers) : Type 0 where
  pub long : at + 33 ≤ length card
  pub start : drop at card ≡ line_of v ++ drop (at + 33) card
  pub fitting : Fitting v

pub line_of_line : (card : List ℕ) (at : ℕ) (v : Numbers) → line_from at card ≡ some v → WholeLine card at v
unfolding line_from
line_of_line card at v e =
    let bytes : List ℕ = drop at card in
    let p : Parts bytes v = line_parts bytes v e in
    let long : 33 ≤ length bytes = ended_long bytes p.end in
    let a : Begun bytes 0 v.first = begun bytes 0 v.first (omega arith) p.first in
    let b : Begun bytes 8 v.second = begun bytes 8 v.second (omega arith) p.second in
    let c : Begun bytes 16 v.third = begun bytes 16 v.third (omega arith) p.third in
    let d : Begun bytes 24 v.fourth = begun bytes 24 v.fourth (omega arith) p.fourth in
    let last : drop 32 bytes ≡ newline ∷ drop 33 bytes =
    drop-cons bytes 32 0 (omega arith) ∙ ap (λ x. x ∷ drop 33 bytes) p.end in
    let whole : bytes ≡ line_of v ++ drop 33 bytes =
    a.column ∙ (rw (line_of_append v (drop 33 bytes), b.column, c.column, d.column, last)) in
    record {
      long = omega (arith, length-drop at card);
      start = whole ∙ ap (λ rest. line_of v ++ rest) (drop-drop 33 at card);
      fitting = record { first = a.fits; second = b.fits; third = c.fits; fourth = d.fits };
    }
