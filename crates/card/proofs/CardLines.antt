-- Laws of the lines of a card: what is left of it from a line on, and the line due.
use Prim.Native.Nat.{ℕ, zero, suc, ◌+◌, ◌-◌, ◌*◌, ◌≤◌, ◌<◌}
use mathlib.Core.Path.{◌≡◌, refl, sym, ap, ◌∙◌}
use mathlib.Core.Bool.{Bool, true, false}
use mathlib.Core.List.{List, ◌∷◌, []}
use mathlib.Core.Option.{Option, none, some}
use native.Mathlib.Omega.{arith}
use lib.Dec.{ltb}
use lib.ListN.{length, take, drop, length-take, length-drop}
use lib.Seq.{drop-drop, take-nil, take-take, get_or-take}
use Rattle.slices.proofs.Put.{drop_take}
use Rattle.slices.specs.Choices.{pick}
use Rattle.hypervolume.proofs.Tests.{Compared, below, above, compared}
use Rattle.text.specs.Fields.{field_from}
use Rattle.text.specs.Lines.{Numbers, line, line_from}
use Rattle.card.specs.Card.{line_count, lines_from, lines, due}

pub lines_none : (bytes : List ℕ) → length bytes ≡ 0 → lines bytes ≡ []
unfolding lines lines_from line_count
lines_none bytes e =
    let none : line_count bytes ≡ 0 = omega arith in
    ap (λ n. lines_from n bytes) none

pub lines_more : (bytes : List ℕ) → 0 < length bytes → lines bytes ≡ line bytes ∷ lines (drop 33 bytes)
unfolding lines lines_from line_count
lines_more bytes l =
    let one : line_count bytes ≡ suc (line_count (drop 33 bytes)) = omega (arith, length-drop 33 bytes) in
    ap (λ n. lines_from n bytes) one

-- The lines from line i on, counted from 0.
lines_left : (card : List ℕ) (i : ℕ) → i < line_count card
    → lines (drop (33 * i) card) ≡ line_from (33 * i) card ∷ lines (drop (33 * (i + 1)) card)
unfolding line_count line_from
lines_left card i l =
    let some : 0 < length (drop (33 * i) card) = omega (arith, length-drop (33 * i) card) in
    let next : 33 * i + 33 ≡ 33 * (i + 1) = omega arith in
    lines_more (drop (33 * i) card) some ∙ ap (λ r. line (drop (33 * i) card) ∷ lines r) (drop-drop 33 (33 * i) card ∙ ap (λ k. drop k card) next)

no_line_left : (card : List ℕ) (i : ℕ) → line_count card ≤ i → lines (drop (33 * i) card) ≡ []
unfolding line_count
no_line_left card i l = lines_none (drop (33 * i) card) (omega (arith, length-drop (33 * i) card))

-- A line that is due.
pub record Inside (card : List ℕ) (line : ℕ) (l : Option Numbers) : Type 0 where
  pub first : 1 ≤ line
  pub last : line ≤ line_count card
  pub is : line_from (33 * (line - 1)) card ≡ l

no_some : {A B : Type 0} {a : A} → ◌≡◌ {A = Option A} (some a) none → B
no_some e = absurd (let z : ◌≡◌ {A = ℕ} 0 1 = cc in omega arith)

pub inside : (card : List ℕ) {line : ℕ} {l : Option Numbers} → some l ≡ due card line → Inside card line l
unfolding due pick
inside card {line} {l} e = go line e
  where
    chosen : (i : ℕ) (t : Bool) → Compared (suc i) (line_count card) t → some l ≡ pick t (some (line_from (33 * i) card)) none
        → Inside card (suc i) l
    chosen i true (below p) e =
        let same : line_from (33 * i) card ≡ l = cc in
        let one : suc i - 1 ≡ i = omega arith in
        record { first = omega arith; last = p; is = rw one same }
    chosen i false (above p) e = no_some e

    go : (line : ℕ) → some l ≡ due card line → Inside card line l
    go zero e = no_some e
    go (suc i) e = chosen i (ltb i (line_count card)) (compared (suc i) (line_count card)) e

-- No line is due behind the last one.
no_line_due : (card : List ℕ) {line : ℕ} → 1 ≤ line → none ≡ due card line → line_count card ≤ line - 1
unfolding due pick
no_line_due card {line} one e = go line one e
  where
    chosen : (i : ℕ) (t : Bool) → Compared (suc i) (line_count card) t → none ≡ pick t (some (line_from (33 * i) card)) none
        → line_count card ≤ suc i - 1
    chosen i true (below p) e = no_some (sym e)
    chosen i false (above p) e = omega arith

    go : (line : ℕ) → 1 ≤ line → none ≡ due card line → line_count card ≤ line - 1
    go zero one e = absurd (let no' : ⊥ = omega arith in no')
    go (suc i) one e = chosen i (ltb i (line_count card)) (compared (suc i) (line_count card)) e

-- The lines from the line due on.
pub lines_due : (card : List ℕ) {line : ℕ} {l : Option Numbers} → Inside card line l
    → lines (drop (33 * (line - 1)) card) ≡ l ∷ lines (drop (33 * line) card)
lines_due card {line} i =
    let first : 1 ≤ line = i.first in
    let last : line ≤ line_count card = i.last in
    let next : line - 1 + 1 ≡ line = omega arith in
    lines_left card (line - 1) (omega arith) ∙ (rw (i.is, next))

pub no_lines_due : (card : List ℕ) {line : ℕ} → 1 ≤ line → none ≡ due card line → lines (drop (33 * (line - 1)) card) ≡ []
no_lines_due card {line} one e = no_line_left card (line - 1) (no_line_due card one e)

-- A card has no more lines than bytes.
pub few_lines : (card : List ℕ) → line_count card ≤ length card
unfolding line_count
few_lines card = omega arith

-- What lies within the first k bytes.
window : (m n k : ℕ) (bytes : List ℕ) → m + n ≤ k → take n (drop m (take k bytes)) ≡ take n (drop m bytes)
window m n k bytes l = ap (take n) (drop_take m k bytes) ∙ take-take n (k - m) (drop m bytes) (omega arith)

-- A line is its first 33 bytes.
line_take : (k : ℕ) (bytes : List ℕ) → 33 ≤ k → line (take k bytes) ≡ line bytes
unfolding line field_from
line_take k bytes l =
    rw (
      get_or-take k bytes 32 0 (omega arith),
      window 0 8 k bytes (omega arith),
      window 8 8 k bytes (omega arith),
      window 16 8 k bytes (omega arith),
      window 24 8 k bytes (omega arith),
    )

-- The first m lines.
pub lines_take : (m : ℕ) (bytes : List ℕ) → lines (take (33 * m) bytes) ≡ take m (lines bytes)
lines_take zero bytes = lines_none [] refl
lines_take (suc m) [] = rw (take-nil (33 * suc m), lines_none [] refl)
lines_take (suc m) (b ∷ bytes) =
    let more : 33 * suc m ≡ 33 + 33 * m = omega arith in
    let rest : 33 + 33 * m - 33 ≡ 33 * m = omega arith in
    let all : List ℕ = b ∷ bytes in
    let long : 0 < length (take (33 + 33 * m) all) = omega (arith, length-take (33 + 33 * m) all) in
    rw (
      more,
      lines_more (take (33 + 33 * m) all) long,
      line_take (33 + 33 * m) all (omega arith),
      drop_take 33 (33 + 33 * m) all,
      rest,
      lines_take m (drop 33 all),
      lines_more all (omega arith),
    )
