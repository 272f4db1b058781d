-- Rows 1 to 3 and the reading see a slice only through its words before 8 + 5 × capacity: of two slices that agree there,
-- both are refused by the same row, or both hold the same archive.
use Prim.Native.Nat.{ℕ, suc, ◌≤◌, ◌<◌, min}
use mathlib.Core.Path.{◌≡◌, refl, sym, ap, ◌∙◌}
use mathlib.Core.Bool.{Bool, true, false, not}
use mathlib.Core.List.{List, ◌++◌}
use native.Mathlib.Omega.{arith}
use lib.ListN.{length, get_or, take, drop, length-take, take-append-drop}
use lib.Seq.{get_or-take, take_all}
use borrow.Author.Tests.{le-ltb}
use Rattle.hypervolume.proofs.Tests.{by_order}
use Rattle.words.specs.Archive.{Archive}
use Rattle.words.specs.Layout.{extent, layout, word, read_shape, read}
use Rattle.words.specs.Format.{guard, header_allowed, records_allowed, archive_rows}
use Rattle.words.specs.Places.{Headed}
use Rattle.words.proofs.Reading.{read_layout}
use Rattle.words.proofs.Passed.{Sound, passed, passed_front, row_3_decides, sound_passes}
use Rattle.calls.proofs.Answers.{rows_refused}

-- Two slices that agree before a place, and are both that long.
pub record Alike (place : ℕ) (v w : List ℕ) : Type 0 where
  pub long : place ≤ length v
  pub long_too : place ≤ length w
  pub same : take place v ≡ take place w

-- Slices that agree before a place are both that long, or are equal.
pub by_length : {P : Type 0} (place : ℕ) (v w : List ℕ) → take place v ≡ take place w → (Alike place v w → P) → (v ≡ w → P) → P
by_length place v w same long short =
    let sizes : min place (length v) ≡ min place (length w) = sym (length-take place v) ∙ ap length same ∙ length-take place w in
    by_order place (length v)
    (λ l. long (record { long = l; long_too = omega arith; same = same }))
    (λ l. short (sym (take_all place v (omega arith)) ∙ same ∙ take_all place w (omega arith)))

-- Words that rows 1 to 3 refuse, and words that hold an archive.
pub refused_row : (w : List ℕ) (n rest : ℕ) → archive_rows w 0 ≡ suc n → archive_rows w rest ≡ suc n
refused_row w n rest e = rows_refused w (suc n) rest (sym e) (λ z. omega arith)

pub reads : (w b : List ℕ) (a : Archive) → w ≡ layout a ++ b → read w ≡ a
reads w b a e = ap read e ∙ read_layout a b

pub passes : (w b : List ℕ) (a : Archive) → w ≡ layout a ++ b → Sound a → (rest : ℕ) → archive_rows w rest ≡ rest
passes w b a e s rest = ap (λ k. archive_rows k rest) e ∙ sound_passes a b rest s

-- What the calls see of the two.
pub data Seen (v w : List ℕ) : Type 0 where
  turned_down : (n : ℕ) → archive_rows v 0 ≡ suc n → archive_rows w 0 ≡ suc n → Seen v w
  held : (a : Archive) (b c : List ℕ) → Sound a → v ≡ layout a ++ b → w ≡ layout a ++ c → Seen v w

pub alike_word : (v w : List ℕ) → Alike (extent (word v 1)) v w → (i : ℕ) → i < 8 → word v i ≡ word w i
unfolding extent
alike_word v w h i l =
    sym (get_or-take (extent (word v 1)) v i 0 (omega arith))
    ∙ ap (λ k. get_or k i 0) h.same
    ∙ get_or-take (extent (word v 1)) w i 0 (omega arith)

alike_sym : (v w : List ℕ) → Alike (extent (word v 1)) v w → Alike (extent (word w 1)) w v
alike_sym v w h =
    let same : word w 1 ≡ word v 1 = sym (alike_word v w h 1 (omega arith)) in
    rw same (record { long = h.long_too; long_too = h.long; same = sym h.same })

alike_header : (v w : List ℕ) → Alike (extent (word v 1)) v w → header_allowed v ≡ header_allowed w
unfolding header_allowed read_shape
alike_header v w h =
    rw (
      alike_word v w h 0 (omega arith),
      alike_word v w h 1 (omega arith),
      alike_word v w h 2 (omega arith),
      alike_word v w h 3 (omega arith),
      alike_word v w h 4 (omega arith),
      alike_word v w h 5 (omega arith),
      alike_word v w h 6 (omega arith),
      alike_word v w h 7 (omega arith),
    )

-- Where the one passes rows 1 to 3, the other holds the same archive.
alike_held : (v w : List ℕ) → Alike (extent (word v 1)) v w → archive_rows v 0 ≡ 0 → w ≡ layout (read v) ++ drop (extent (word v 1)) w
unfolding read read_shape
alike_held v w h e =
    sym (take-append-drop (extent (word v 1)) w) ∙ ap (λ k. k ++ drop (extent (word v 1)) w) (sym h.same ∙ passed_front v (passed v e))

-- Rows 2 and 3, by the tests that they make.
row_2_given : (w : List ℕ) → 8 ≤ length w → header_allowed w ≡ false → archive_rows w 0 ≡ 2
unfolding archive_rows guard
row_2_given w l e = rw (le-ltb (length w) 8 l, e)

row_3_given : (w : List ℕ) (x : Bool) → Headed w → records_allowed w ≡ x → archive_rows w 0 ≡ guard (not x) 3 0
row_3_given w x h e = row_3_decides w 0 h ∙ ap (λ k. guard (not k) 3 0) e

passing_held : (v w : List ℕ) → Alike (extent (word v 1)) v w → archive_rows v 0 ≡ 0 → Seen v w
passing_held v w h e = let p = passed v e in held (read v) _ _ p.sound p.laid (alike_held v w h e)

seen_sym : (v w : List ℕ) → Seen v w → Seen w v
seen_sym v w (turned_down n e f) = turned_down n f e
seen_sym v w (held a b c s e f) = held a c b s f e

pub seen : (v w : List ℕ) → Alike (extent (word v 1)) v w → Seen v w
unfolding guard extent
seen v w h = go (header_allowed v) refl
  where
    enough : (8 ≤ length v) × (8 ≤ length w)
    enough = (omega (arith, h.long), omega (arith, h.long_too))

    records : Headed v → Headed w → (x y : Bool) → records_allowed v ≡ x → records_allowed w ≡ y → Seen v w
    records hv hw true y e f = passing_held v w h (row_3_given v true hv e)
    records hv hw false true e f = seen_sym w v (passing_held w v (alike_sym v w h) (row_3_given w true hw f))
    records hv hw false false e f = turned_down 2 (row_3_given v false hv e) (row_3_given w false hw f)

    go : (x : Bool) → header_allowed v ≡ x → Seen v w
    go false e =
        turned_down 1 (row_2_given v enough.0 e) (row_2_given w enough.1 (sym (alike_header v w h) ∙ e))
    go true e =
        records (record { allowed = e; whole = h.long })
        (record { allowed = sym (alike_header v w h) ∙ e; whole = rw (← alike_word v w h 1 (omega arith)) h.long_too })
        (records_allowed v) (records_allowed w) refl refl
