-- Laws of what a program prints of a card.
use Prim.Native.Nat.{ℕ, zero, suc, ◌+◌, ◌*◌, ◌≤◌}
use mathlib.Core.Path.{◌≡◌, refl, sym, ap, ◌∙◌}
use mathlib.Core.List.{List, append_assoc}
use native.Mathlib.Nat.{mul-le-mul_left}
use native.Mathlib.Omega.{arith}
use lib.ListN.{length, take, drop, set, replicate, length-append, length-take, length-replicate}
use Rattle.std.proofs.Math.Seq.{take-append_seam}
use Rattle.std.specs.Prelude.{Result, Ok, Err, IsOk}
use Rattle.slices.specs.Put.{put}
use Rattle.slices.proofs.Put.{put_front}
use Rattle.text.specs.Lines.{newline}
use Rattle.text.specs.Justified.{justified}
use Rattle.text.proofs.Justified.{length_justified}
use Rattle.words.specs.Archive.{Archive}
use Rattle.words.specs.Layout.{word, extent, read}
use Rattle.words.proofs.Reading.{read_layout}
use Rattle.refusals.specs.declared.Refusal.{Refusal}
use Rattle.refusals.proofs.Table.{number_positive}
use Rattle.calls.specs.declared.Answer.{Answer}
use Rattle.calls.specs.Outcomes.{answer_of as answered}
use Rattle.calls.proofs.Known.{known}
use Rattle.card.specs.declared.Loaded.{Loaded}
use Rattle.card.specs.Card.{lines, Loading, load, ReadInto}
use Rattle.card.specs.Verdict.{Verdict, refusal, archive, judge, answer_of, words_of, carried_out}
use Rattle.card.proofs.Judging.{loads}
use Rattle.card.proofs.Verdicts as verdicts
use Rattle.card.proofs.Theorems as cards
use Rattle.card.proofs.Theorems.{not_zero, cards_load}
use Rattle.printing.specs.Printed.{refusal_line, shown, loaded, printed, Prints, PrintRoom, PrintsRead, Printing}
use Rattle.printing.specs.Forms.{text_of}
use Rattle.printing.specs.Cards.{LoadRoom, LoadsRead}
use Rattle.printing.proofs.Laid.{Laid, laid_column, laid_byte}
use Rattle.printing.proofs.Texts.{Told, text_done}

length_refusal_line : (n line : ℕ) → length (refusal_line n line) ≡ 17
unfolding refusal_line
length_refusal_line n line = simp (length-append, length_justified)

-- The line of a refused card, written column by column.
pub put_refusal : (out : List ℕ) (n line : ℕ) {o₁ o₂ : List ℕ} → 17 ≤ length out → length o₂ ≡ length out
    → o₁ ≡ put out 0 (justified 8 n) → o₂ ≡ put o₁ 8 (justified 8 line) → set o₂ 16 newline ≡ put out 0 (refusal_line n line)
unfolding refusal_line
put_refusal out n line {o₁} {o₂} room same e₁ e₂ =
    let one : Laid out 0 (justified 8 n) 8 o₁ = record { long = length_justified 8 n; is = e₁ } in
    let two = laid_column one (omega arith) 8 line e₂ in
    (laid_byte two (omega arith) newline (omega arith)).is ∙ simp append_assoc

-- A program that prints this text of an archive.
module _ (text : Archive → List ℕ) where
  enough_read : (card : List ℕ) (k : ℕ) → 33 * 514 ≤ k → printed text (take k card) ≡ printed text card
  unfolding printed loaded
  enough_read card k l = ap (λ x. shown text x.answer.refusal x) (cards.enough_read (replicate (extent 512) 0) card k l)

  -- What is shown does not depend on what the slice held.
  shown_alike : (before other : List ℕ) (v : Verdict) → verdicts.Possible v
      → shown text (carried_out before v).answer.refusal (carried_out before v) ≡ shown text (carried_out other v).answer.refusal (carried_out other v)
  unfolding carried_out answer_of words_of shown
  shown_alike before other (refusal zero line) (verdicts.refused d) = absurd (not_zero d refl)
  shown_alike before other (refusal (suc n) line) (verdicts.refused d) = refl
  shown_alike before other (archive a) (verdicts.accepted f) =
      ap text (read_layout a (drop (extent a.shape.capacity) before) ∙ sym (read_layout a (drop (extent a.shape.capacity) other)))

  shown_refused : (k : ℕ) (l : Loading) → (k ≡ 0 → ⊥) → shown text k l ≡ refusal_line k l.answer.line
  unfolding shown
  shown_refused zero l other = absurd (other refl)
  shown_refused (suc k) l other = refl

  -- Of a card that is longer than the input, the part read decides.
  part_decides : (input : List ℕ) (k : ℕ) {bytes : List ℕ} → 33 * 514 ≤ length input → printed text (take k input) ≡ bytes
      → (card : List ℕ) → take (length input) card ≡ take k input → printed text card ≡ bytes
  part_decides input k room e card begins = sym (enough_read card (length input) room) ∙ ap (printed text) begins ∙ e

  -- The part of the output that is written out.
  prints_read : (input : List ℕ) (read : ℕ) (out bytes : List ℕ) {after : List ℕ} (k : ℕ)
      → ((card : List ℕ) → take (length input) card ≡ take read input → printed text card ≡ bytes)
      → after ≡ put out 0 bytes → k ≡ length bytes → PrintsRead text input read out k after
  prints_read input read out bytes {after} k all whole long =
      let within : k ≤ length after = omega (arith, ap length (whole ∙ put_front out bytes), length-append bytes (drop (length bytes) out)) in
      let part : k ≡ length (take k after) = omega (arith, length-take k after) in
      record {
        whole = λ card begins. record { text_put = rw (all card begins) whole; long = rw (all card begins) long; within = within; part = part };
        within = within;
        part = part;
      }

  -- A card read into words of its own, p, that are enough for every capacity.
  module _ (p card : List ℕ) (sized : length p ≡ 2568) {r : Loaded} {after : List ℕ} (into : ReadInto (load p card) r after) where
    printed_by : printed text card ≡ shown text r.refusal (load p card)
    unfolding printed loaded extent
    printed_by =
        let zeros : List ℕ = replicate 2568 0 in
        let v : Verdict = judge 2568 (lines card) in
        let in-zeros : load zeros card ≡ carried_out zeros v =
        loads zeros card ∙ ap (λ n. carried_out zeros (judge n (lines card))) (length-replicate {A = ℕ} 2568 0) in
        let in_p : load p card ≡ carried_out p v = loads p card ∙ ap (λ n. carried_out p (judge n (lines card))) sized in
        let alike : printed text card ≡ shown text (load p card).answer.refusal (load p card) =
        (rw (in-zeros, in_p) (shown_alike zeros p v (verdicts.possible 2568 (lines card)))) in
        alike ∙ ap (λ x. shown text x.refusal (load p card)) (sym into.answer)

    shown_line : (r.refusal ≡ 0 → ⊥) → printed text card ≡ refusal_line r.refusal r.line
    shown_line other =
        printed_by ∙ shown_refused r.refusal (load p card) other ∙ ap (λ x. refusal_line r.refusal x.line) (sym into.answer)

    shown_text : r.refusal ≡ 0 → printed text card ≡ text (read after)
    unfolding shown
    shown_text none = printed_by ∙ ap (λ k. shown text k (load p card)) none ∙ ap (λ w. text (read w)) (sym (into.words none))

-- The two ends of a loading: the line of a refused card, and the words of an accepted one.
module _ {input : List ℕ} {read-bytes : ℕ} {p out : List ℕ} (room : LoadRoom input read-bytes p out) {r : Loaded} {words : List ℕ}
    (into : ReadInto (load p (take read-bytes input)) r words) where
  pub load_refused : {after : List ℕ} → (r.refusal ≡ 0 → ⊥) → after ≡ put out 0 (refusal_line r.refusal r.line)
      → LoadsRead input read-bytes out 17 words after
  load_refused other e =
      record {
        accepted = λ none. absurd (let no : ⊥ = omega arith in no);
        refused = λ _ text.
            prints_read text input read-bytes out _ 17 (part_decides text input read-bytes room.lines (shown_line text p _ room.enough into other))
            e (sym (length_refusal_line r.refusal r.line));
      }

  pub load_accepted : r.refusal ≡ 0 → LoadsRead input read-bytes out 0 words out
  load_accepted none =
      record {
        accepted = λ _. (
          record {
            passes = rw (into.words none) ((cards_load p (take read-bytes input)).accepted (ap (λ x. x.refusal) (sym into.answer) ∙ none)).passes;
            prints = λ text. part_decides text input read-bytes room.lines (shown_text text p _ room.enough into none);
          },
          refl,
        );
        refused = λ some. absurd (some refl);
      }

-- A program's text, written behind a loading that accepted the card.
pub print_text : (text : Archive → List ℕ) {input : List ℕ} {read-bytes : ℕ} {out : List ℕ} {r : ℕ} {words out₁ after : List ℕ} (k : ℕ)
    → LoadsRead input read-bytes out r words out₁ → r ≡ 0 → after ≡ put out₁ 0 (text (read words)) → k ≡ length (text (read words))
    → PrintsRead text input read-bytes out k after
print_text text {input} {read-bytes} {out} k loads none whole long =
    let accepted = loads.accepted none in
    prints_read text input read-bytes out _ k (accepted.0.prints text) (rw accepted.1 at whole) long

-- The same in one of the two forms, which is not refused.
module _ (first wide : ℕ) {input : List ℕ} {read-bytes : ℕ} {out : List ℕ} {r : ℕ} {words out₁ after : List ℕ} {a : Answer}
    (room : PrintRoom (33 + wide) input read-bytes out) (loads : LoadsRead input read-bytes out r words out₁) (none : r ≡ 0)
    (told : Told first wide words out₁ a after) where
  form_done : Told first wide words out₁ (record { refusal = 0; value = length (text_of first wide (read words)) }) (put out₁ 0 (text_of first wide (read words)))
  form_done =
      let accepted = loads.accepted none in
      let few : word words 0 ≤ 512 = (known words accepted.0.passes).few in
      let space : (33 + wide) * 513 ≤ length out₁ = rw accepted.1 room.text in
      let most : (33 + wide) * (word words 0 + 1) ≤ (33 + wide) * 513 = mul-le-mul_left (33 + wide) (omega arith) in
      text_done first wide words out₁ accepted.0.passes (omega arith)

  pub form_answered : a ≡ record { refusal = 0; value = length (text_of first wide (read words)) }
  form_answered = told.0 ∙ sym form_done.0

  pub print_form : PrintsRead (text_of first wide) input read-bytes out a.value after
  print_form = print_text (text_of first wide) a.value loads none (told.1 ∙ sym form_done.1) (ap (λ x. x.value) form_answered)

-- An answer whose refusal is 0 is of a call that was done.
pub done_of : (r : Result ℕ Refusal) {v : ℕ} → answered r ≡ record { refusal = 0; value = v } → IsOk r
done_of (Ok x) e = refl
done_of (Err row) e = absurd (number_positive row (ap (λ x. x.refusal) e))

pub printing : Printing
printing = record { enough_read = enough_read }

-- What is to be written out, the output's front, is what the program prints of the card.
pub printed_front : {text : Archive → List ℕ} {card out : List ℕ} {r : ℕ} {after : List ℕ} → Prints text card out r after → take r after ≡ printed text card
unfolding put
printed_front {text} {card} h = rw (h.long, h.text_put) (take-append_seam (printed text card) _)
