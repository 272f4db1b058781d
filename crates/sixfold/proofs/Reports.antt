-- Laws of the six reports: each of the archive rearranged, and written behind those before it.
use Prim.Native.Nat.{ℕ, ◌+◌, ◌-◌, ◌*◌, ◌≤◌, ◌<◌}
use mathlib.Core.Path.{◌≡◌, refl, sym, ap, ◌∙◌}
use mathlib.Core.List.{List, ◌++◌, append-nil, []}
use native.Mathlib.Nat.{zero-add}
use native.Mathlib.Numerals.{add-one}
use native.Mathlib.Omega.{arith}
use lib.ListN.{length, take, drop, length-drop}
use lib.Seq.{length-take-le, drop-drop, drop-length}
use Rattle.slices.specs.Put.{put}
use Rattle.slices.proofs.Put.{put_none, put_front, rest_is}
use Rattle.words.specs.Layout.{word, extent, layout, read_shape, read}
use Rattle.words.specs.Format.{archive_rows}
use Rattle.words.proofs.Reading.{read_layout}
use Rattle.words.proofs.Passed.{shape_bounds, Sound, passed, sound_passes}
use Rattle.calls.specs.declared.Answer.{Answer}
use Rattle.calls.proofs.Known.{known}
use Rattle.printing.proofs.Laid.{Laid, laid_more}
use Rattle.reports.specs.Report.{report_text, report, reported}
use Rattle.reports.proofs.Reporting.{length_report, report_done}
use Rattle.axes.specs.Rearranging.{rearranged_archive}
use Rattle.any_order.proofs.Sound.{rearranged_sound}
use Rattle.sixfold.specs.Six.{report_in, reports_below, six_text}

-- A list in which the part from place `at` to the end was lent, and written at its front.
put_rest : (l : List ℕ) (at : ℕ) (new : List ℕ)
    → take at l ++ (put (take (length l - at) (drop at l)) 0 new ++ drop (length l - at) (drop at l)) ≡ put l at new
unfolding put
put_rest l at new =
    let none : drop (length l - at) (drop at l) ≡ [] = ap (λ k. drop k (drop at l)) (sym (length-drop at l)) ∙ drop-length (drop at l) in
    rw (rest_is at l, none, append-nil, put_front, drop-drop)

-- The archive rearranged is sound again, so its report has at most 513 lines.
module _ (w : List ℕ) (order : ℕ) (passes : archive_rows w 0 ≡ 0) (one : order < 6) where
  sound_again : Sound (rearranged_archive order (read w))
  sound_again = rearranged_sound order one (read w) (known w passes).sound

  pub report_short : length (report_in order (read w)) ≤ 53 * 513
  unfolding report_in
  report_short =
      let held : length (rearranged_archive order (read w)).rows ≤ (rearranged_archive order (read w)).shape.capacity = sound_again.held_within in
      let small : (rearranged_archive order (read w)).shape.capacity ≤ 512 = (shape_bounds _ sound_again.shaped).capacity_high in
      omega (arith, length_report (rearranged_archive order (read w)))

  -- It stands in the second slice, v, and its report is written from byte `at` on.
  module _ (second : List ℕ) {v : List ℕ} (e : v ≡ layout (rearranged_archive order (read w)) ++ drop (extent (word w 1)) second) where
    passes_again : archive_rows v 0 ≡ 0
    passes_again = rw e (sound_passes (rearranged_archive order (read w)) _ 0 sound_again)

    report_of : report_text (read v) ≡ report_in order (read w)
    unfolding report_in
    report_of = ap report_text (ap read e ∙ read_layout (rearranged_archive order (read w)) _)

    module _ (out : List ℕ) (at : ℕ) {part : List ℕ} {r : Answer} (room : at + 53 * 513 ≤ length out)
        (done : (r ≡ report v (take (length out - at) (drop at out))) × (part ≡ reported v (take (length out - at) (drop at out)))) where
      written : (report v (take (length out - at) (drop at out)) ≡ record { refusal = 0; value = length (report_text (read v)) })
          × (reported v (take (length out - at) (drop at out)) ≡ put (take (length out - at) (drop at out)) 0 (report_text (read v)))
      written =
          let long : length (take (length out - at) (drop at out)) ≡ length out - at =
          length-take-le (length out - at) (drop at out) (omega (arith, length-drop at out)) in
          let few : word v 0 ≤ 512 = (known v passes_again).few in
          report_done v (take (length out - at) (drop at out)) passes_again (omega arith)

      pub report_answered : r ≡ record { refusal = 0; value = length (report_in order (read w)) }
      report_answered = done.0 ∙ written.0 ∙ ap (λ text. record { refusal = 0; value = length text }) report_of

      pub report_put : (take at out ++ (part ++ drop (length out - at) (drop at out)) ≡ put out at (report_in order (read w)))
          × (r.value ≡ length (report_in order (read w)))
      report_put =
          let rest : List ℕ = take (length out - at) (drop at out) in
          let text : part ≡ put rest 0 (report_in order (read w)) = done.1 ∙ written.1 ∙ ap (put rest 0) report_of in
          (rw text (put_rest out at (report_in order (read w))), ap (λ a. a.value) report_answered)

-- The loop over the orders: the reports in the orders before this one stand at the front of the output.
pub record Reporting (w second old : List ℕ) (at order : ℕ) (second' out : List ℕ) : Type 0 where
  pub passes : archive_rows w 0 ≡ 0
  pub enough : extent (word w 1) ≤ length second'
  pub room : 318 * 513 ≤ length old
  pub upto : order ≤ 6
  pub same_second : length second' ≡ length second
  pub same : length out ≡ length old
  pub short : at ≤ 53 * 513 * order
  pub written : Laid old 0 (reports_below order (read w)) at out

pub reporting_none : (w second old : List ℕ) → (archive_rows w 0 ≡ 0) × (extent (word w 1) ≤ length second) × (318 * 513 ≤ length old)
    → Reporting w second old 0 0 second old
unfolding reports_below
reporting_none w second old asked =
    record {
      passes = asked.0;
      enough = asked.1;
      room = asked.2;
      upto = omega arith;
      same_second = refl;
      same = refl;
      short = omega arith;
      written = record { long = refl; is = sym (put_none old 0) };
    }

module _ {w second old second' out : List ℕ} {at order : ℕ} (r : Reporting w second old at order second' out) where
  -- The reports up to this one, none longer than the longest.
  pub short_again : {n : ℕ} → order < 6 → n ≡ length (report_in order (read w)) → at + n ≤ 53 * 513 * (order + 1)
  short_again below long =
      let short : at ≤ 53 * 513 * order = r.short in
      omega (arith, report_short w order r.passes below)

  pub reporting_more : {second'' out' : List ℕ} {n : ℕ} → order < 6 → length second'' ≡ length second' → length out' ≡ length out
      → (out' ≡ put out at (report_in order (read w))) × (n ≡ length (report_in order (read w)))
      → Reporting w second old (at + n) (order + 1) second'' out'
  unfolding reports_below
  reporting_more {n = n} below keeps stays done =
      let behind = done.0 ∙ ap (λ k. put out k (report_in order (read w))) (sym (zero-add at)) in
      let enough : extent (word w 1) ≤ length second' = r.enough in
      let room : 318 * 513 ≤ length old = r.room in
      let short : at ≤ 53 * 513 * order = r.short in
      record {
        passes = r.passes;
        enough = omega arith;
        room = room;
        upto = omega arith;
        same_second = keeps ∙ r.same_second;
        same = stays ∙ r.same;
        short = short_again below done.1;
        written = rw (add-one order) (laid_more r.written (omega arith) (report_in order (read w)) n (sym done.1) behind);
      }

  pub reporting_end : 6 ≤ order → (out ≡ put old 0 (six_text (read w))) × (at ≡ length (six_text (read w)))
  unfolding six_text
  reporting_end done =
      let upto : order ≤ 6 = r.upto in
      let all : order ≡ 6 = omega arith in
      (rw (← all) r.written.is, rw (← all) (sym r.written.long))

-- Words that are enough for every capacity are enough for this one.
pub enough_for : (w : List ℕ) {n : ℕ} → archive_rows w 0 ≡ 0 → 2568 ≡ n → extent (word w 1) ≤ n
unfolding extent read_shape
enough_for w passes e =
    let small : word w 1 ≤ 512 = (passed w passes).bounds.capacity_high in
    omega arith
