-- The ways out of reduce.
use Prim.Native.Nat.{ℕ, ◌-◌}
use mathlib.Core.Path.{◌≡◌, sym, ap, ◌∙◌}
use mathlib.Core.List.{List, ◌++◌}
use lib.ListN.{length, drop}
use Rattle.slices.specs.Put.{put}
use Rattle.slices.proofs.Put.{put_front}
use Rattle.calls.specs.declared.Answer.{Answer}
use Rattle.words.specs.Layout.{word, layout, read, behind}
use Rattle.words.specs.Format.{archive_rows}
use Rattle.calls.specs.Calls.{after_drops, notes, reduce_rows}
use Rattle.calls.specs.Lent.{Outcome, MeetsOutcome, reduce}
use Rattle.calls.proofs.Known.{count_rows}
use Rattle.calls.proofs.Answers.{rows_refused, rows_passed, leaves_refused, leaves_done}

refused_all : (o : Outcome) (w log : List ℕ) (r : ℕ) (answer : Answer) → o ≡ record { refusal = r; value = 0; words = w; log = log } → answer ≡ record { refusal = r; value = 0 } → MeetsOutcome o answer w log
refused_all o w log r answer e is =
    record {
      answered = is ∙ ap (λ (x : Outcome). record { refusal = x.refusal; value = x.value }) (sym e);
      left = ap (λ (x : Outcome). x.words) (sym e);
      noted = ap (λ (x : Outcome). x.log) (sym e);
    }

pub reduce_refused : (w log : List ℕ) (k rule r : ℕ) (answer : Answer) → r ≡ archive_rows w 0 → (r ≡ 0 → ⊥) → answer ≡ record { refusal = r; value = 0 } → MeetsOutcome (reduce w k rule log) answer w log
unfolding reduce
reduce_refused w log k rule r answer e f =
    refused_all (reduce w k rule log) w log r answer (leaves_refused w log _ r _ _ _ (rows_refused w r (reduce_rows (read w) k rule (length log)) e f) f)

pub reduce_turned : (w log : List ℕ) (k rule r : ℕ) (answer : Answer) → archive_rows w 0 ≡ 0 → r ≡ reduce_rows (read w) k rule (length log) → (r ≡ 0 → ⊥) → answer ≡ record { refusal = r; value = 0 } → MeetsOutcome (reduce w k rule log) answer w log
unfolding reduce
reduce_turned w log k rule r answer p e f =
    refused_all (reduce w k rule log) w log r answer (leaves_refused w log _ r _ _ _ (rows_passed w _ p ∙ sym e) f)

pub reduce_dropped : (w log w' log' : List ℕ) (k rule drops : ℕ) (answer : Answer) → archive_rows w 0 ≡ 0 → reduce_rows (read w) k rule (length log) ≡ 0 → drops ≡ word w 0 - k
    → (w' ≡ layout (after_drops rule drops (read w)) ++ behind w) × (log' ≡ put log 0 (notes rule drops (read w)))
    → answer ≡ record { refusal = 0; value = drops } → MeetsOutcome (reduce w k rule log) answer w' log'
unfolding reduce
reduce_dropped w log w' log' k rule drops answer p e d out is =
    let many : drops ≡ length (read w).rows - k = d ∙ ap (λ n. n - k) (sym (count_rows w)) in
    let o = leaves_done w log _ (length (read w).rows - k) (layout (after_drops rule (length (read w).rows - k) (read w)) ++ behind w) (notes rule (length (read w).rows - k) (read w)) (rows_passed w _ p ∙ e) in
    record {
      answered = is ∙ ap (λ n. record { refusal = 0; value = n }) many ∙ sym (ap (λ (x : Outcome). record { refusal = x.refusal; value = x.value }) o);
      left = out.0 ∙ ap (λ n. layout (after_drops rule n (read w)) ++ behind w) many ∙ sym (ap (λ (x : Outcome). x.words) o);
      noted = out.1 ∙ put_front log (notes rule drops (read w)) ∙ ap (λ n. notes rule n (read w) ++ drop (length (notes rule n (read w))) log) many ∙ sym (ap (λ (x : Outcome). x.log) o);
    }
