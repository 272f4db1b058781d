-- A call that is done, over words: it has passed rows 1 to 3 and its own, and what it leaves reads as the new archive
-- and passes rows 1 to 3 again.
use Prim.Native.Nat.{ℕ, zero, suc, ◌-◌}
use mathlib.Core.Path.{◌≡◌, refl, sym, ap, ◌∙◌}
use mathlib.Core.List.{List, ◌++◌, []}
use lib.ListN.{length, drop}
use Rattle.words.specs.Archive.{Trial, Archive}
use Rattle.words.specs.Layout.{layout, read, behind}
use Rattle.words.specs.Format.{archive_rows}
use Rattle.words.proofs.Reading.{read_layout}
use Rattle.words.proofs.Passed.{Passed, passed, Sound, sound_passes, passed_both}
use Rattle.calls.specs.Calls.{inserted, insert_rows, removed, remove_rows, after_drops, notes, reduce_rows}
use Rattle.calls.specs.Lent.{Outcome, leaves, insert, remove, reduce}

pub leaves_refusal : (w log : List ℕ) (k value : ℕ) (words noted : List ℕ) → (leaves w log k value words noted).refusal ≡ k
unfolding leaves
leaves_refusal w log zero value words noted = refl
leaves_refusal w log (suc k) value words noted = refl

pub leaves_unrefused : (w log : List ℕ) (k value : ℕ) (words noted : List ℕ)
    → (leaves w log k value words noted).refusal ≡ 0
    → leaves w log k value words noted ≡ leaves w log 0 value words noted
leaves_unrefused w log k value words noted e =
    ap (λ n. leaves w log n value words noted) (sym (leaves_refusal w log k value words noted) ∙ e)

-- A call with these rows, value, new archive and notes that is done on these words.
pub record CallDone (w l : List ℕ) (k v : ℕ) (a : Archive) (noted : List ℕ) (o : Outcome) : Type 0 where
  pub passed : Passed w
  pub rows : k ≡ 0
  pub value : o.value ≡ v
  pub words : o.words ≡ layout a ++ behind w
  pub log : o.log ≡ noted ++ drop (length noted) l

call_done : (w log : List ℕ) (rows value : ℕ) (a : Archive) (noted : List ℕ)
    → (leaves w log (archive_rows w rows) value (layout a ++ behind w) noted).refusal ≡ 0
    → CallDone w log rows value a noted (leaves w log (archive_rows w rows) value (layout a ++ behind w) noted)
unfolding leaves
call_done w log rows value a noted e =
    let both = passed_both w rows (sym (leaves_refusal w log (archive_rows w rows) value (layout a ++ behind w) noted) ∙ e) in
    let done = leaves_unrefused w log (archive_rows w rows) value (layout a ++ behind w) noted e in
    record {
      passed = passed w both.0;
      rows = both.1;
      value = ap (λ o. o.value) done;
      words = ap (λ o. o.words) done;
      log = ap (λ o. o.log) done;
    }

pub insert_done : (w : List ℕ) (t : Trial) → (insert w t).refusal ≡ 0 → CallDone w [] (insert_rows (read w) t) 0 (inserted (read w) t) [] (insert w t)
unfolding insert
insert_done w t = call_done w [] (insert_rows (read w) t) 0 (inserted (read w) t) []

pub remove_done : (w : List ℕ) (n : ℕ) → (remove w n).refusal ≡ 0 → CallDone w [] (remove_rows (read w) n) 0 (removed (read w) n) [] (remove w n)
unfolding remove
remove_done w n = call_done w [] (remove_rows (read w) n) 0 (removed (read w) n) []

pub reduce_done : (w : List ℕ) (k rule : ℕ) (log : List ℕ) → (reduce w k rule log).refusal ≡ 0
    → CallDone w log (reduce_rows (read w) k rule (length log)) (length (read w).rows - k) (after_drops rule (length (read w).rows - k) (read w)) (notes rule (length (read w).rows - k) (read w)) (reduce w k rule log)
unfolding reduce
reduce_done w k rule log = call_done w log _ _ _ _

-- What such a call leaves.
module _ (w log : List ℕ) (rows value : ℕ) (a : Archive) (noted : List ℕ) (o : Outcome) (d : CallDone w log rows value a noted o) where
  pub done_reads : read o.words ≡ a
  done_reads = rw d.words (read_layout a (behind w))

  pub done_passes : Sound a → (rest : ℕ) → archive_rows o.words rest ≡ rest
  done_passes s rest = rw d.words (sound_passes a (behind w) rest s)
