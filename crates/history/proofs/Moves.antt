-- The last two sentences of term 3, for every call that is done, on any archive.
use Prim.Native.Nat.{ℕ, ◌+◌, ◌-◌, ◌*◌, ◌≤◌}
use mathlib.Core.Path.{◌≡◌, refl, sym, ap, ◌∙◌}
use mathlib.Core.Bool.{true≢false}
use mathlib.Core.List.{List}
use native.Mathlib.Omega.{arith}
use lib.ListN.{length}
use lib.Seq.{take_at}
use borrow.Author.Tests.{ne_eqb, ltb-false, not-false}
use Rattle.slices.specs.Choices.{both}
use Rattle.words.specs.Layout.{read}
use Rattle.words.specs.Format.{guard, archive_rows}
use Rattle.words.proofs.Passed.{guard_none, passes_again}
use Rattle.calls.specs.Calls.{lowered, raised, inserted, row_of, removed, joint_of, joint_rows, after_drops, notes, reduce_rows}
use Rattle.calls.specs.Lent.{answer, insert, remove, reduce, joint}
use Rattle.calls.proofs.Counted.{audited_counted}
use Rattle.calls.proofs.Sound.{insert_passed, remove_passed, inserted_sound}
use Rattle.calls.proofs.Drops.{drops_down}
use Rattle.calls.proofs.Moves.{new_held, still_held, row_lowered, kept_lowered, left_held, row_raised, kept_raised}
use Rattle.calls.proofs.Lent.{insert_done, remove_done, reduce_done, done_reads, done_passes}
use Rattle.history.specs.Moves.{Held, InsertionLowers, RemovalRaises, logged, ReductionDrops}

-- The joint call on words that pass, for two numbers held.
pub joint_answers : (w : List ℕ) → ((rest : ℕ) → archive_rows w rest ≡ rest) → (m n : ℕ) → Held w m → Held w n
    → (m ≡ n → ⊥) → joint w m n ≡ record { refusal = 0; value = joint_of (read w) m n }
unfolding joint joint_rows answer guard both
joint_answers w passes m n hm hn d =
    rw (passes (joint_rows (read w) m n), hm, hn, ne_eqb m n d)

pub insertion_lowers : InsertionLowers
unfolding InsertionLowers
insertion_lowers w t e n h =
    let done = insert_done w t e in
    let sound = done.passed.sound in
    let rows = insert_passed (read w) t done.rows in
    let reads : read (insert w t).words ≡ inserted (read w) t = done_reads _ _ _ _ _ _ _ done in
    let still : Held (insert w t).words n = rw reads (still_held (read w) t sound rows n h) in
    let apart : t.number ≡ n → ⊥ = λ q. true≢false (sym h ∙ rw (← q) rows.new) in
    let counts =
    joint_answers (insert w t).words (done_passes _ _ _ _ _ _ _ done (inserted_sound (read w) t sound rows))
    t.number n (rw reads (new_held (read w) t sound rows)) still apart in
    let moved : (row_of n (read w).rows).kept ≡ (row_of n (read (insert w t).words).rows).kept + joint_of (read (insert w t).words) t.number n =
    rw reads (kept_lowered (read w) t sound rows n h) in
    record {
      still_held = still;
      same_trial = rw reads (ap (λ r. r.trial) (row_lowered (read w) t sound rows n h) ∙ unfold lowered in refl);
      joint_done = ap (λ q. q.refusal) counts;
      lowered = rw counts moved;
    }

pub removal_raises : RemovalRaises
unfolding RemovalRaises
removal_raises w n e m h d =
    let done = remove_done w n e in
    let sound = done.passed.sound in
    let rows = remove_passed (read w) n done.rows in
    let reads : read (remove w n).words ≡ removed (read w) n = done_reads _ _ _ _ _ _ _ done in
    let counts =
    joint_answers w (λ rest. passes_again w rest done.passed) n m rows.known h (λ q. d (sym q)) in
    let moved : (row_of m (read (remove w n).words).rows).kept ≡ (row_of m (read w).rows).kept + joint_of (read w) n m =
    rw reads (kept_raised (read w) n sound rows m h d) in
    record {
      still_held = rw reads (left_held (read w) n sound rows m h d);
      same_trial = rw reads (ap (λ r. r.trial) (row_raised (read w) n sound rows m h d) ∙ unfold raised in refl);
      joint_done = ap (λ q. q.refusal) counts;
      raised = rw counts moved;
    }

pub reduction_drops : ReductionDrops
unfolding ReductionDrops reduce_rows
reduction_drops w k rule log e =
    let done = reduce_done w k rule log e in
    let ruled = guard_none _ _ _ done.rows in
    let enough = guard_none _ _ _ ruled.1 in
    let room = guard_none _ _ _ enough.1 in
    let yes = guard_none _ _ _ room.1 in
    let most : k ≤ length (read w).rows = ltb-false _ _ enough.0 in
    let n : ℕ = length (read w).rows - k in
    let all = drops_down rule n (read w) done.passed.sound (audited_counted (read w) (not-false _ yes.0)) (omega arith) in
    let reads : read (reduce w k rule log).words ≡ after_drops rule n (read w) = done_reads _ _ _ _ _ _ _ done in
    let wrote : logged w k rule log ≡ notes rule n (read w) = rw (done.value, done.log) (take_at (notes rule n (read w)) _ (2 * n) all.size) in
    let left = all.left in
    record {
      drops = rw (reads, wrote) all.drops;
      left = rw reads (omega arith);
      adds_up = rw (reads, wrote) all.sum;
    }
