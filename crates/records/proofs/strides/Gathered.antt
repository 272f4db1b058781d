-- The loop of load: so many of the words are copied.
use Prim.Native.Nat.{ℕ, zero, suc, ◌+◌, ◌*◌, ◌≤◌, ◌<◌}
use mathlib.Core.Path.{◌≡◌, refl, sym, ap, ◌∙◌}
use mathlib.Core.List.{List}
use native.Mathlib.Nat.{zero-add}
use native.Mathlib.Omega.{arith}
use lib.ListN.{length, drop, set, get_or}
use lib.Seq.{get_or-drop}
use Rattle.slices.specs.Put.{put}
use Rattle.slices.proofs.Loops.{Written, written_none, written_more, written_end}
use Rattle.records.specs.Columns.{fifths}
use Rattle.records.proofs.Columns.{length_fifths}

fifths_at : (n : ℕ) (w : List ℕ) (i : ℕ) → i < n → get_or w (5 * i) 0 ≡ get_or (fifths n w) i 0
unfolding fifths
fifths_at zero w i l = absurd (let no' : ⊥ = omega arith in no')
fifths_at (suc n) w zero l = refl
fifths_at (suc n) w (suc i) l =
    ap (λ k. get_or w k 0) (let e : 5 * suc i ≡ 5 + 5 * i = omega arith in e)
    ∙ sym (get_or-drop 5 w (5 * i) 0)
    ∙ fifths_at n (drop 5 w) i (omega arith)

pub record Gathered (w : List ℕ) (first n : ℕ) (old now : List ℕ) (i : ℕ) : Type 0 where
  pub part : i ≤ n
  pub room : n ≤ length old
  pub long : length now ≡ length old
  pub done : Written old 0 (fifths n (drop first w)) i now

module _ (w : List ℕ) (first n : ℕ) where
  many : length (fifths n (drop first w)) ≡ n
  many = length_fifths n (drop first w)

  pub gathered_none : (old : List ℕ) → n ≤ length old → Gathered w first n old old 0
  gathered_none old room =
      record {
        part = omega arith;
        room = room;
        long = refl;
        done = written_none old 0 (fifths n (drop first w)) (omega (arith, many));
      }

module _ {w : List ℕ} {first n : ℕ} {old now : List ℕ} {i : ℕ} (h : Gathered w first n old now i) where
  pub gathered_more : i < n → Gathered w first n old (set now i (get_or w (first + 5 * i) 0)) (i + 1)
  gathered_more l =
      let done : Written old 0 (fifths n (drop first w)) (i + 1) (set now i (get_or w (first + 5 * i) 0)) =
      rw (zero-add i) at (written_more h.done _ (omega (arith, many w first n)) (sym (get_or-drop first w (5 * i) 0) ∙ fifths_at n (drop first w) i l)) in
      record { part = omega arith; room = h.room; long = done.long; done = done }

  pub gathered_end : n ≤ i → now ≡ put old 0 (fifths n (drop first w))
  gathered_end l = written_end h.done (omega (arith, many w first n))
