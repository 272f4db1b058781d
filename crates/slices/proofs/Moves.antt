-- The loops of move_down and move_up: what is written is known beforehand, and what is read is not written yet.
use Prim.Native.Nat.{ℕ, ◌+◌, ◌-◌, ◌≤◌, ◌<◌}
use mathlib.Core.Path.{◌≡◌, refl, sym, ◌∙◌}
use mathlib.Core.List.{List}
use native.Mathlib.Omega.{arith}
use lib.ListN.{length, take, drop, set, get_or, length-drop}
use lib.Seq.{length-take-le, get_or-take, get_or-drop}
use Rattle.slices.specs.Put.{put}
use Rattle.slices.proofs.Loops.{Written, written_none, written_more, written_behind, written_end, Filled, filled_none, filled_more, filled_before, filled_end}

-- n words of the list from a place on, and one of them.
module _ (old : List ℕ) (from n : ℕ) (room : from + n ≤ length old) where
  pub part_long : length (take n (drop from old)) ≡ n
  part_long = length-take-le n (drop from old) (omega (arith, length-drop from old))

  part_at : (i : ℕ) → i < n → get_or (take n (drop from old)) i 0 ≡ get_or old (from + i) 0
  part_at i l = get_or-take n (drop from old) i 0 l ∙ get_or-drop from old i 0

pub record Lowering (old : List ℕ) (at n by i : ℕ) (now : List ℕ) : Type 0 where
  pub done : Written old at (take n (drop (at + by) old)) i now
  pub part : i ≤ n
  pub room : at + n + by ≤ length old
  pub long : length now ≡ length old

pub lowering_none : (old : List ℕ) (at n by : ℕ) → at + n + by ≤ length old → Lowering old at n by 0 old
lowering_none old at n by room =
    record {
      done = written_none old at (take n (drop (at + by) old)) (omega (arith, part_long old (at + by) n (omega arith)));
      part = omega arith;
      room = room;
      long = refl;
    }

module _ {old : List ℕ} {at n by i : ℕ} {now : List ℕ} (h : Lowering old at n by i now) where
  pub lowering_more : i < n → Lowering old at n by (i + 1) (set now (at + i) (get_or now (at + by + i) 0))
  lowering_more l =
      let room : at + n + by ≤ length old = h.room in
      let long : length (take n (drop (at + by) old)) ≡ n = part_long old (at + by) n (omega arith) in
      let value : get_or now (at + by + i) 0 ≡ get_or (take n (drop (at + by) old)) i 0 =
      written_behind h.done (at + by + i) (omega arith) ∙ sym (part_at old (at + by) n (omega arith) i l) in
      let done : Written old at (take n (drop (at + by) old)) (i + 1) (set now (at + i) (get_or now (at + by + i) 0)) = written_more h.done _ (omega arith) value in
      record { done = done; part = omega arith; room = room; long = done.long }

  pub lowering_end : n ≤ i → now ≡ put old at (take n (drop (at + by) old))
  lowering_end l =
      let room : at + n + by ≤ length old = h.room in
      written_end h.done (omega (arith, part_long old (at + by) n (omega arith)))

pub record Raising (old : List ℕ) (at n by left : ℕ) (now : List ℕ) : Type 0 where
  pub done : Filled old (at + by) (take n (drop at old)) left now
  pub part : left ≤ n
  pub room : at + n + by ≤ length old
  pub long : length now ≡ length old

pub raising_none : (old : List ℕ) (at n by : ℕ) → at + n + by ≤ length old → Raising old at n by n old
raising_none old at n by room =
    let long : length (take n (drop at old)) ≡ n = part_long old at n (omega arith) in
    record {
      done = filled_none old (at + by) (take n (drop at old)) n (omega arith) (sym long);
      part = omega arith;
      room = room;
      long = refl;
    }

module _ {old : List ℕ} {at n by left : ℕ} {now : List ℕ} (h : Raising old at n by left now) where
  pub raising_more : 0 < left → Raising old at n by (left - 1) (set now (at + by + (left - 1)) (get_or now (at + (left - 1)) 0))
  raising_more l =
      let room : at + n + by ≤ length old = h.room in
      let part : left ≤ n = h.part in
      let value : get_or now (at + (left - 1)) 0 ≡ get_or (take n (drop at old)) (left - 1) 0 =
      filled_before h.done (at + (left - 1)) (omega arith) ∙ sym (part_at old at n (omega arith) (left - 1) (omega arith)) in
      let done : Filled old (at + by) (take n (drop at old)) (left - 1) (set now (at + by + (left - 1)) (get_or now (at + (left - 1)) 0)) =
      filled_more h.done (left - 1) _ (omega arith) value in
      record { done = done; part = omega arith; room = room; long = done.long }

  pub raising_end : left ≤ 0 → now ≡ put old (at + by) (take n (drop at old))
  raising_end l = filled_end h.done (omega arith)
