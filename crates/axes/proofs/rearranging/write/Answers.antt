-- `write` meets its contract: a key for each record, in two arrays.
use Prim.Native.Nat.{ℕ}
use native.Mathlib.Omega.{arith}
use mathlib.Core.Path.{◌≡◌, sym}
use lib.ListN.{length, take, replicate}
use lib.Seq.{length-take-le}
use Rattle.words.specs.Layout.{word}
use Rattle.calls.proofs.Known.{known}
use Rattle.axes.proofs.rearranging.write.Goals.{Start}
use Rattle.axes.proofs.rearranging.write.Goals as goal

-- A slice of keys is as long as there are records.
keys_many : (c : Start) → length {A = ℕ} (take (word c.args.w.now 0) (replicate 512 0)) ≡ word c.args.w.now 0
keys_many c = length-take-le {A = ℕ} _ (replicate 512 0) (known _ c.requires.0).few

pub bounds-w-0 : goal.bounds-w-0
bounds-w-0 c = omega (arith, known _ c.requires.0)

pub slice_bounds-keys-end : goal.slice_bounds-keys-end
slice_bounds-keys-end c = (known _ c.requires.0).few

pub slice_bounds-write_by-end : goal.slice_bounds-write_by-end
slice_bounds-write_by-end c = sym (keys_many (goal.at.slice_bounds-write_by-end c).Start)

pub slice_bounds-out-end : goal.slice_bounds-out-end
slice_bounds-out-end c = (known _ c.requires.0).few

pub slice_bounds-write_by-end-2 : goal.slice_bounds-write_by-end-2
slice_bounds-write_by-end-2 c = sym (keys_many (goal.at.slice_bounds-write_by-end-2 c).Start)

pub write_by-requires : goal.write_by-requires
write_by-requires c =
    let many = keys_many (goal.at.write_by-requires c).Start in
    (c.requires.0, c.requires.1, many, many, c.requires.2)
