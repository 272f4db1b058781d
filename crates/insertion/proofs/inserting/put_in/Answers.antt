-- `put_in` meets its contract: refused by row 13, or stored.
use Prim.Native.Nat.{ℕ, ◌≤◌}
use mathlib.Core.List.{[]}
use mathlib.Core.Path.{refl, subst}
use native.Mathlib.Omega.{arith}
use lib.ListN.{length, length-take}
use borrow.Author.Rules.{rules}
use Rattle.std.proofs.lemmas.Result.{err_from_is_err_and}
use Rattle.hypervolume.specs.Sorted.{Small}
use Rattle.words.proofs.Places.{point_of_trial}
use Rattle.words.proofs.Passed.{coordinates_small}
use Rattle.insertion.proofs.inserting.Admitting.{admitted}
use Rattle.insertion.proofs.inserting.Storing.{storing}
use Rattle.calls.proofs.Answers.{row_13_given, row_13_passed}
use Rattle.insertion.proofs.inserting.put_in.Goals.{In_ok-moved}
use Rattle.insertion.proofs.inserting.put_in.Goals as goal

pub judge-requires : goal.judge-requires
judge-requires c =
    let own-small : Small c.args.p.at = subst (λ q. Small q) (point_of_trial c.args.number c.args.p.at (search rules))
    (coordinates_small _ (admitted c.args.w.now _ c.requires.0 c.requires.1).coordinates) in
    (c.requires.0, own-small, c.requires.2)

-- The lists that the counts and their places stand in are long enough for all of them.
module _ (c : In_ok-moved) where
  in_places : c.in_ok-moved.moved.places ≤ length c.judge.new.places
  in_places = omega (arith, (c.in_ok-moved.ensures 0).few, c.judge.auto, c.requires.2.places_long)

  in_counts : c.in_ok-moved.moved.places ≤ length c.judge.new.counts
  in_counts = omega (arith, (c.in_ok-moved.ensures 0).few, c.judge.auto, c.requires.2.counts_long)

pub returns-in_err-moved : goal.returns-in_err-moved
returns-in_err-moved c =
    let p = err_from_is_err_and c.from_residual.result c.from_residual.ensures.1 in
    let row_13 = c.in_err-moved.ensures c.args.number in
    rw (p.1, p.2, row_13.0) (record { answer = (row_13_given _ [] [] row_13.1).0; words = (row_13_given _ _ _ row_13.1).1 })

pub slice_bounds-store-end : goal.slice_bounds-store-end
slice_bounds-store-end c = omega (arith, in_places (goal.at.slice_bounds-store-end c).In_ok-moved)

pub slice_bounds-store-end-2 : goal.slice_bounds-store-end-2
slice_bounds-store-end-2 c = omega (arith, length-take {A = ℕ}, in_places (goal.at.slice_bounds-store-end-2 c).In_ok-moved)

pub slice_bounds-store-end-3 : goal.slice_bounds-store-end-3
slice_bounds-store-end-3 c = omega (arith, in_counts (goal.at.slice_bounds-store-end-3 c).In_ok-moved)

pub slice_bounds-store-end-4 : goal.slice_bounds-store-end-4
slice_bounds-store-end-4 c = omega (arith, length-take {A = ℕ}, in_counts (goal.at.slice_bounds-store-end-4 c).In_ok-moved)

pub store-requires : goal.store-requires
store-requires c = storing (c.in_ok-moved.ensures _) c.requires.0 (admitted c.args.w.now _ c.requires.0 c.requires.1).free

pub returns : goal.returns
returns c =
    let fits = (c.in_ok-moved.ensures c.args.number).judged in
    record { answer = (row_13_passed _ [] [] [] fits refl).0; words = (row_13_passed _ _ _ _ fits c.store.ensures).1 }
