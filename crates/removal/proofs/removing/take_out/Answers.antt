-- `take_out` meets its contract: refused by row 13, or stored and its front counted.
use mathlib.Core.Path.{refl}
use mathlib.Core.List.{[]}
use Prim.Native.Nat.{ℕ, ◌≤◌}
use native.Mathlib.Omega.{arith}
use lib.ListN.{length, length-take}
use borrow.Author.Rules.{rules}
use Rattle.std.proofs.lemmas.Result.{err_from_is_err_and}
use Rattle.calls.proofs.Answers.{row_13_given, row_13_passed}
use Rattle.removal.proofs.removing.Storing.{places_few, striking, removal_passes, removal_renewed}
use Rattle.removal.proofs.removing.take_out.Goals.{In_ok-moved}
use Rattle.removal.proofs.removing.take_out.Goals as goal

-- The lists that the counts and their places stand in are long enough for all of them.
module _ (c : In_ok-moved) where
  in_places : c.in_ok-moved.moved.places ≤ length c.raised.new.places
  in_places = omega (arith, places_few c.in_ok-moved.ensures c.requires.0, c.raised.auto)

  in_counts : c.in_ok-moved.moved.places ≤ length c.raised.new.counts
  in_counts = omega (arith, places_few c.in_ok-moved.ensures c.requires.0, c.raised.auto)

pub returns-in_err-moved : goal.returns-in_err-moved
returns-in_err-moved c =
    let p = err_from_is_err_and c.from_residual.result c.from_residual.ensures.1 in
    let row_13 = c.in_err-moved.ensures in
    rw (p.1, p.2, row_13.0) (record { answer = (row_13_given _ [] [] row_13.1).0; words = (row_13_given _ _ _ row_13.1).1 })

pub slice_bounds-places-end : goal.slice_bounds-places-end
slice_bounds-places-end c = omega (arith, in_places (goal.at.slice_bounds-places-end c).In_ok-moved)

pub slice_bounds-store-end : goal.slice_bounds-store-end
slice_bounds-store-end c = omega (arith, length-take {A = ℕ}, in_places (goal.at.slice_bounds-store-end c).In_ok-moved)

pub slice_bounds-counts-end : goal.slice_bounds-counts-end
slice_bounds-counts-end c = omega (arith, in_counts (goal.at.slice_bounds-counts-end c).In_ok-moved)

pub slice_bounds-store-end-2 : goal.slice_bounds-store-end-2
slice_bounds-store-end-2 c = omega (arith, length-take {A = ℕ}, in_counts (goal.at.slice_bounds-store-end-2 c).In_ok-moved)

pub store-requires : goal.store-requires
store-requires c = striking c.in_ok-moved.ensures c.requires.0 (search rules) (search rules) c.requires.1

pub renew-requires : goal.renew-requires
renew-requires c = removal_passes _ _ _ c.requires.0 c.requires.1 c.in_ok-moved.ensures.judged c.store.ensures

pub returns : goal.returns
returns c =
    let fit = c.in_ok-moved.ensures.judged in
    record { answer = (row_13_passed _ [] [] [] fit refl).0; words = (row_13_passed _ _ _ _ fit (removal_renewed _ _ _ c.requires.0 c.requires.1 fit c.store.ensures _ c.renew.ensures)).1 }
