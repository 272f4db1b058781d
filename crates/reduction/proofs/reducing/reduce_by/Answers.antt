-- `reduce_by` meets its contract: the columns are loaded, the drops made and the front counted in them, and all is written back.
use Prim.Native.Nat.{◌-◌}
use mathlib.Core.Path.{◌≡◌, refl, sym}
use native.Mathlib.Omega.{arith}
use lib.Seq.{length-take-le}
use Rattle.slices.specs.Put.{put}
use Rattle.calls.proofs.Known.{known}
use Rattle.words.specs.Layout.{word, read}
use Rattle.calls.specs.Calls.{after_drops, notes}
use Rattle.reduction.specs.Columns.{InColumns}
use Rattle.reduction.proofs.reducing.Storing.{loaded, droppable_words, left_in_order, stores, storing}
use Rattle.reduction.proofs.reducing.reduce_by.Goals.{After-load-2, After-drop_all-left}
use Rattle.reduction.proofs.reducing.reduce_by.Goals as goal

start : (c : After-load-2) → InColumns (read c.args.w.now) c.reference_of-reference.result.at (word c.args.w.now 0) (word c.args.w.now 5) c.load.new.to c.load_points.new.to c.load-2.new.to
start c = loaded c.args.w.now _ c.requires.0 refl _ _ _ _ _ _ _ _ c.reference_of-reference.ensures c.load.ensures c.load_points.ensures c.load-2.ensures

-- The drops, from these columns.
dropped : (c : After-drop_all-left)
    → InColumns (read c.args.w.now) c.reference_of-reference.result.at (word c.args.w.now 0) (word c.args.w.now 5) c.load.new.to c.load_points.new.to c.load-2.new.to
    → InColumns (after_drops c.args.rule c.args.drops (read c.args.w.now)) c.reference_of-reference.result.at (word c.args.w.now 0 - c.args.drops) c.drop_all-left.result c.drop_all-left.new.numbers c.drop_all-left.new.points c.drop_all-left.new.kept
    × (c.drop_all-left.new.log ≡ put c.args.log.now 0 (notes c.args.rule c.args.drops (read c.args.w.now)))
dropped c first = c.drop_all-left.ensures (read c.args.w.now) first (droppable_words c.args.w.now _ c.requires.0 refl c.requires.1)

pub bounds-w-0 : goal.bounds-w-0
bounds-w-0 c = omega (arith, known c.args.w.now c.requires.0)

pub bounds-w-5 : goal.bounds-w-5
bounds-w-5 c = omega (arith, known c.args.w.now c.requires.0)

pub load-requires : goal.load-requires
load-requires c = ((known c.args.w.now c.requires.0).records_long, omega arith, (known c.args.w.now c.requires.0).few)

pub load-requires-2 : goal.load-requires-2
load-requires-2 c = ((known c.args.w.now c.requires.0).records_long, omega arith, (known c.args.w.now c.requires.0).few)

pub drop_all-left-requires : goal.drop_all-left-requires
drop_all-left-requires c = (
  record {
    archive = read c.args.w.now;
    inside = start (goal.at.drop_all-left-requires c).After-load-2;
    droppable = droppable_words c.args.w.now _ c.requires.0 refl c.requires.1;
  },
  (known c.args.w.now c.requires.0).few,
  c.requires.2,
  c.requires.3,
)

pub slice_bounds-points-end : goal.slice_bounds-points-end
slice_bounds-points-end c = omega (arith, c.drop_all-left.auto, (known c.args.w.now c.requires.0).few)

pub slice_bounds-front-end : goal.slice_bounds-front-end
slice_bounds-front-end c = sym (length-take-le _ _ (omega (arith, c.drop_all-left.auto, (known c.args.w.now c.requires.0).few)))

pub front-size-requires : goal.front-size-requires
front-size-requires c =
    let at = goal.at.front-size-requires c in
    left_in_order c.args.w.now c.args.rule c.args.drops _ (dropped at.After-drop_all-left (start at.After-load-2)).0 c.requires.0 c.requires.1 c.requires.2

pub store-requires : goal.store-requires
store-requires c =
    let at = goal.at.store-requires c in
    storing c.args.w.now c.args.rule c.args.drops _ (dropped at.After-drop_all-left (start at.After-load-2)).0 c.requires.0 refl

pub returns : goal.returns
returns c =
    let at = goal.at.returns c in
    let out = dropped at.After-drop_all-left (start at.After-load-2) in
    (c.store.ensures (after_drops c.args.rule c.args.drops (read c.args.w.now)) (stores c.args.w.now c.args.rule c.args.drops _ out.0 c.requires.0 c.requires.1 c.requires.2 _ c.front-size.ensures), out.1)
