-- `counts_agree` meets its contract: the total, the front, then each contribution beside its count.
use Prim.Native.Nat.{◌≤◌}
use mathlib.Core.Path.{◌≡◌, sym, ap, subst, ◌∙◌}
use native.Mathlib.Omega.{arith}
use lib.ListN.{length, take}
use lib.Seq.{length-take-le}
use Rattle.hypervolume.specs.Front.{front}
use Rattle.front.specs.Keys.{InOrder}
use Rattle.words.specs.Layout.{read, word}
use Rattle.calls.specs.Calls.{held_points}
use Rattle.calls.proofs.Known.{known}
use Rattle.records.proofs.HeldPoints.{sound_in_order}
use Rattle.ask.proofs.questions.Audits.{many_points, counts_front, total_differs, front_differs, all_equal}
use Rattle.ask.proofs.questions.counts_agree.Goals.{Start, After-count_all-total, After-front}
use Rattle.ask.proofs.questions.counts_agree.Goals as goal

many : (c : Start) → length c.args.points.now ≡ word c.args.w.now 0
many c = many_points c.args.w.now c.requires.1

roomy : (c : After-count_all-total) → length c.args.points.now ≤ length c.count_all-total.new.out
roomy c = omega (arith, c.count_all-total.auto, many (goal.at.After-count_all-total c).Start, known c.args.w.now c.requires.0)

fronts : (c : After-front) → c.front.result ≡ front (held_points (read c.args.w.now))
fronts c = c.front.ensures ∙ ap front c.requires.1

pub bounds-w-5 : goal.bounds-w-5
bounds-w-5 c = omega (arith, known c.args.w.now c.requires.0)

pub returns-then-w-total : goal.returns-then-w-total
returns-then-w-total c = total_differs c.args.w.now _ c.count_all-total.ensures.whole c.if-w-total.true

pub bounds-w-6 : goal.bounds-w-6
bounds-w-6 c = omega (arith, known c.args.w.now c.requires.0)

pub front-requires : goal.front-requires
front-requires c = subst InOrder (sym c.requires.1) (sound_in_order (read c.args.w.now) (known c.args.w.now c.requires.0).sound)

pub returns-then-w-front : goal.returns-then-w-front
returns-then-w-front c = front_differs c.args.w.now _ _ c.count_all-total.ensures.whole c.if-w-total.false (fronts (goal.at.returns-then-w-front c).After-front) c.if-w-front.true

pub slice_bounds-counts-end : goal.slice_bounds-counts-end
slice_bounds-counts-end c = roomy (goal.at.slice_bounds-counts-end c).After-count_all-total

pub slice_bounds-some_differs-end : goal.slice_bounds-some_differs-end
slice_bounds-some_differs-end c = sym (length-take-le _ _ (roomy (goal.at.slice_bounds-some_differs-end c).After-count_all-total))

pub some_differs-requires : goal.some_differs-requires
some_differs-requires c =
    let at = goal.at.some_differs-requires c in
    omega (arith, known c.args.w.now c.requires.0, many at.Start, length-take-le (length c.args.points.now) c.count_all-total.new.out (roomy at.After-count_all-total))

pub returns : goal.returns
returns c =
    let at = goal.at.returns c in
    all_equal c.args.w.now _ _ _ _ c.count_all-total.ensures.whole c.if-w-total.false (fronts at.After-front) c.if-w-front.false
    (ap (λ n. take n c.count_all-total.new.out) (many at.Start) ∙ counts_front c.args.w.now _ _ _ c.count_all-total.ensures) c.some_differs.ensures
