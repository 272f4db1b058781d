-- `count4` meets its contract: turned down by a row, or counted.
use mathlib.Core.Path.{refl, sym, ap, ◌∙◌}
use mathlib.Core.List.{◌∷◌, ◌++◌, []}
use native.Mathlib.Omega.{arith}
use lib.ListN.{length}
use Rattle.std.proofs.lemmas.Result.{err_from_is_err_and}
use Rattle.refusals.proofs.Table.{number_positive}
use Rattle.slices.specs.Put.{put}
use Rattle.words.proofs.Passed.{each_bounds}
use Rattle.sweep4.specs.Quadruples.{points_of, counts_of}
use Rattle.four.proofs.Rows.{Allowed, allowed, refused, done}
use Rattle.four.proofs.count4.Goals.{In_ok-refusal}
use Rattle.four.proofs.count4.Goals as goal

-- What a call has that no row turns down.
passed : (c : In_ok-refusal) → Allowed (c.args.rx ∷ c.args.ry ∷ c.args.rz ∷ c.args.rw ∷ []) c.args.coords.now (length c.args.out.now)
passed c = allowed _ _ _ (sym c.in_ok-refusal.ensures)

pub returns-in_err-refusal : goal.returns-in_err-refusal
returns-in_err-refusal c =
    let p = err_from_is_err_and c.from_residual.result c.from_residual.ensures.1 in
    rw (p.1, p.2) (refused _ _ _ c.in_err-refusal.ensures (number_positive _))

pub new-requires : goal.new-requires
new-requires c =
    let small = each_bounds 1 32768 _ (passed (goal.at.new-requires c).In_ok-refusal).referred in
    (omega (arith, (small 0).1), omega (arith, (small 1).1), omega (arith, (small 2).1))

pub overflow_cast-rw : goal.overflow_cast-rw
overflow_cast-rw c =
    omega (arith, (each_bounds 1 32768 _ (passed (goal.at.overflow_cast-rw c).In_ok-refusal).referred 3).1)

pub count-requires : goal.count-requires
count-requires c =
    let own = passed (goal.at.count-requires c).In_ok-refusal in
    (own.readable, rw c.new.ensures own.referred, own.enough)

pub returns : goal.returns
returns c =
    done _ _ _ c.in_ok-refusal.ensures refl (c.count.ensures ∙ ap (λ p. put c.args.out.now 0 (counts_of (p ++ (c.args.rw ∷ [])) (points_of c.args.coords.now))) c.new.ensures)
