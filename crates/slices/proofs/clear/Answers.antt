-- `clear` meets its contract: the part is filled with 0, and the words around it stay.
use Rattle.std.proofs.Common.{◌≡◌, ℕ, ◌+◌, ◌-◌, length, take, drop, replicate, ap, ◌∙◌, arith, length-take, length-drop}
use Rattle.std.proofs.lemmas.List.{length-replicate}
use Rattle.slices.proofs.Put.{put_part}
use Rattle.slices.proofs.clear.Goals as goal

pub returns : goal.returns
returns c =
    let many : length (take (c.args.at + c.args.n - c.args.at) (drop c.args.at c.args.w.now)) ≡ c.args.n = simp (length-take, length-drop) (omega arith) in
    put_part c.args.w.now c.args.at _ _ _
    (c.fill.ensures.after (λ y h. h) ∙ ap (λ k. replicate k 0) many)
    (omega (arith, length-replicate {A = ℕ} c.args.n 0))
